use Rattle.std.proofs.Common.{◌≡◌, ◌≤◌, ◌+◌, [], drop, length}
use Rattle.json_data.specs.View.{items_view}
use Rattle.wc_script.specs.Callers.{callers_of}
use Rattle.wc_script.proofs.callers.read_callers.Given as goal

abbrev pub invariant-loop-value : goal.invariant-loop-value
invariant-loop-value l =
    (callers_of l.codecs l.ports [] [] l.fn.room (items_view l.items)
    ≡ callers_of l.codecs l.ports l.callers.items l.files l.left (items_view (drop l.value-index l.items)))
    × (length l.callers.items ≡ l.value-index)
    × (length l.files + l.left.steps ≤ 100000)
