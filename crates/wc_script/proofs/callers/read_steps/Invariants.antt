use Rattle.std.proofs.Common.{◌≡◌, ◌≤◌, ◌+◌, [], drop, length}
use Rattle.json_data.specs.View.{items_view}
use Rattle.wc_script.specs.Callers.{steps_of}
use Rattle.wc_script.proofs.callers.read_steps.Given as goal

abbrev pub invariant-loop-value : goal.invariant-loop-value
invariant-loop-value l =
    (steps_of l.codecs l.ports l.i (record { steps = []; files = l.fn.files; room = l.fn.room }) (items_view l.items)
    ≡ steps_of l.codecs l.ports l.i l.walked (items_view (drop l.value-index l.items)))
    × (length l.walked.files + l.walked.room.steps ≤ 100000)
    × (length l.walked.steps + l.walked.room.steps ≤ 100000)
