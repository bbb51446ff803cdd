use Rattle.std.proofs.Common.{◌≡◌, [], drop}
use Rattle.json_data.specs.View.{items_view}
use Rattle.script_steps.specs.Buffers.{listed_of}
use Rattle.script_steps.proofs.buffers.read_listed.Given as goal

abbrev pub invariant-loop-value : goal.invariant-loop-value
invariant-loop-value l =
    listed_of l.before [] (items_view l.items) ≡ listed_of l.before l.listed.items (items_view (drop l.value-index l.items))
