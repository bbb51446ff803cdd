use Rattle.std.proofs.Common.{◌≡◌, [], drop, Some, None, if◌then◌else◌}
use Rattle.json_data.specs.View.{items_view}
use Rattle.script_steps.specs.CopyOptions.{planes_of}
use Rattle.script_steps.proofs.options.read_planes.Given as goal

abbrev pub invariant-loop-value : goal.invariant-loop-value
invariant-loop-value l =
    planes_of (Some []) (items_view l.items)
    ≡ planes_of (if l.all_right then Some l.planes.items else None) (items_view (drop l.value-index l.items))
