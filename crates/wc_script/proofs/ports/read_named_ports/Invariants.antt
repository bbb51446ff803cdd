use Rattle.std.proofs.Common.{◌≡◌, ◌++◌, drop}
use Rattle.json_data.specs.View.{items_view}
use Rattle.wc_script.specs.Ports.{items_of}
use Rattle.wc_script.proofs.ports.read_named_ports.Given as goal

abbrev pub invariant-loop-value : goal.invariant-loop-value
invariant-loop-value l = items_of (items_view l.items) ≡ l.ports ++ items_of (items_view (drop l.value-index l.items))
