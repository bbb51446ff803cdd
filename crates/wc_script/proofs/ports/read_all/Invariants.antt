use Rattle.std.proofs.Common.{◌≡◌, drop}
use Rattle.json_data.specs.View.{items_view}
use Rattle.wc_script.specs.Ports.{items_of, all_ports}
use Rattle.wc_script.proofs.PortLaws.{ahead}
use Rattle.wc_script.proofs.ports.read_all.Given as goal

abbrev pub invariant-loop-value : goal.invariant-loop-value
invariant-loop-value l = all_ports (items_of (items_view l.items)) ≡ ahead l.ports.items (all_ports (items_of (items_view (drop l.value-index l.items))))
