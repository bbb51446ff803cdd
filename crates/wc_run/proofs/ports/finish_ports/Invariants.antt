use Rattle.std.proofs.Common.{◌≡◌, ◌≤◌, ℕ, Some, length}
use Rattle.std.specs.Prelude.{slice_get}
use Rattle.shared_variables.specs.Ports.{WholeParcel}
use Rattle.shared_port.specs.declared.port.PortPass.{PortPass}
use Rattle.shared_port.specs.Ports.{PortId, IsPassOf, seen}
use Rattle.wc_run.specs.Ports.{HasAccount}
use Rattle.wc_run.proofs.ports.finish_ports.Given as goal

-- the last ports were finished
abbrev pub invariant-loop-port : goal.invariant-loop-port
invariant-loop-port g l = record {
  many : length l.passes.items ≡ length l.ports.items;
  each : (q : ℕ) (port : PortId) (p : PortPass WholeParcel) → slice_get l.ports.items q ≡ Some port → slice_get l.passes.items q ≡ Some p → IsPassOf port p;
  left : (q : ℕ) (p : PortPass WholeParcel) → slice_get l.passes.items q ≡ Some p → slice_get l.fn.passes.items q ≡ Some p;
  done : (q : ℕ) (p : PortPass WholeParcel) → length l.passes.items ≤ q → slice_get l.fn.passes.items q ≡ Some p → HasAccount (seen p);
}

abbrev pub decreases-loop-port : goal.decreases-loop-port
decreases-loop-port g l = length l.ports.items
