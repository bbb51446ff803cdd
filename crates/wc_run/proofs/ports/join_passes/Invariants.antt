use Rattle.std.proofs.Common.{◌≡◌, ℕ, Some, length}
use Rattle.std.specs.Prelude.{slice_get}
use Rattle.shared_variables.specs.Ports.{WholeParcel}
use Rattle.shared_port.specs.declared.port.PortPass.{PortPass}
use Rattle.wc_run.proofs.Passes.{JoinedAt, LastDone}
use Rattle.wc_run.proofs.ports.join_passes.Given as goal

-- the passes of the last ports were joined
abbrev pub invariant-loop-other : goal.invariant-loop-other
invariant-loop-other l = record {
  last : LastDone (JoinedAt l.fn.ports l.fn.others.items) (length l.others.items) l.fn.passes.items l.passes.items;
  left : (q : ℕ) (o : PortPass WholeParcel) → slice_get l.others.items q ≡ Some o → slice_get l.fn.others.items q ≡ Some o;
}

abbrev pub decreases-loop-other : goal.decreases-loop-other
decreases-loop-other l = length l.others.items
