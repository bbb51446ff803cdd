use Rattle.std.proofs.Common.{◌≡◌, ◌≤◌, ℕ, Some, length, vec_capacity}
use Rattle.std.specs.Prelude.{slice_get}
use Rattle.shared_variables.specs.Ports.{WholeParcel}
use Rattle.shared_port.specs.declared.port.PortPass.{PortPass}
use Rattle.wc_run.proofs.Passes.{FirstDone, LeftAt, NewAt}
use Rattle.wc_run.proofs.ports.split_passes.Given as goal

-- the passes of the first ports were split
abbrev pub invariant-loop-place : goal.invariant-loop-place
invariant-loop-place l = record {
  first : FirstDone (LeftAt l.fn.ports) l.place l.fn.passes.items l.passes.items;
  new : (q : ℕ) (r : PortPass WholeParcel) → slice_get l.parts.items q ≡ Some r → NewAt l.fn.ports l.fn.passes.items q r;
  many : length l.parts.items ≡ l.place;
  end : l.place-end ≡ length l.fn.ports;
  below : l.place ≤ l.place-end;
  room : vec_capacity l.parts ≡ vec_capacity l.fn.parts;
}
