use Rattle.std.proofs.Common.{ℕ, ◌≡◌, ◌<◌, length}
use Rattle.flac_definitions.specs.FixedPredictors.{at}
use Rattle.flac_definitions.specs.Modes.{side_of}
use Rattle.flac_blocks.proofs.pair.fill_sides.Given as goal

abbrev pub invariant-loop-i : goal.invariant-loop-i
invariant-loop-i l = record {
  count : length l.out ≡ length l.left;
  values : (k : ℕ) → k < l.i → at l.out k ≡ side_of (at l.left k) (at l.right k);
}
