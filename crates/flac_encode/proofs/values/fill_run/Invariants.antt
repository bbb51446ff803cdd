use Rattle.std.proofs.Common.{ℕ, ◌≡◌, ◌<◌, length}
use Rattle.flac_definitions.specs.FixedPredictors.{at}
use Rattle.flac_definitions.specs.SubframeWriting.{HasDepth}
use Rattle.flac_encode.specs.Runs.{run_value}
use Rattle.flac_encode.proofs.values.fill_run.Given as goal

abbrev pub invariant-loop-i : goal.invariant-loop-i
invariant-loop-i l = record {
  count : length l.out ≡ length l.fn.out;
  values : (k : ℕ) → k < l.i → at l.out k ≡ run_value l.size l.depth l.bytes k;
  fit : (k : ℕ) → k < l.i → HasDepth l.depth (at l.out k);
}
