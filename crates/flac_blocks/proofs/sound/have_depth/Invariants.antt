use Rattle.std.proofs.Common.{ℕ, ◌<◌}
use Rattle.flac_definitions.specs.FixedPredictors.{at}
use Rattle.flac_definitions.specs.SubframeWriting.{HasDepth}
use Rattle.flac_blocks.proofs.sound.have_depth.Given as goal

abbrev pub invariant-loop-sample : goal.invariant-loop-sample
invariant-loop-sample l = (k : ℕ) → k < l.sample-index → HasDepth l.depth (at l.samples k)
