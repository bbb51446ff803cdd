use Rattle.std.proofs.Common.{◌≡◌, drop}
use Rattle.flac_definitions.specs.Candidates.{are_all}
use Rattle.flac_subframes.proofs.choice.is_constant.Given as goal

abbrev pub invariant-loop-sample : goal.invariant-loop-sample
invariant-loop-sample l = are_all l.first (drop l.sample-index l.samples) ≡ are_all l.first l.samples
