use Rattle.std.proofs.Common.{length}
use Rattle.coder_api.specs.Meaning.{IsConfigured}
use Rattle.flac_encode_speed.proofs.encode_all.Given as goal

abbrev pub invariant-loop-rest : goal.invariant-loop-rest
invariant-loop-rest g l = IsConfigured l.encoder.meaning

abbrev pub decreases-loop-rest : goal.decreases-loop-rest
decreases-loop-rest g l = length l.rest
