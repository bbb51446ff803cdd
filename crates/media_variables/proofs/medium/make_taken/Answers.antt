use Rattle.std.proofs.Common.{ap, refl}
use Rattle.codec_definitions.specs.declared.unit.Unit as output
use Rattle.media_variables.specs.Given.{taken_done}
use Rattle.media_variables.proofs.Made.{chunk_given}
use Rattle.media_variables.proofs.medium.make_taken.Goals as goal

pub returns-in-Coded-clause-ok : goal.returns-in-Coded-clause-ok
returns-in-Coded-clause-ok g c =
    chunk_given _ _ c.args.who (taken_done c.args.answer c.args.unit) c.args.answer c.in-Coded.chunk c.take_chunk.result (λ n. ap (λ (u : output.Unit). taken_done c.args.answer u n) c.in-Coded.is) c.take_chunk.ensures refl
