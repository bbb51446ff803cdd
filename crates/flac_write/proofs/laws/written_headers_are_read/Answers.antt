use Rattle.flac_definitions.specs.HeaderWriting.{header_bits}
use Rattle.flac_write.proofs.HeaderLaws.{header_spelled}
use Rattle.flac_write.proofs.laws.written_headers_are_read.Goals as goal

pub returns : goal.returns
returns c = record {
  spelled = header_spelled;
  read = λ info h bytes w d b. c.headers_are_spelled.ensures.whole info bytes h (header_bits h) (header_spelled info h w d) b;
}
