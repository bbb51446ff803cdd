use Rattle.std.proofs.Common.{refl}
use Rattle.flac_definitions.specs.Bits.{bits_of}
use Rattle.flac_definitions.specs.Sums.{remainder_after}
use Rattle.flac_bits.proofs.parts_16.table_3.Goals as goal

pub returns : goal.returns
unfolding bits_of remainder_after
returns c = refl
