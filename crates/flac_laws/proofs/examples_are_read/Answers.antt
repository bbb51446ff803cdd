use Rattle.std.proofs.Common.{refl}
use Rattle.flac_definitions.specs.Bits.{bits_of, number_of, bits_in, zeros_before}
use Rattle.flac_definitions.specs.Sums.{remainder_after}
use Rattle.flac_definitions.specs.Header.{codes_at, coded_number_at, block_size_at, sample_rate_at, header_sum_at, header_at}
use Rattle.flac_definitions.specs.Stereo.{plain_channels}
use Rattle.flac_definitions.specs.Subframe.{constant_at, subframe_at}
use Rattle.flac_definitions.specs.Frame.{footer_at, frame_at}
use Rattle.flac_laws.proofs.examples_are_read.Goals as goal

pub returns : goal.returns
unfolding bits_of number_of bits_in zeros_before remainder_after codes_at coded_number_at block_size_at sample_rate_at header_sum_at header_at plain_channels constant_at subframe_at footer_at frame_at
returns c = record { verbatim = refl; middle = refl }
