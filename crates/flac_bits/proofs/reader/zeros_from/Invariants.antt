use Rattle.std.proofs.Common.{◌≡◌, ◌-◌, drop}
use Rattle.flac_definitions.specs.Bits.{bits_in, zeros_before}
use Rattle.flac_definitions.specs.BitLaws.{with_zeros}
use Rattle.flac_bits.proofs.reader.zeros_from.Given as goal

abbrev pub invariant-loop-place : goal.invariant-loop-place
invariant-loop-place l = zeros_before (drop l.at (bits_in l.bytes)) ≡ with_zeros (l.place - l.at) (zeros_before (drop l.place (bits_in l.bytes)))
