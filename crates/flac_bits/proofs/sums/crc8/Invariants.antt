use Rattle.std.proofs.Common.{◌≡◌, length}
use Rattle.flac_bits.specs.ByteSums.{after_bytes}
use Rattle.flac_bits.proofs.sums.crc8.Given as goal

abbrev pub invariant-loop-rest : goal.invariant-loop-rest
invariant-loop-rest l = after_bytes 8 0x07 l.sum l.rest ≡ after_bytes 8 0x07 0 l.bytes

abbrev pub decreases-loop-rest : goal.decreases-loop-rest
decreases-loop-rest l = length l.rest
