use Rattle.std.proofs.Common.{◌≡◌, length}
use Rattle.flac_bits.specs.ByteSums.{after_bytes}
use Rattle.flac_bits.proofs.sums.crc16.Given as goal

abbrev pub invariant-loop-rest : goal.invariant-loop-rest
invariant-loop-rest l = after_bytes 16 0x8005 l.sum l.rest ≡ after_bytes 16 0x8005 0 l.bytes

abbrev pub decreases-loop-rest : goal.decreases-loop-rest
decreases-loop-rest l = length l.rest
