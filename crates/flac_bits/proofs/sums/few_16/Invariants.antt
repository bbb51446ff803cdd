use Rattle.std.proofs.Common.{◌≡◌, drop}
use Rattle.flac_bits.specs.ByteSums.{after_bytes}
use Rattle.flac_bits.proofs.sums.few_16.Given as goal

abbrev pub invariant-loop-byte : goal.invariant-loop-byte
invariant-loop-byte l = after_bytes 16 0x8005 l.sum (drop l.byte-index l.bytes) ≡ after_bytes 16 0x8005 l.before l.bytes
