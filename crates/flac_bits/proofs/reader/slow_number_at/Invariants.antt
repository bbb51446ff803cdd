use Rattle.std.proofs.Common.{◌≡◌, take, drop}
use Rattle.flac_definitions.specs.Bits.{bits_in, number_of}
use Rattle.flac_bits.proofs.reader.slow_number_at.Given as goal

abbrev pub invariant-loop-i : goal.invariant-loop-i
invariant-loop-i l = l.number ≡ number_of (take l.i (drop l.at (bits_in l.bytes)))
