-- The MD5 sum of a stream's samples (RFC 9639, section 8.2): all samples, frame by frame, little-endian, in two's complement
-- of as many whole bytes as their depth needs.
use Rattle.std.specs.Prelude.{ℕ, ℤ, ◌+◌, ◌/◌, List, take}
use Rattle.std.specs.List.{flat_map}
use Rattle.std.specs.Int.{w32, cast_unsigned, to_le_bytes}
use Rattle.md5.specs.Md5.{Holds, md5}
use Rattle.flac_stream.specs.declared.sum.SampleSum.{SampleSum}

-- the lowest bytes of a sample, of the four that it has in 32 bits
abbrev pub sample_bytes : ℕ → ℤ → List ℕ
sample_bytes size v = take size (to_le_bytes w32 (cast_unsigned w32 v))

-- the message that is summed up: the samples of a depth, of which each frame's stand together
abbrev pub summed_bytes : ℕ → List ℤ → List ℕ
summed_bytes depth samples = flat_map (sample_bytes ((depth + 7) / 8)) samples

-- the sum of all samples of a stream
abbrev pub sample_sum : ℕ → List ℤ → List ℕ
sample_sum depth samples = md5 (summed_bytes depth samples)

-- a sum in the making holds this message
abbrev pub SumsUp : SampleSum → List ℕ → Type 0
SumsUp s message = Holds s.hasher message
