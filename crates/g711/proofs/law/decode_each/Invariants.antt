use Rattle.std.proofs.Common.{◌≡◌, ◌*◌, take}
use Rattle.std.specs.List.{flat_map, range_with_len}
use Rattle.codec_definitions.specs.SampleCodecs.{decoded_at}
use Rattle.g711.specs.Slices.{codec_of}
use Rattle.g711.proofs.law.decode_each.Given as goal

abbrev pub invariant-loop-i : goal.invariant-loop-i
invariant-loop-i l = take (l.i * 2) l.out ≡ flat_map (decoded_at (codec_of l.law) l.codes) (range_with_len 0 l.i)
