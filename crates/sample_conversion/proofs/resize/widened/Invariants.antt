use Rattle.std.proofs.Common.{◌≡◌}
use Rattle.std.specs.List.{flat_map, range_with_len}
use Rattle.codec_definitions.specs.Pcm.{resized_at}
use Rattle.sample_conversion.proofs.resize.widened.Given as goal

abbrev pub invariant-loop-i : goal.invariant-loop-i
invariant-loop-i l = l.wide.items ≡ flat_map (resized_at 3 4 l.bytes) (range_with_len 0 l.i)
