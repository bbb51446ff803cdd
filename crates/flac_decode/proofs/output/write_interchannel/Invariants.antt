use Rattle.std.proofs.Common.{◌≡◌, ◌*◌, length, take}
use Rattle.std.specs.List.{flat_map, range_with_len}
use Rattle.codec_definitions.specs.Flac.{sample_bytes}
use Rattle.flac_decode.proofs.output.write_interchannel.Given as goal

abbrev pub invariant-loop-channel : goal.invariant-loop-channel
invariant-loop-channel g l =
    record {
      size : length l.out ≡ length l.fn.out;
      done : take (l.channel * g.row.SIZE) l.out ≡ flat_map (sample_bytes g.row.SIZE l.up l.block l.samples l.i) (range_with_len 0 l.channel);
    }
