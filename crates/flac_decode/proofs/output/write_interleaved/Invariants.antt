use Rattle.std.proofs.Common.{◌≡◌, ◌*◌, length, take}
use Rattle.std.specs.List.{flat_map, range_with_len}
use Rattle.codec_definitions.specs.Flac.{interchannel_bytes}
use Rattle.flac_decode.proofs.output.write_interleaved.Given as goal

abbrev pub invariant-loop-i : goal.invariant-loop-i
invariant-loop-i g l =
    record {
      size : length l.out ≡ length l.fn.out;
      done : take (l.i * (g.row.N * g.row.SIZE)) l.out ≡ flat_map (interchannel_bytes g.row.SIZE l.up g.row.N l.block l.samples) (range_with_len 0 l.i);
    }
