use Rattle.std.proofs.Common.{◌≡◌, ◌*◌, drop, map}
use Rattle.std.specs.List.{range_with_len}
use Rattle.wc_demux.specs.Wav.{chunk_at}
use Rattle.wc_demux.proofs.pieces.cut.Given as goal

abbrev pub invariant-loop-i : goal.invariant-loop-i
invariant-loop-i l =
    record {
      rest : l.rest ≡ drop (l.i * (l.per_chunk * l.format.frame_size)) l.sound;
      chunks : l.chunks.items ≡ map (chunk_at l.per_chunk l.format l.sound) (range_with_len 0 l.i);
    }
