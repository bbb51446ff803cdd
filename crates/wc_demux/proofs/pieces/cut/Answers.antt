use Rattle.wc_demux.proofs.PieceLaws.{piece_more}
use Rattle.wc_demux.proofs.pieces.cut.Goals as goal

pub loop-i-preserved : goal.loop-i-preserved
loop-i-preserved c =
    let more = piece_more c.args.per_chunk c.args.format.now c.args.sound.now c.loop-i.rest.now c.split_at.result.0.now c.split_at.result.1.now c.loop-i.chunks.items c.in_ok-chunk.chunk c.loop-i.i c.min.result
    c.min.ensures c.split_at.ensures.front c.split_at.ensures.back c.loop-i.invariant.rest c.in_ok-chunk.ensures c.loop-i.invariant.chunks in
    record { rest = more.0; chunks = rw (c.push_reserved.ensures.items, c.in_ok-reserve.ensures.items) more.1 }
