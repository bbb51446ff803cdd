use Rattle.std.proofs.Common.{◌∙◌, arith}
use Rattle.raw_video.proofs.PieceLaws.{piece_more, all_pieces}
use Rattle.raw_video.proofs.deltas.append_less.Goals as goal

pub loop-from-preserved : goal.loop-from-preserved
loop-from-preserved c = record {
  room = omega (arith, c.loop-from.invariant.room, c.in_ok-append_piece.ensures.long);
  within = c.end_of_piece-to.ensures.within;
  written = c.in_ok-append_piece.ensures.items ∙ piece_more c.loop-from.bytes.items c.args.bytes.now.items c.args.picture.now c.args.last.now c.loop-from.from c.end_of_piece-to.result (omega (arith, c.end_of_piece-to.ensures.more)) c.end_of_piece-to.ensures.within c.loop-from.invariant.written;
}

pub returns : goal.returns
returns c = all_pieces c.loop-from.bytes.items c.args.bytes.now.items c.args.picture.now c.args.last.now c.loop-from.from (omega (arith, c.loop-from-test.false)) c.loop-from.invariant.within c.requires c.loop-from.invariant.written
