use Rattle.std.proofs.Common.{sym, ◌∙◌, arith}
use Rattle.flac_stream.specs.Next.{has_cut_header}
use Rattle.flac_stream.proofs.NextLaws.{one_more, cut_behind}
use Rattle.flac_stream.proofs.next.first_cut_header.Goals as goal

pub loop-at-preserved : goal.loop-at-preserved
loop-at-preserved c =
    record {
      behind = omega (arith, c.loop-at.invariant.behind);
      none = one_more (has_cut_header c.args.info.now c.args.bytes.now) c.args.from c.loop-at.at c.loop-at.invariant.none (sym c.has_cut_header.ensures ∙ c.if-has_cut_header.false);
    }

pub returns : goal.returns
returns c =
    record { behind = c.loop-at.invariant.behind; holds = cut_behind c.args.info.now c.args.bytes.now c.loop-at.at c.loop-at-test.false; none = c.loop-at.invariant.none }
