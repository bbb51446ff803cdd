use Rattle.std.proofs.Common.{sym, ◌∙◌, arith}
use Rattle.flac_stream.specs.Next.{has_header}
use Rattle.flac_stream.proofs.NextLaws.{one_more, none_behind}
use Rattle.flac_stream.proofs.next.first_header.Goals as goal

pub loop-at-preserved : goal.loop-at-preserved
loop-at-preserved c =
    record {
      behind = omega (arith, c.loop-at.invariant.behind);
      none = one_more (has_header c.args.info.now c.args.bytes.now) c.args.from c.loop-at.at c.loop-at.invariant.none (sym c.has_header.ensures ∙ c.if-has_header.false);
    }

pub returns : goal.returns
returns c = none_behind c.args.info.now c.args.bytes.now c.args.from c.loop-at.at c.loop-at.invariant.none c.loop-at-test.false
