use Rattle.std.proofs.Common.{sym, ap, ◌∙◌}
use Rattle.wc_demux.specs.Flac.{head_by, with_info}
use Rattle.wc_demux.proofs.FlacLaws.{head_fault}
use Rattle.wc_demux.proofs.blocks.head_of.Goals as goal

pub returns-in-Err-clause-kind : goal.returns-in-Err-clause-kind
returns-in-Err-clause-kind c =
    head_fault c.args.bytes.now c.in-Err.fault (ap (head_by c.args.bytes.now) (sym c.in-Some.ensures) ∙ ap (with_info c.in-Some.info) (sym c.in-Err.ensures.place))
