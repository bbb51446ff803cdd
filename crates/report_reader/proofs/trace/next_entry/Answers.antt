use Rattle.std.proofs.Common.{sym, ◌∙◌}
use Rattle.report_reader.proofs.TraceLaws.{entry_follows}
use Rattle.report_reader.proofs.trace.next_entry.Goals as goal

pub returns : goal.returns
returns c = rw c.with_shown.ensures (entry_follows c.args.script.now c.args.media.now c.args.known.now c.args.codec c.args.place c.args.line _ _ _ _ (sym c.in_ok-entry.ensures ∙ c.in-Some.is) c.in_ok-shown.ensures.follows)
