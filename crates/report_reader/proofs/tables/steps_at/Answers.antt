use Rattle.std.proofs.Common.{sym, ◌∙◌}
use Rattle.report_reader.proofs.TableLaws.{steps_read, steps_past}
use Rattle.report_reader.proofs.tables.steps_at.Goals as goal

pub returns-in-Some : goal.returns-in-Some
returns-in-Some c = c.as_slice-in-Some.ensures ∙ rw c.as_slice.ensures at (sym (steps_read c.args.caller c.as_slice.result.now c.in-Some.caller.now c.in-Some.ensures.lookup.3.0 c.in-Some.ensures.lookup.1))

pub returns-in-None : goal.returns-in-None
returns-in-None c = rw c.as_slice.ensures at (sym (steps_past c.args.caller c.as_slice.result.now c.in-None.ensures.lookup.3))
