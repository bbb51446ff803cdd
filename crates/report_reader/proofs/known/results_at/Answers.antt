use Rattle.std.proofs.Common.{sym, ◌∙◌}
use Rattle.report_reader.proofs.TableLaws.{results_read, results_past}
use Rattle.report_reader.proofs.known.results_at.Goals as goal

pub returns-in-Some : goal.returns-in-Some
returns-in-Some c = c.as_slice.ensures ∙ sym (results_read c.args.caller c.args.callers.now c.in-Some.caller.now c.in-Some.ensures.lookup.3.0 c.in-Some.ensures.lookup.1)

pub returns-in-None : goal.returns-in-None
returns-in-None c = sym (results_past c.args.caller c.args.callers.now c.in-None.ensures.lookup.3)
