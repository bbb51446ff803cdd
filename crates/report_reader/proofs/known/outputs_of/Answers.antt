use Rattle.std.proofs.Common.{sym, ◌∙◌}
use Rattle.codec_accounts.specs.Places.{at_read, at_past}
use Rattle.report_reader.proofs.known.outputs_of.Goals as goal

pub returns-in-Some : goal.returns-in-Some
returns-in-Some c = c.as_slice.ensures ∙ sym (at_read c.args.codec c.args.outputs.now c.in-Some.units.now c.in-Some.ensures.lookup.3.0 c.in-Some.ensures.lookup.1)

pub returns-in-None : goal.returns-in-None
returns-in-None c = sym (at_past c.args.codec c.args.outputs.now c.in-None.ensures.lookup.3)
