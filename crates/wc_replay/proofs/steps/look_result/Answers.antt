use Rattle.std.proofs.Common.{sym, ◌∙◌}
use Rattle.std.specs.Prelude.{option_copied}
use Rattle.wc_replay.proofs.Looks.{look_of_call}
use Rattle.wc_replay.proofs.steps.look_result.Goals as goal

pub returns : goal.returns
returns g c = c.look_at.ensures ∙ look_of_call c.args.desks.now (option_copied c.args.flush) c.in-Some.codec c.in-Some.place (sym c.call_in.ensures ∙ c.in-Some.is)
