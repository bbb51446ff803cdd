use Rattle.media_variables.proofs.HeldLaws.{none_held, none_seen}
use Rattle.media_variables.proofs.callers.CallerMedia.open.Goals as goal

pub invariant_of-result : goal.invariant_of-result
invariant_of-result c = none_held _ _ c.args.callers.now (none_seen c.args.callers.now _ c.in_ok-no_variables.ensures)
