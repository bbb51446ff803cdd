use Rattle.codec_laws.proofs.StuckLaws as laws
use Rattle.codec_laws.proofs.laws.nothing_stuck.Goals as goal

pub returns : goal.returns
returns c = laws.nothing_stuck c.never_stuck.ensures.facts c.never_stuck.ensures.quiet c.steps_leave_fewer.ensures
