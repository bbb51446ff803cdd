use Rattle.segmented_list.specs.Segments.{joined}
use Rattle.codec_laws.proofs.FollowLaws.{quiet_by_left}
use Rattle.codec_laws.proofs.remains.quiet.Goals as goal

pub returns-in_err-left-clause-law : goal.returns-in_err-left-clause-law
returns-in_err-left-clause-law c = c.left.ensures.law c.requires.saturation

pub returns-clause-quiet : goal.returns-clause-quiet
returns-clause-quiet c = quiet_by_left c.args.opening (joined c.args.history.now) c.in_ok-left.left (c.left.ensures.law c.requires.saturation) c.in_ok-left.ensures.left

pub returns-clause-law : goal.returns-clause-law
returns-clause-law c = c.left.ensures.law c.requires.saturation
