use Rattle.segmented_list.specs.Segments.{joined}
use Rattle.codec_laws.proofs.FollowLaws.{left_followed}
use Rattle.codec_laws.proofs.remains.left.Goals as goal

pub returns-in_err-follower-clause-law : goal.returns-in_err-follower-clause-law
returns-in_err-follower-clause-law c = λ some. c.nothing_stuck.ensures c.args.opening (joined c.args.history.now) some c.requires

pub returns-clause-left : goal.returns-clause-left
returns-clause-left c = left_followed c.args.opening (joined c.args.history.now) c.in_ok-follower.follower c.into_left.result c.in_ok-follower.ensures c.into_left.ensures

pub returns-clause-law : goal.returns-clause-law
returns-clause-law c = λ some. c.nothing_stuck.ensures c.args.opening (joined c.args.history.now) some c.requires
