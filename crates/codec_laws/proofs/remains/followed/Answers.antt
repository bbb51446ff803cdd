use Rattle.codec_laws.proofs.FollowLaws.{following_start, following_goes, following_more, following_ends}
use Rattle.segmented_list.specs.Segments.{joined}
use Rattle.codec_laws.proofs.remains.followed.Goals as goal

pub loop-entry-init : goal.loop-entry-init
loop-entry-init c = rw (c.in_ok-follower.ensures, c.of-rest.ensures) (following_start c.args.opening (joined c.args.history.now) c.requires)

pub follow-requires : goal.follow-requires
follow-requires c = following_goes c.args.opening (joined c.args.history.now) c.loop-entry.follower _ _ _ c.legal_steps_are_followed.ensures c.in-Some.ensures.some c.loop-entry.invariant

pub loop-entry-preserved : goal.loop-entry-preserved
loop-entry-preserved c = following_more c.args.opening (joined c.args.history.now) c.loop-entry.follower c.follow.new.follower _ _ _ _ c.legal_steps_are_followed.ensures c.in-Some.ensures.some c.loop-entry.invariant c.in_ok-_shown.ensures

pub returns : goal.returns
returns c = following_ends c.args.opening (joined c.args.history.now) c.loop-entry.follower _ c.in_default.ensures.none c.loop-entry.invariant
