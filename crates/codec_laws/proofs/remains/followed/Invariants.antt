use Rattle.std.proofs.Common.{length}
use Rattle.segmented_list.specs.Segments.{joined}
use Rattle.codec_laws.specs.Seen.{IsFollowing}
use Rattle.codec_laws.proofs.remains.followed.Given as goal

abbrev pub invariant-loop-entry : goal.invariant-loop-entry
invariant-loop-entry l = IsFollowing l.fn.opening (joined l.fn.history) l.follower l.rest

abbrev pub decreases-loop-entry : goal.decreases-loop-entry
decreases-loop-entry l = length l.rest
