use Rattle.std.proofs.Common.{length}
use Rattle.codec_judge.proofs.Walking.{IsWalk}
use Rattle.codec_judge.proofs.walk.walk.Given as goal

abbrev pub invariant-loop-entry : goal.invariant-loop-entry
invariant-loop-entry g l = IsWalk l.fn.lender l.fn.judge.core l.entries l.left l.count l.judge.core l.judge.job l.lender

abbrev pub decreases-loop-entry : goal.decreases-loop-entry
decreases-loop-entry g l = length l.left
