use Rattle.std.proofs.Common.{◌≡◌}
use Rattle.codec_follow.specs.Follow.{blanks}
use Rattle.codec_follow.proofs.ends.blanks.Given as goal

abbrev pub invariant-loop-n : goal.invariant-loop-n
invariant-loop-n l = l.list.items ≡ blanks l.n
