use Rattle.std.proofs.Common.{◌≡◌, ◌+◌, length}
use Rattle.media_files.specs.Media.{media_of}
use Rattle.media_files.proofs.read.room_after.Given as goal

abbrev pub invariant-loop-rest : goal.invariant-loop-rest
invariant-loop-rest l = l.left + media_of l.chunks ≡ l.room + media_of l.rest

abbrev pub decreases-loop-rest : goal.decreases-loop-rest
decreases-loop-rest l = length l.rest
