use Rattle.std.proofs.Common.{◌≡◌, ◌++◌, length}
use Rattle.segmented_list.specs.Segments.{joined}
use Rattle.codec_laws.specs.Laws.{flush_ends_from}
use Rattle.codec_laws.proofs.same.flush_ends.Given as goal

abbrev pub invariant-loop-entry : goal.invariant-loop-entry
invariant-loop-entry l = l.ends.items ++ flush_ends_from l.place l.rest l.fn.seen ≡ flush_ends_from 0 (joined l.fn.history) l.fn.seen

abbrev pub decreases-loop-entry : goal.decreases-loop-entry
decreases-loop-entry l = length l.rest
