use Rattle.std.proofs.Common.{◌≡◌, ◌++◌, length}
use Rattle.segmented_list.specs.Segments.{joined}
use Rattle.segmented_list.proofs.items.Items.next.Given as goal

abbrev pub invariant-loop-self : goal.invariant-loop-self
invariant-loop-self g l = l.self-inside.here.now ++ joined l.self-inside.behind.now ≡ l.fn.self

abbrev pub decreases-loop-self : goal.decreases-loop-self
decreases-loop-self g l = length l.self-inside.behind.now
