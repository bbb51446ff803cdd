use Rattle.std.proofs.Common.{◌≡◌, ◌++◌, [], length, map}
use Rattle.std.specs.Vec.Iter.{into_iter_items, into_iter_len}
use Rattle.media_variables.specs.Held.{pair_of, ends_behind, AreApart}
use Rattle.media_variables.proofs.ending.end_each.Given as goal

-- what has ended, with the ends that are left, is all
abbrev pub invariant-loop-r : goal.invariant-loop-r
invariant-loop-r l = record {
  long : into_iter_len l.r-iterator ≡ length (into_iter_items l.r-iterator);
  apart : AreApart l.pool [] (map pair_of (into_iter_items l.r-iterator));
  done : l.pool ++ ends_behind l.by l.pool (map pair_of (into_iter_items l.r-iterator)) ≡ l.fn.pool ++ ends_behind l.by l.fn.pool (map pair_of l.fn.media.items);
}
