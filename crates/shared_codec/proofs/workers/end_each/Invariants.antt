use Rattle.std.proofs.Common.{◌≡◌, ◌++◌, List, length}
use Rattle.std.specs.Vec.Iter.{into_iter_items, into_iter_len}
use Rattle.wc_pool.specs.declared.reference.MediaRef.{MediaRef}
use Rattle.seat_lock.specs.Seats.{IsSameSeat}
use Rattle.shared_pool.specs.Refs.{AreOf}
use Rattle.shared_pool.specs.Steps.{IsFree}
use Rattle.shared_codec.specs.Workers.{EndsAll}
use Rattle.shared_codec.proofs.workers.end_each.Given as goal

-- what was ended, and what is left, is all
abbrev pub invariant-loop-medium : goal.invariant-loop-medium
invariant-loop-medium g l = record {
  long : into_iter_len l.medium-iterator ≡ length (into_iter_items l.medium-iterator);
  of : AreOf l.pool (into_iter_items l.medium-iterator);
  same : IsSameSeat l.fn.seat l.seat;
  free : IsFree l.pool l.seat;
  done : (before : List MediaRef) × (l.fn.media.items ≡ before ++ into_iter_items l.medium-iterator) × EndsAll l.codec l.place before l.fn.seat.me.0 l.seat.me.0;
}
