use Rattle.std.proofs.Common.{◌≡◌, ◌+◌, length, vec_capacity}
use Rattle.std.specs.Vec.Iter.{into_iter_items, into_iter_len}
use Rattle.desk_threads.specs.Parts.{HaveParts}
use Rattle.desk_run.specs.Going.{GoesOn, AllMayJoin}
use Rattle.desk_run.proofs.workers.make_jobs.Given as goal

-- the first jobs were made
abbrev pub invariant-loop-watch : goal.invariant-loop-watch
invariant-loop-watch g l = record {
  goes : GoesOn l.fn.desk l.fn.seats l.seats;
  parts : HaveParts l.seats.pool.me.0.parts l.seats;
  left : l.seats.pool.me.0.parts + length l.jobs.items ≡ l.fn.seats.pool.me.0.parts;
  joins : AllMayJoin l.fn.desk l.jobs.items;
  long : into_iter_len l.watch-iterator ≡ length (into_iter_items l.watch-iterator);
  clocks : length l.jobs.items + length (into_iter_items l.watch-iterator) ≡ length l.fn.watches.items;
  room : vec_capacity l.jobs ≡ vec_capacity l.fn.jobs;
}
