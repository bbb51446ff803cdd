use Rattle.std.proofs.Common.{ℕ, ◌≡◌, ◌+◌, ◌++◌, Some, length, map, vec_capacity}
use Rattle.std.specs.Prelude.{slice_get}
use Rattle.std.specs.Vec.Iter.{into_iter_items, into_iter_len}
use Rattle.desk_callers.specs.Passes.{ArePasses, AreUnused}
use Rattle.wc_run.specs.declared.jobs.Job.{Job}
use Rattle.wc_run.specs.Jobs.{AreNew}
use Rattle.wc_run.specs.Paid.{Stays}
use Rattle.wc_run.specs.Ports.{HoldParts}
use Rattle.wc_run.specs.Roles.{role_at}
use Rattle.wc_run.proofs.making.make_jobs.Given as goal

-- the first jobs were made
abbrev pub invariant-loop-watch : goal.invariant-loop-watch
invariant-loop-watch g l = record {
  stays : Stays l.fn.desk l.fn.seats l.seats;
  passes : ArePasses l.fn.desk.pool l.fn.ports l.passes.items;
  unused : AreUnused l.fn.passes.items → AreUnused l.passes.items;
  parts : HoldParts l.seats.pool.me.0.parts l.seats l.passes.items;
  left : l.seats.pool.me.0.parts + length l.jobs.items ≡ l.fn.seats.pool.me.0.parts;
  new : AreNew l.fn.desk l.fn.ports l.jobs.items;
  roles : (i : ℕ) (job : Job g.row.C.Denot g.row.K.Denot g.row.G.Denot) → slice_get l.jobs.items i ≡ Some job → job.role ≡ role_at l.fn.workers i;
  long : into_iter_len l.watch-iterator ≡ length (into_iter_items l.watch-iterator);
  clocks : length l.jobs.items + length (into_iter_items l.watch-iterator) ≡ length l.fn.watches.items;
  tells : map (λ j. g.K.Clock.told j.watch.clock) l.jobs.items ++ map (λ w. g.K.Clock.told w.clock) (into_iter_items l.watch-iterator) ≡ map (λ w. g.K.Clock.told w.clock) l.fn.watches.items;
  room : vec_capacity l.jobs ≡ vec_capacity l.fn.jobs;
}
