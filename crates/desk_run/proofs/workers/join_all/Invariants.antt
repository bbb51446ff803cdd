use Rattle.std.proofs.Common.{ℕ, ◌≡◌, ◌+◌, length}
use Rattle.std.specs.Vec.Iter.{into_iter_items, into_iter_len}
use Rattle.desk_threads.specs.Parts.{HaveParts}
use Rattle.desk_run.specs.Going.{GoesOn}
use Rattle.desk_run.proofs.Goings.{EachMayJoin}
use Rattle.desk_run.proofs.workers.join_all.Given as goal

-- the seats of the first jobs were joined
abbrev pub invariant-loop-job : goal.invariant-loop-job
invariant-loop-job g l = record {
  long : into_iter_len l.job-iterator ≡ length (into_iter_items l.job-iterator);
  goes : GoesOn l.fn.desk l.fn.seats l.seats;
  parts : (n : ℕ) → HaveParts n l.fn.seats → (m : ℕ) × (m + length (into_iter_items l.job-iterator) ≡ n + length l.fn.jobs.items) × HaveParts m l.seats;
  rest : EachMayJoin l.fn.desk (into_iter_items l.job-iterator);
}
