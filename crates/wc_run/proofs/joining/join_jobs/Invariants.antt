use Rattle.std.proofs.Common.{ℕ, ◌≡◌, ◌+◌, ◌-◌, Bool, false, List, [], length, vec_capacity}
use Rattle.std.specs.Vec.Iter.{into_iter_items, into_iter_len}
use Rattle.wc_chunk.specs.declared.chunk.Chunk.{Chunk}
use Rattle.codec_desk.specs.Desks.{SitAt}
use Rattle.codec_desk.specs.Runs.{EachRunsNone}
use Rattle.desk_threads.specs.Accounts.{Named}
use Rattle.desk_callers.specs.Passes.{ArePasses, AreUnused}
use Rattle.desk_threads.specs.Timely.{InTime}
use Rattle.script_types.specs.declared.script.ScriptData.{ScriptData}
use Rattle.wc_run.specs.Jobs.{IsReady, AreInTime, AllDone, HasDone}
use Rattle.wc_run.specs.Owned.{Owned, none_owned}
use Rattle.wc_run.specs.Paid.{IsPaid}
use Rattle.wc_run.specs.Ports.{HoldParts, KnowAll}
use Rattle.wc_run.specs.Roles.{role_at}
use Rattle.wc_run.specs.Threads.{HaveRun}
use Rattle.wc_run.proofs.Lists.{From}
use Rattle.wc_run.proofs.joining.join_jobs.Given as goal

-- the seats of the first jobs were joined
abbrev pub invariant-loop-job : goal.invariant-loop-job
invariant-loop-job g l = record {
  long : into_iter_len l.job-iterator ≡ length (into_iter_items l.job-iterator);
  place : l.place + length (into_iter_items l.job-iterator) ≡ length l.fn.jobs.items;
  sits : SitAt l.fn.desk l.seats;
  passes : ArePasses l.fn.desk.pool l.fn.ports l.passes.items;
  parts : (n : ℕ) → HoldParts n l.fn.seats l.fn.passes.items → (m : ℕ) × (m + length (into_iter_items l.job-iterator) ≡ n + length l.fn.jobs.items) × HoldParts m l.seats l.passes.items;
  runs : EachRunsNone l.fn.desk.codecs.items l.fn.seats.codecs.items → EachRunsNone l.fn.desk.codecs.items l.seats.codecs.items;
  rest : From (λ i j. IsReady l.fn.desk l.fn.ports j) l.place (into_iter_items l.job-iterator);
  many : length l.traces.items ≡ l.place - (l.fn.workers + 1);
  room : vec_capacity l.traces ≡ vec_capacity l.fn.traces;
  timed : (fits : ℕ → Bool) → AreInTime l.fn.desk fits l.fn.jobs.items → From (λ i j. InTime fits l.fn.desk j.seats) l.place (into_iter_items l.job-iterator) × (InTime fits l.fn.desk l.fn.seats → InTime fits l.fn.desk l.seats);
  ran : (s : ScriptData) (media : List (List Chunk)) → AllDone s media l.fn.desk l.fn.workers l.fn.jobs.items
      → From (λ i j. j.wanted ≡ false → HasDone s media l.fn.desk (role_at l.fn.workers i) j) l.place (into_iter_items l.job-iterator)
      × (IsPaid l.fn.desk l.fn.seats → Named l.fn.desk [] l.fn.seats → Owned none_owned l.fn.seats → AreUnused l.fn.passes.items → l.any ≡ false → HaveRun s media (KnowAll s media l.passes.items) l.fn.desk l.traces.items l.seats);
}
