use Rattle.std.proofs.Common.{ℕ, ◌≡◌, ◌+◌, List, length}
use Rattle.std.specs.Vec.Iter.{into_iter_items, into_iter_len}
use Rattle.shared_codec.specs.Dues.{Called}
use Rattle.codec_desk.specs.Desks.{SitAt}
use Rattle.codec_desk.specs.Runs.{EachRunsNone}
use Rattle.desk_threads.specs.Accounts.{Balanced, Named}
use Rattle.desk_threads.specs.Jobs.{NoneCalled}
use Rattle.desk_threads.specs.Longer.{EachSawAll}
use Rattle.desk_threads.specs.Parts.{HaveParts}
use Rattle.desk_threads.proofs.Joining.{AllReady, AllUncalled}
use Rattle.desk_threads.proofs.jobs.join_jobs.Given as goal

-- the seats of the first jobs were joined
abbrev pub invariant-loop-job : goal.invariant-loop-job
invariant-loop-job g l = record {
  long : into_iter_len l.job-iterator ≡ length (into_iter_items l.job-iterator);
  sits : SitAt l.fn.desk l.seats;
  parts : (n : ℕ) → HaveParts n l.fn.seats → (m : ℕ) × (m + length (into_iter_items l.job-iterator) ≡ n + length l.fn.jobs.items) × HaveParts m l.seats;
  balanced : Balanced l.fn.desk l.fn.seats → Balanced l.fn.desk l.seats;
  calls : NoneCalled l.fn.desk l.fn.jobs.items → (calls : List Called) → Named l.fn.desk calls l.fn.seats → Named l.fn.desk calls l.seats;
  uncalled : NoneCalled l.fn.desk l.fn.jobs.items → AllUncalled l.fn.desk (into_iter_items l.job-iterator);
  runs : EachRunsNone l.fn.desk.codecs.items l.fn.seats.codecs.items → EachRunsNone l.fn.desk.codecs.items l.seats.codecs.items;
  seen : EachSawAll l.fn.desk l.fn.seats l.seats;
  rest : AllReady l.fn.desk (into_iter_items l.job-iterator);
}
