-- What the job of a thread is before it is done, and what was done.
use Rattle.std.specs.Prelude.{ℕ, ◌≡◌, List, [], Some, slice_get}
use Rattle.work_moments.specs.Moments.{Telling}
use Rattle.codec_desk.specs.declared.desk.Desk.{Desk}
use Rattle.codec_desk.specs.declared.desk.Seats.{Seats}
use Rattle.codec_desk.specs.Clocks.{Clocked}
use Rattle.codec_desk.specs.Desks.{SitAt, Settled}
use Rattle.codec_desk.specs.Each.{Each}
use Rattle.codec_desk.specs.Named.{Calls}
use Rattle.codec_desk.specs.Rests.{Looked, NoItem, NoTask}
use Rattle.codec_desk.specs.Runs.{EachRunsNone}
use Rattle.desk_threads.specs.declared.jobs.Job.{Job}
use Rattle.desk_threads.specs.declared.jobs.Role.{Role}
use Rattle.desk_threads.specs.declared.jobs.Role.TheVariants as role
use Rattle.desk_threads.specs.Accounts.{Balanced, Named}
use Rattle.desk_threads.specs.Parts.{HaveParts}

module _ {C : Type 0} (desk : Desk C) where
  -- What a thread looked for last, and did not find. On each codec the seats looked: a worker's when no item could start, and a
  -- turner's when no task was queued.
  abbrev pub Found : Role → Seats C → Seats C → Type 0
  Found role.Worker a b = Each (Looked NoItem) desk.codecs.items a.codecs.items b.codecs.items
  Found role.Turner a b = Each (Looked NoTask) desk.codecs.items a.codecs.items b.codecs.items

module _ {C K G : Type 0} (desk : Desk C) where
  -- seats at this desk, each with one part, with a balanced account, of which none runs an item of its own
  pub record IsReady (job : Job C K G) : Type 0 where
    pub sits : SitAt desk job.seats
    pub one : HaveParts 1 job.seats
    pub balanced : Balanced desk job.seats
    pub runs : EachRunsNone desk.codecs.items job.seats.codecs.items

  abbrev pub AreReady : List (Job C K G) → Type 0
  AreReady jobs = (i : ℕ) (job : Job C K G) → slice_get jobs i ≡ Some job → IsReady job

  -- the seats of none of these jobs made a call of a caller
  abbrev pub NoneCalled : List (Job C K G) → Type 0
  NoneCalled jobs = (i : ℕ) (job : Job C K G) → slice_get jobs i ≡ Some job → Named desk [] job.seats

-- of clocks that tell these moments
module _ {C K G : Type 0} (told : K → Telling) (desk : Desk C) where
  pub record IsDone (was job : Job C K G) : Type 0 where
    pub role : job.role ≡ was.role
    pub settled : Settled desk was.seats job.seats
    pub calls : Calls desk [] was.seats job.seats
    pub found : Found desk was.role was.seats job.seats
    pub timed : Clocked desk was.seats job.seats (told was.watch.clock) (told job.watch.clock)

  -- each job was done
  abbrev pub AreDone : List (Job C K G) → List (Job C K G) → Type 0
  AreDone before after = (i : ℕ) (was job : Job C K G) → slice_get before i ≡ Some was → slice_get after i ≡ Some job → IsDone was job
