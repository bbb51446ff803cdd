-- What the job of a thread of a run is before it is done, and what was done.
use Rattle.std.specs.Prelude.{ℕ, ◌≡◌, ◌≢◌, Bool, false, List, [], Some, slice_get}
use Rattle.wc_chunk.specs.declared.chunk.Chunk.{Chunk}
use Rattle.shared_codec.specs.Order.{made_by}
use Rattle.codec_desk.specs.declared.desk.Desk.{Desk}
use Rattle.work_moments.specs.Moments.{Telling}
use Rattle.codec_desk.specs.Clocks.{Clocked}
use Rattle.codec_desk.specs.Desks.{SitAt}
use Rattle.codec_desk.specs.Runs.{EachRunsNone}
use Rattle.desk_threads.specs.Accounts.{Named}
use Rattle.desk_threads.specs.Timely.{InTime}
use Rattle.media_accounts.specs.Accounts.{own_in}
use Rattle.desk_callers.specs.Acts.{histories_in}
use Rattle.desk_callers.specs.Deeds.{Deed, calls_of, owns_of}
use Rattle.desk_callers.specs.Passes.{ArePasses, AreUnused, KnowPorts}
use Rattle.script_types.specs.declared.script.ScriptData.{ScriptData}
use Rattle.shared_port.specs.Ports.{PortId}
use Rattle.wc_run.specs.declared.jobs.Job.{Job}
use Rattle.wc_run.specs.declared.jobs.Role.{Role}
use Rattle.wc_run.specs.declared.jobs.Role.TheVariants as role
use Rattle.wc_run.specs.Acted.{HasActed}
use Rattle.wc_run.specs.Owned.{Owned, none_owned}
use Rattle.wc_run.specs.Paid.{IsPaid}
use Rattle.wc_run.specs.Ports.{HoldParts}
use Rattle.wc_run.specs.Roles.{role_at}

module _ {C K G : Type 0} (desk : Desk C) (ports : List PortId) where
  -- seats at this desk and passes of these ports, each with one part, and no item of its own that runs
  pub record IsReady (job : Job C K G) : Type 0 where
    pub sits : SitAt desk job.seats
    pub passes : ArePasses desk.pool ports job.passes.items
    pub one : HoldParts 1 job.seats job.passes.items
    pub runs : EachRunsNone desk.codecs.items job.seats.codecs.items

  -- nothing of it was done
  pub record IsNew (job : Job C K G) : Type 0 where
    pub ready : IsReady job
    pub paid : IsPaid desk job.seats
    pub called : Named desk [] job.seats
    pub owned : Owned none_owned job.seats
    pub unused : AreUnused job.passes.items
    pub first : (job.results.items ≡ []) × (job.variables ≡ [])
    pub timed : (fits : ℕ → Bool) → InTime fits desk job.seats

  abbrev pub AreReady : List (Job C K G) → Type 0
  AreReady jobs = (i : ℕ) (job : Job C K G) → slice_get jobs i ≡ Some job → IsReady job

  abbrev pub AreNew : List (Job C K G) → Type 0
  AreNew jobs = (i : ℕ) (job : Job C K G) → slice_get jobs i ≡ Some job → IsNew job

-- what each of these did is in time
abbrev pub AreInTime : {C K G : Type 0} → Desk C → (ℕ → Bool) → List (Job C K G) → Type 0
AreInTime {C} {K} {G} desk fits jobs = (i : ℕ) (job : Job C K G) → slice_get jobs i ≡ Some job → InTime fits desk job.seats

-- `media` has the chunks of each of the script's chunk files
module _ {C K G : Type 0} (s : ScriptData) (media : List (List Chunk)) (desk : Desk C) where
  -- A caller made all its steps. The calls that its seats made are those of its deeds, what they made in the pool by callers' steps is
  -- what its deeds did to it, and its passes know what these did to the ports.
  pub record CallerDid (c : ℕ) (job : Job C K G) : Type 0 where
    pub deeds : List Deed
    pub acted : HasActed s media (histories_in job.seats.codecs.items) c job.results.items deeds
    pub calls : Named desk (calls_of deeds) job.seats
    pub own : own_in c (made_by job.seats.pool.me.0) ≡ owns_of s media deeds
    pub others : (d : ℕ) → d ≢ c → own_in d (made_by job.seats.pool.me.0) ≡ []
    pub ports : KnowPorts s media deeds job.passes.items

  -- a thread of no caller made no call, nothing in the pool by a caller's step, and used no port
  pub record NoneDid (job : Job C K G) : Type 0 where
    pub calls : Named desk [] job.seats
    pub owned : Owned none_owned job.seats
    pub unused : AreUnused job.passes.items

  -- only callers make calls
  abbrev pub RoleDid : Role → Job C K G → Type 0
  RoleDid role.Turner job = NoneDid job
  RoleDid role.Worker job = NoneDid job
  RoleDid (role.Caller c) job = CallerDid c job

  -- The job of this role was done, and no memory was wanted.
  pub record HasDone (r : Role) (job : Job C K G) : Type 0 where
    pub paid : IsPaid desk job.seats
    pub did : RoleDid r job

  -- the jobs of a run with so many workers were done, as far as no memory was wanted
  abbrev pub AllDone : ℕ → List (Job C K G) → Type 0
  AllDone workers jobs = (i : ℕ) (job : Job C K G) → slice_get jobs i ≡ Some job → job.wanted ≡ false → HasDone (role_at workers i) job

-- The same, with clocks that tell this of themselves: whatever memory was wanted, it was done by the job's clock.
module _ {C K G : Type 0} (told : K → Telling) (s : ScriptData) (media : List (List Chunk)) (desk : Desk C) (ports : List PortId) where
  pub record IsDone (was job : Job C K G) : Type 0 where
    pub ready : IsReady desk ports job
    pub done : job.wanted ≡ false → HasDone s media desk was.role job
    pub timed : Clocked desk was.seats job.seats (told was.watch.clock) (told job.watch.clock)

  abbrev pub AreDone : List (Job C K G) → List (Job C K G) → Type 0
  AreDone before after = (i : ℕ) (was job : Job C K G) → slice_get before i ≡ Some was → slice_get after i ≡ Some job → IsDone was job
