-- What stays of a thread's seats at a desk while threads work there.
use Rattle.std.specs.Prelude.{ℕ, ◌≡◌, List, [], Some, slice_get}
use Rattle.shared_codec.specs.Dues.{Called}
use Rattle.codec_desk.specs.declared.desk.Desk.{Desk}
use Rattle.codec_desk.specs.declared.desk.Seats.{Seats}
use Rattle.codec_desk.specs.Desks.{SitAt}
use Rattle.codec_desk.specs.Runs.{EachRunsNone}
use Rattle.desk_threads.specs.declared.jobs.Job.{Job}
use Rattle.desk_threads.specs.Accounts.{Balanced, Named}
use Rattle.desk_threads.specs.Jobs.{IsReady}
use Rattle.desk_threads.specs.Longer.{EachSawAll}
use Rattle.desk_threads.specs.Orders.{InOrder}

-- The seats are at the desk still, and have seen all that they had seen. Their account is balanced
-- if it was, and what they made is in order if it was. They made no further call of a caller, and
-- none of their own items is at work if none was.
pub record GoesOn {C : Type 0} (desk : Desk C) (a b : Seats C) : Type 0 where
  pub sits : SitAt desk b
  pub seen : EachSawAll desk a b
  pub balanced : Balanced desk a → Balanced desk b
  pub order : InOrder desk a → InOrder desk b
  pub calls : (calls : List Called) → Named desk calls a → Named desk calls b
  pub runs : EachRunsNone desk.codecs.items a.codecs.items → EachRunsNone desk.codecs.items b.codecs.items

module _ {C K G : Type 0} (desk : Desk C) where
  -- The seats of this job may be joined into others: besides being ready, what they made is in
  -- order, and they made no call of a caller.
  pub record MayJoin (job : Job C K G) : Type 0 where
    pub ready : IsReady desk job
    pub order : InOrder desk job.seats
    pub uncalled : Named desk [] job.seats

  abbrev pub AllMayJoin : List (Job C K G) → Type 0
  AllMayJoin jobs = (i : ℕ) (job : Job C K G) → slice_get jobs i ≡ Some job → MayJoin job
