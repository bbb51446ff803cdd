-- A thread that made elsewhere what its entries call for.
use Rattle.std.specs.Prelude.{ℕ, Bool, List}
use Rattle.shared_codec.specs.Dues.{Called}
use Rattle.codec_desk.specs.declared.desk.Desk.{Desk}
use Rattle.codec_desk.specs.declared.desk.Seats.{Seats}
use Rattle.codec_desk.specs.Desks.{SitAt}
use Rattle.codec_desk.specs.Runs.{EachRunsNone}
use Rattle.desk_threads.specs.Accounts.{Balanced, Named}
use Rattle.desk_threads.specs.Orders.{InOrder}
use Rattle.desk_threads.specs.Timely.{InTime}
use Rattle.media_accounts.specs.Accounts.{StepOp}
use Rattle.wc_run.specs.Owned.{Owned}

module _ {C : Type 0} (desk : Desk C) where
  -- What its entries call for is what it made for codecs: each as often, and by each entry of a codec in that entry's order.
  pub record IsPaid (a : Seats C) : Type 0 where
    pub balanced : Balanced desk a
    pub ordered : InOrder desk a

  -- What stays of the first thread's seats while parts of them are split off.
  pub record Stays (a b : Seats C) : Type 0 where
    pub sits : SitAt desk b
    pub runs : EachRunsNone desk.codecs.items a.codecs.items → EachRunsNone desk.codecs.items b.codecs.items
    pub paid : IsPaid a → IsPaid b
    pub calls : (calls : List Called) → Named desk calls a → Named desk calls b
    pub owned : (mine : ℕ → List StepOp) → Owned mine a → Owned mine b
    pub timed : (fits : ℕ → Bool) → InTime fits desk a → InTime fits desk b
