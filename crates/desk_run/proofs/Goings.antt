-- Seats that stay at their desk while threads work there.
use Rattle.std.proofs.Common.{ℕ, suc, ◌≡◌, ◌+◌, ◌<◌, List, [], ◌∷◌, length, refl, subst, append-nil, arith}
use Rattle.std.proofs.lemmas.Option.{slice_get_within}
use Rattle.work_moments.specs.Moments.{Telling}
use Rattle.shared_codec.specs.Dues.{Called}
use Rattle.codec_desk.specs.declared.desk.Desk.{Desk}
use Rattle.codec_desk.specs.declared.desk.Seats.{Seats}
use Rattle.codec_desk.specs.Desks.{SitAt}
use Rattle.codec_desk.specs.Named.{Calls}
use Rattle.desk_threads.specs.declared.jobs.Job.{Job}
use Rattle.desk_threads.specs.Accounts.{Named}
use Rattle.desk_threads.specs.CallLaws.{named_after}
use Rattle.desk_threads.specs.Jobs.{AreReady, AreDone}
use Rattle.desk_threads.specs.LongerLaws.{saw_same, saw_then}
use Rattle.desk_threads.specs.Orders.{OrderStands}
use Rattle.desk_run.specs.Going.{GoesOn, MayJoin, AllMayJoin}
use Rattle.desk_run.proofs.Lists.{get_there}

module _ {C : Type 0} (desk : Desk C) where
  pub goes_none : (a : Seats C) → SitAt desk a → GoesOn desk a a
  goes_none a at = record {
    sits = at;
    seen = saw_same desk a at;
    balanced = λ x. x;
    order = λ x. x;
    calls = λ calls x. x;
    runs = λ x. x;
  }

  pub goes_then : (a b c : Seats C) → GoesOn desk a b → GoesOn desk b c → GoesOn desk a c
  goes_then a b c x y = record {
    sits = y.sits;
    seen = saw_then desk a b c x.seen y.seen;
    balanced = λ h. y.balanced (x.balanced h);
    order = λ h. y.order (x.order h);
    calls = λ calls h. y.calls calls (x.calls calls h);
    runs = λ h. y.runs (x.runs h);
  }

  -- the calls of callers are those of before where no more were made
  pub no_more : (a b : Seats C) (calls : List Called) → Calls desk [] a b → Named desk calls a → Named desk calls b
  no_more a b calls since was = subst (λ (l : List Called). Named desk l b) (append-nil calls) (named_after desk a b calls [] since was)

module _ {C K G : Type 0} (desk : Desk C) where
  -- the seats of jobs that were done may be joined
  pub still_join : (told : K → Telling) → OrderStands C → (before after : List (Job C K G)) → length after ≡ length before → AllMayJoin desk before → AreReady desk after → AreDone told desk before after → AllMayJoin desk after
  still_join told stands before after many may ready done i job at =
      let was = get_there before i (subst (λ (n : ℕ). i < n) many (slice_get_within after i job at)) in
      let d = done i was.0 job was.1 at in
      let m = may i was.0 was.1 in
      record {
        ready = ready i job at;
        order = stands.kept desk was.0.seats job.seats d.settled m.order;
        uncalled = named_after desk was.0.seats job.seats [] [] d.calls m.uncalled;
      }

  -- the same of jobs one after the other
  abbrev pub EachMayJoin : List (Job C K G) → Type 0
  EachMayJoin [] = Unit {0}
  EachMayJoin (j ∷ js) = MayJoin desk j × EachMayJoin js

  pub each_may_join : (jobs : List (Job C K G)) → AllMayJoin desk jobs → EachMayJoin jobs
  each_may_join [] h = tt
  each_may_join (j ∷ js) h = (h 0 j refl, each_may_join js (λ i k at. h (suc i) k at))

-- so many are left, and one part came
pub parts_more : (m n l k r : ℕ) → m + k ≡ n + l → k ≡ suc r → (m + 1) + r ≡ n + l
parts_more m n l k r is short = omega (arith, is, short)
