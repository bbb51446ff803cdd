-- Jobs as they are made, and as they were done.
use Rattle.std.proofs.Common.{ℕ, zero, suc, ◌≡◌, ◌<◌, ◌||◌, Bool, true, false, List, [], ◌∷◌, ◌++◌, Some, length, map, take, refl, ap, subst, ◌∙◌}
use Rattle.std.specs.Prelude.{slice_get}
use Rattle.std.proofs.lemmas.Option.{slice_get_within}
use Rattle.wc_chunk.specs.declared.chunk.Chunk.{Chunk}
use Rattle.script_types.specs.declared.script.ScriptData.{ScriptData}
use Rattle.shared_port.specs.Ports.{PortId}
use Rattle.work_moments.specs.Moments.{Telling, may_give}
use Rattle.codec_desk.specs.declared.desk.Desk.{Desk}
use Rattle.codec_desk.specs.declared.desk.Seats.{Seats}
use Rattle.codec_desk.specs.Desks.{SitAt}
use Rattle.codec_desk.specs.DeskLaws.{map_both}
use Rattle.desk_threads.specs.Timely.{TimeStands}
use Rattle.wc_run.specs.declared.jobs.Job.{Job}
use Rattle.wc_run.specs.declared.jobs.Role.{Role}
use Rattle.wc_run.specs.InTime.{Fits, FitEach, some_may_give}
use Rattle.wc_run.specs.Jobs.{AreNew, AreReady, AreInTime, AreDone, AllDone, HasDone}
use Rattle.wc_run.specs.Paid.{Stays}
use Rattle.wc_run.specs.Roles.{role_at}
use Rattle.wc_run.proofs.Lists.{get_there}

module _ {C : Type 0} (desk : Desk C) where
  pub stays_none : (a : Seats C) → SitAt desk a → Stays desk a a
  stays_none a at = record { sits = at; runs = λ x. x; paid = λ x. x; calls = λ calls x. x; owned = λ mine x. x; timed = λ fits x. x }

  pub stays_then : (a b c : Seats C) → Stays desk a b → Stays desk b c → Stays desk a c
  stays_then a b c x y = record {
    sits = y.sits;
    runs = λ h. y.runs (x.runs h);
    paid = λ h. y.paid (x.paid h);
    calls = λ calls h. y.calls calls (x.calls calls h);
    owned = λ mine h. y.owned mine (x.owned mine h);
    timed = λ fits h. y.timed fits (x.timed fits h);
  }

-- ---- jobs that were done

module _ {C K G : Type 0} (told : K → Telling) (s : ScriptData) (media : List (List Chunk)) (desk : Desk C) (ports : List PortId) where
  pub all_ready : (before after : List (Job C K G)) → length after ≡ length before → AreDone told s media desk ports before after → AreReady desk ports after
  all_ready before after many done i job at =
      let was = get_there before i (subst (λ (n : ℕ). i < n) many (slice_get_within after i job at)) in
      (done i was.0 job was.1 at).ready

  pub all_done : (workers : ℕ) (before after : List (Job C K G)) → length after ≡ length before → AreDone told s media desk ports before after → ((i : ℕ) (job : Job C K G) → slice_get before i ≡ Some job → job.role ≡ role_at workers i) → AllDone s media desk workers after
  all_done workers before after many done roles i job at none =
      let was = get_there before i (subst (λ (n : ℕ). i < n) many (slice_get_within after i job at)) in
      subst (λ (r : Role). HasDone s media desk r job) (roles i was.0 was.1) ((done i was.0 job was.1 at).done none)

module _ {C K G : Type 0} (desk : Desk C) (ports : List PortId) where
  pub new_ready : (jobs : List (Job C K G)) → AreNew desk ports jobs → AreReady desk ports jobs
  new_ready jobs new i job at = (new i job at).ready

  pub new_in_time : (fits : ℕ → Bool) (jobs : List (Job C K G)) → AreNew desk ports jobs → AreInTime desk fits jobs
  new_in_time fits jobs new i job at = (new i job at).timed fits

-- ---- clocks

module _ {X : Type 0} (f : X → Telling) where
  pub fit_at : (fits : ℕ → Bool) (xs : List X) → FitEach fits (map f xs) → (i : ℕ) (x : X) → slice_get xs i ≡ Some x → Fits fits (f x)
  fit_at fits [] fit i x at = absurd cc
  fit_at fits (y ∷ ys) fit zero x at =
      let e : y ≡ x = cc in
      subst (λ (z : X). Fits fits (f z)) e fit.0
  fit_at fits (y ∷ ys) fit (suc i) x at = fit_at fits ys fit.1 i x at

pub fit_front : (fits : ℕ → Bool) (a b : List Telling) → FitEach fits (a ++ b) → FitEach fits a
fit_front fits [] b fit = tt
fit_front fits (t ∷ a) b fit = (fit.0, fit_front fits a b fit.1)

fit_back : (fits : ℕ → Bool) (a b : List Telling) → FitEach fits (a ++ b) → FitEach fits b
fit_back fits [] b fit = fit
fit_back fits (t ∷ a) b fit = fit_back fits a b fit.1

or_right : (a b : Bool) → b ≡ true → a || b ≡ true
or_right true b e = refl
or_right false b e = e

or_left : (a b : Bool) → a ≡ true → a || b ≡ true
or_left true b e = refl
or_left false b e = absurd cc

fit_wider : (t : Telling) (ts us : List Telling) → FitEach (some_may_give ts) us → FitEach (some_may_give (t ∷ ts)) us
fit_wider t ts [] fit = tt
fit_wider t ts (u ∷ us) fit = (λ m may. or_right (may_give t.may m) (some_may_give ts m) (fit.0 m may), fit_wider t ts us fit.1)

-- what each of some clocks may give, one of them may
fit_some : (ts : List Telling) → FitEach (some_may_give ts) ts
fit_some [] = tt
fit_some (t ∷ ts) = (λ m may. or_left (may_give t.may m) (some_may_give ts m) may, fit_wider t ts ts (fit_some ts))

-- the last of them, and so many of the first
pub fit_last : {K : Type 0} (told : K → Telling) (all : List K) (ks : List K) (k : K) → all ≡ ks ++ k ∷ [] → Fits (some_may_give (map told all)) (told k)
fit_last told all ks k is =
    let each = subst (λ (l : List Telling). FitEach (some_may_give (map told all)) l) (ap (map told) is ∙ map_both told ks (k ∷ [])) (fit_some (map told all)) in
    (fit_back (some_may_give (map told all)) (map told ks) (told k ∷ []) each).0

fit_take : {K : Type 0} (told : K → Telling) (fits : ℕ → Bool) (n : ℕ) (ks : List K) → FitEach fits (map told ks) → FitEach fits (map told (take n ks))
fit_take told fits zero ks fit = tt
fit_take told fits (suc n) [] fit = tt
fit_take told fits (suc n) (k ∷ ks) fit = (fit.0, fit_take told fits n ks fit.1)

pub fit_first : {K : Type 0} (told : K → Telling) (all : List K) (ks : List K) (k : K) (n : ℕ) → all ≡ ks ++ k ∷ [] → FitEach (some_may_give (map told all)) (map told (take n ks))
fit_first told all ks k n is =
    let fits : ℕ → Bool = some_may_give (map told all) in
    let each = subst (λ (l : List Telling). FitEach fits l) (ap (map told) is ∙ map_both told ks (k ∷ [])) (fit_some (map told all)) in
    fit_take told fits n ks (fit_front fits (map told ks) (told k ∷ []) each)

-- ---- jobs that were done, in time

module _ {C K G : Type 0} (told : K → Telling) (s : ScriptData) (media : List (List Chunk)) (desk : Desk C) (ports : List PortId) where
  pub all_in_time : TimeStands C → (fits : ℕ → Bool) (before after : List (Job C K G)) → length after ≡ length before → AreNew desk ports before → FitEach fits (map (λ j. told j.watch.clock) before) → AreDone told s media desk ports before after → AreInTime desk fits after
  all_in_time law fits before after many new fit done i job at =
      let was = get_there before i (subst (λ (n : ℕ). i < n) many (slice_get_within after i job at)) in
      law.kept fits desk was.0.seats job.seats (told was.0.watch.clock) (told job.watch.clock) (done i was.0 job was.1 at).timed
      (fit_at (λ (j : Job C K G). told j.watch.clock) fits before fit i was.0 was.1) ((new i was.0 was.1).timed fits)
