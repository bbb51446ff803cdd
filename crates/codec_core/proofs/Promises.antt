-- How promises stand after further ends.
use Rattle.std.proofs.Common.{ℕ, zero, suc, ◌≡◌, ◌≢◌, ◌+◌, ◌<◌, true, false, eqb, eq-eqb, cond, List, [], ◌∷◌, ◌++◌, length, map, get_or, set, append_assoc, append-nil, Option, Some, None, refl, ap, sym, ◌∙◌, inl, inr}
use Rattle.std.specs.List.{AllByRecursion, All}
use Rattle.std.proofs.lemmas.Bool.{cases_eq, ne_eqb}
use Rattle.std.proofs.lemmas.List.{get_or-set_same, get_or-set_other}
use Rattle.std.proofs.lemmas.List.Elements.{All-from_recursion}
use Rattle.wc_base.specs.declared.error.DomError.{DomError}
use Rattle.codec_definitions.specs.declared.unit.Unit as media
use Rattle.codec_model.specs.declared.entry.{Event.Event, Task.Task, Shown.Shown, PromiseEnd.PromiseEnd, PromiseState.PromiseState}
use Rattle.codec_model.specs.Shown.{promise_state, promise_ended, event_ends, ends_of, ends_shown, rejections, outputs_from, task_shows}
use Rattle.codec_core.specs.Trace.{AreStates, rejected, resolved_by}

-- ---- the first end counts

abbrev pub or_later : PromiseState → PromiseState → PromiseState
or_later PromiseState.Pending s = s
or_later PromiseState.Resolved s = PromiseState.Resolved
or_later (PromiseState.Rejected error) s = PromiseState.Rejected error

no_later : (s : PromiseState) → or_later s PromiseState.Pending ≡ s
no_later PromiseState.Pending = refl
no_later s = refl

ended_stays : (error : Option DomError) (s : PromiseState) → promise_ended error ≡ or_later (promise_ended error) s
ended_stays None s = refl
ended_stays (Some x) s = refl

first_counts : (ends : List PromiseEnd) (e : PromiseEnd) (p : ℕ) → promise_state (ends ++ e ∷ []) p ≡ or_later (promise_state ends p) (promise_state (e ∷ []) p)
first_counts [] e p = refl
first_counts (x ∷ xs) e p = elim (eqb x.promise p) as (λ b. cond b (promise_ended x.error) (promise_state (xs ++ e ∷ []) p) ≡ or_later (cond b (promise_ended x.error) (promise_state xs p)) (promise_state (e ∷ []) p)) [
  | true ↦ ended_stays x.error (promise_state (e ∷ []) p)
  | false ↦ first_counts xs e p
]

-- ---- the table of states

-- one more end is of this promise alone
more_ends : (states next : List PromiseState) (ends : List PromiseEnd) (p : ℕ) (error : Option DomError) → get_or next p PromiseState.Pending ≡ or_later (get_or states p PromiseState.Pending) (promise_ended error) → ((q : ℕ) → q ≢ p → get_or next q PromiseState.Pending ≡ get_or states q PromiseState.Pending) → AreStates states ends → AreStates next (ends ++ record { promise = p; error = error } ∷ [])
more_ends states next ends p error own others h = record {
  each = λ q. rw first_counts (elim (cases_eq q p) [
    | inl same ↦ rw (same, eq-eqb p p refl, ← h.each p) own
    | inr other ↦ rw (ne_eqb p q (λ e. other (sym e)), no_later) (others q other ∙ h.each q)
  ]);
}

pub end_set : (states : List PromiseState) (ends : List PromiseEnd) (p : ℕ) (error : Option DomError) → p < length states → get_or states p PromiseState.Pending ≡ PromiseState.Pending → AreStates states ends → AreStates (set states p (promise_ended error)) (ends ++ record { promise = p; error = error } ∷ [])
end_set states ends p error low pending = more_ends states (set states p (promise_ended error)) ends p error (rw (pending, get_or-set_same states p (promise_ended error) PromiseState.Pending low) refl) (λ q other. get_or-set_other states p q (promise_ended error) PromiseState.Pending other)

-- a promise that has ended stays as it is
pub ended_kept : (states : List PromiseState) (ends : List PromiseEnd) (p : ℕ) (error : Option DomError) → get_or states p PromiseState.Pending ≡ or_later (get_or states p PromiseState.Pending) (promise_ended error) → AreStates states ends → AreStates states (ends ++ record { promise = p; error = error } ∷ [])
ended_kept states ends p error is = more_ends states states ends p error is (λ q other. refl)

-- one more entry has a promise that is pending
pub one_pending : (states : List PromiseState) (ends : List PromiseEnd) → AreStates states ends → AreStates (states ++ PromiseState.Pending ∷ []) ends
one_pending states ends h = record { each = λ p. same states p ∙ h.each p }
  where
    same : (xs : List PromiseState) (p : ℕ) → get_or (xs ++ PromiseState.Pending ∷ []) p PromiseState.Pending ≡ get_or xs p PromiseState.Pending
    same [] zero = refl
    same [] (suc p) = refl
    same (x ∷ xs) zero = refl
    same (x ∷ xs) (suc p) = same xs p

-- ---- the ends that entries show

pub ends_append : (xs ys : List Event) → ends_of (xs ++ ys) ≡ ends_of xs ++ ends_of ys
ends_append [] ys = refl
ends_append (x ∷ xs) ys = ap (λ us. event_ends x ++ us) (ends_append xs ys) ∙ sym (append_assoc (event_ends x) (ends_of xs) (ends_of ys))

pub rejection_ends : (error : DomError) (ps : List ℕ) → ends_of (rejections error ps) ≡ map (rejected error) ps
rejection_ends error [] = refl
rejection_ends error (p ∷ ps) = ap (λ es. rejected error p ∷ es) (rejection_ends error ps)

-- with an error call after them
pub close_ends : (error : DomError) (ps : List ℕ) → ends_of (rejections error ps ++ Event.ErrorCall error ∷ []) ≡ map (rejected error) ps
close_ends error ps = rw (ends_append, append-nil) (rejection_ends error ps)

output_ends : (n : ℕ) (us : List media.Unit) → ends_of (outputs_from n us) ≡ []
output_ends n [] = refl
output_ends n (u ∷ us) = output_ends (n + 1) us

pub task_ends : (t : Task) (n : ℕ) → ends_of (task_shows t n []) ≡ resolved_by t
task_ends (Task.Output us) n = output_ends n us
task_ends (Task.Flushed p us) n = rw (ends_append, output_ends n us) refl
task_ends t n = refl

below_at : (error : DomError) (n : ℕ) (ps : List ℕ) → AllByRecursion (λ (e : PromiseEnd). e.promise < n) (map (rejected error) ps) → AllByRecursion (λ p. p < n) ps
below_at error n [] h = tt
below_at error n (p ∷ ps) h = (h.0, below_at error n ps h.1)

pub rejected_below : (error : DomError) (n : ℕ) (ps : List ℕ) → AllByRecursion (λ (e : PromiseEnd). e.promise < n) (map (rejected error) ps) → All (λ p. p < n) ps
rejected_below error n ps h = All-from_recursion (λ p. p < n) ps (below_at error n ps h)

pub ends_more : (xs : List Shown) (x : Shown) → ends_shown (xs ++ x ∷ []) ≡ ends_shown xs ++ ends_of x.events
ends_more [] x = append-nil (ends_of x.events)
ends_more (y ∷ ys) x = ap (λ es. ends_of y.events ++ es) (ends_more ys x) ∙ sym (append_assoc (ends_of y.events) (ends_shown ys) (ends_of x.events))
