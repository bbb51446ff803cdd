-- Histories that seats have seen, one passage after another.
use Rattle.std.proofs.Common.{ℕ, zero, suc, ◌≡◌, ◌≢◌, ◌≤◌, inl, inr, List, [], ◌∷◌, ◌++◌, map, length, take, Option, Some, None, refl, ap, sym, subst, ◌∙◌, append-nil, append_assoc, arith, length-append, set, Bool, cond, eq-eqb, ne_eqb}
use Rattle.std.specs.Prelude.{slice_get}
use Rattle.std.proofs.lemmas.Bool.{cases_eq}
use Rattle.std.proofs.lemmas.List.{take-append-le}
use Rattle.atomic_table.specs.declared.shared.Seat.{Seat}
use Rattle.wc_base.specs.Views.{Log}
use Rattle.wc_base.specs.declared.seat.Passage.{Passage}
use Rattle.wc_base.specs.declared.seat.Passage.TheVariants.{Made, Look}
use Rattle.wc_base.specs.declared.seat.View.{View}
use Rattle.coder_api.specs.declared.slot.SlotEntry.{SlotEntry}
use Rattle.codec_model.specs.declared.entry.Entry.{Entry}
use Rattle.codec_accounts.specs.Calls.{Mark, reach}
use Rattle.codec_accounts.specs.Calls as mark
use Rattle.codec_accounts.specs.CallsLaws.{MayClimb}
use Rattle.codec_accounts.specs.Owed.{at}
use Rattle.seat_lock.specs.Logs.{entries_of}
use Rattle.seat_lock.specs.ClaimLaws.{entries_both}
use Rattle.seat_lock.specs.Passages.{Passes}
use Rattle.seat_lock.specs.Seats.{Sitting}
use Rattle.codec_logs.specs.declared.event.Event.{Event}
use Rattle.codec_logs.specs.Logs.{entry_of, history_of}
use Rattle.shared_codec.specs.Shared.{Shared, MadeIn, LookedIn, no_mint, no_spend}
use Rattle.codec_desk.specs.Desks.{SeesMore}
use Rattle.codec_desk.specs.DeskLaws.{map_both}
use Rattle.codec_desk.specs.Each.{Each}
use Rattle.desk_callers.specs.Deeds.{GoOn}
use Rattle.desk_callers.specs.Acts.{histories_in}

pub history_both : (a b : Log Event) → history_of (a ++ b) ≡ history_of a ++ history_of b
history_both a b = ap (map entry_of) (entries_both a b) ∙ map_both entry_of (entries_of a) (entries_of b)

module _ {S : Type 0} where
  log_after : (p : Passage Event) (a b : Seat (Option S) (View Event)) (m : Passes no_mint no_spend p a b) → b.me.0.log ≡ m.log ++ (a.me.0.number, p) ∷ []
  log_after p a b m = ap (λ (y : Sitting S Event). y.0.log) m.view

  -- a passage found a history that goes on from what its seat had seen
  pub found_after : (p : Passage Event) (a b : Seat (Option S) (View Event)) (m : Passes no_mint no_spend p a b) → (more : List Entry) × (history_of m.log ≡ history_of a.me.0.log ++ more)
  found_after p a b m = (history_of m.continues.more, ap history_of m.continues.is ∙ history_both a.me.0.log m.continues.more)

  -- an entry stands at the end of the history that its seat has seen
  pub made_history : (s : Shared) (e : Entry) (acquires : List SlotEntry) (a b : Seat (Option S) (View Event)) (m : MadeIn s e acquires a b) → history_of b.me.0.log ≡ history_of m.passes.log ++ e ∷ []
  made_history s e acquires a b m =
      ap history_of (log_after (Made m.event) a b m.passes)
      ∙ (history_both m.passes.log ((a.me.0.number, Made m.event) ∷ []) ∙ ap (λ (x : Entry). history_of m.passes.log ++ x ∷ []) m.entry_is)

  -- a look found what its seat has seen then
  pub looked_history : (s : Shared) (a b : Seat (Option S) (View Event)) (m : LookedIn s a b) → history_of b.me.0.log ≡ history_of m.passes.log
  looked_history s a b m =
      ap history_of (log_after Look a b m.passes)
      ∙ (history_both m.passes.log ((a.me.0.number, Look) ∷ []) ∙ append-nil (history_of m.passes.log))

  -- ---- histories of all codecs

  pub history_at : (i : ℕ) (us : List (Seat (Option S) (View Event))) (u : Seat (Option S) (View Event)) → slice_get us i ≡ Some u → at i (histories_in us) ≡ history_of u.me.0.log
  history_at i [] u is = absurd cc
  history_at zero (w ∷ us) u is = let e : w ≡ u = cc in ap (λ (x : Seat (Option S) (View Event)). history_of x.me.0.log) e
  history_at (suc i) (w ∷ us) u is = history_at i us u is

  pub history_set : (i : ℕ) (us : List (Seat (Option S) (View Event))) (u v : Seat (Option S) (View Event)) → slice_get us i ≡ Some u → at i (histories_in (set us i v)) ≡ history_of v.me.0.log
  history_set i [] u v is = absurd cc
  history_set zero (w ∷ us) u v is = refl
  history_set (suc i) (w ∷ us) u v is = history_set i us u v is

  pub history_other : (i k : ℕ) (us : List (Seat (Option S) (View Event))) (v : Seat (Option S) (View Event)) → i ≢ k → at k (histories_in (set us i v)) ≡ at k (histories_in us)
  history_other i k [] v other = refl
  history_other zero zero (w ∷ us) v other = absurd (other refl)
  history_other zero (suc k) (w ∷ us) v other = refl
  history_other (suc i) zero (w ∷ us) v other = refl
  history_other (suc i) (suc k) (w ∷ us) v other = history_other i k us v (λ e. other (ap suc e))

  -- where each seat has seen more, each history goes on
  pub each_goes_on : (xs : List Shared) (us vs : List (Seat (Option S) (View Event))) → Each SeesMore xs us vs → GoOn (histories_in us) (histories_in vs)
  each_goes_on [] [] [] e k = ([], refl)
  each_goes_on [] [] (v ∷ vs) e k = absurd e
  each_goes_on [] (u ∷ us) vs e k = absurd e
  each_goes_on (x ∷ xs) [] vs e k = absurd e
  each_goes_on (x ∷ xs) (u ∷ us) [] e k = absurd e
  each_goes_on (x ∷ xs) (u ∷ us) (v ∷ vs) e zero = (history_of e.0.more, ap history_of e.0.longer ∙ history_both u.me.0.log e.0.more)
  each_goes_on (x ∷ xs) (u ∷ us) (v ∷ vs) e (suc k) = each_goes_on xs us vs e.1 k

-- ---- histories that go on

pub go_same : (hs : List (List Entry)) → GoOn hs hs
go_same hs k = ([], sym (append-nil (at k hs)))

pub go_then : (a b c : List (List Entry)) → GoOn a b → GoOn b c → GoOn a c
go_then a b c x y k =
    let m = x k in
    let n = y k in
    (m.0 ++ n.0, n.1 ∙ (ap (λ (l : List Entry). l ++ n.0) m.1 ∙ append_assoc (at k a) m.0 n.0))

pub go_longer : (a b : List (List Entry)) → GoOn a b → (k : ℕ) → length (at k a) ≤ length (at k b)
go_longer a b x k =
    let m = x k in
    let l = length-append (at k a) m.0 in
    let e : length (at k b) ≡ length (at k a ++ m.0) = ap length m.1 in
    omega (arith, l, e)

pub go_front : (a b : List (List Entry)) → GoOn a b → (k n : ℕ) → n ≤ length (at k a) → take n (at k b) ≡ take n (at k a)
go_front a b x k n within = let m = x k in ap (take n) m.1 ∙ take-append-le n (at k a) m.0 within

-- ---- what a result reaches

-- a mark reaches on one codec alone
abbrev pub ReachesOn : ℕ → ℕ × ℕ → Mark → Type 0
ReachesOn codec m r = (reach codec r ≡ Some m) × ((k : ℕ) → codec ≢ k → reach k r ≡ None)

pub call_reaches : (codec place : ℕ) → ReachesOn codec (place, suc place) (mark.Call codec place)
call_reaches codec place = (
  ap (λ (b : Bool). cond b (Some (place, suc place)) None) (eq-eqb codec codec refl),
  λ k other. ap (λ (b : Bool). cond b (Some (place, suc place)) None) (ne_eqb codec k other),
)

pub look_reaches : (codec n : ℕ) → ReachesOn codec (n, n) (mark.Look codec n)
look_reaches codec n = (
  ap (λ (b : Bool). cond b (Some (n, n)) None) (eq-eqb codec codec refl),
  λ k other. ap (λ (b : Bool). cond b (Some (n, n)) None) (ne_eqb codec k other),
)

-- it is between two ends of histories that go on, where it is so on its codec
pub between_on : (codec : ℕ) (m : ℕ × ℕ) (r : Mark) (a b : List (List Entry)) → ReachesOn codec m r → GoOn a b → length (at codec a) ≤ m.0 → m.1 ≤ length (at codec b) → (k : ℕ) → MayClimb (reach k r) (length (at k a)) (length (at k b))
between_on codec m r a b reaches goes low high k = elim (cases_eq codec k) [
  | inl same ↦ subst (λ (i : ℕ). MayClimb (reach i r) (length (at i a)) (length (at i b))) same
      (subst (λ (o : Option (ℕ × ℕ)). MayClimb o (length (at codec a)) (length (at codec b))) (sym reaches.0) (low, high))
  | inr other ↦ subst (λ (o : Option (ℕ × ℕ)). MayClimb o (length (at k a)) (length (at k b))) (sym (reaches.1 k other)) (go_longer a b goes k)
]

-- one that reaches nothing is
pub between_none : (r : Mark) (a b : List (List Entry)) → r ≡ mark.Local → GoOn a b → (k : ℕ) → MayClimb (reach k r) (length (at k a)) (length (at k b))
between_none r a b is goes k = subst (λ (x : Mark). MayClimb (reach k x) (length (at k a)) (length (at k b))) (sym is) (go_longer a b goes k)
