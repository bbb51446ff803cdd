-- The ends of calls: what follows from the tellings of their steps.
use Rattle.std.proofs.Common.{◌≡◌, Bool, ℕ, ◌+◌, ◌^◌, ◌%◌, List, [], ◌∷◌, ◌++◌, sym, ap, ◌∙◌, subst, Option, Some, None}
use mathlib.Core.Option.{none}
use Rattle.atomic_table.specs.declared.shared.Seat.{Seat}
use Rattle.atomic_table.specs.Table.{step, rest, Allows}
use Rattle.seat_lock.proofs.Passages.{publishes}
use Rattle.seat_lock.specs.Claims.{AreLive, HasClaim, spends_in}
use Rattle.seat_lock.specs.Logs.{AreDistinct, Continues, Has}
use Rattle.seat_lock.specs.Passages.{IsUnion}
use Rattle.seat_lock.specs.Rule.{LockRule}
use Rattle.seat_lock.specs.Seats.{Sitting, after_passage, union_view, with_phase}
use Rattle.seat_lock.specs.Steps.{Publishes, Settles, Takes, tells_by}
use Rattle.wc_base.specs.Views.{Log}
use Rattle.wc_base.specs.declared.seat.Passage.{Passage}
use Rattle.wc_base.specs.declared.seat.Phase.TheVariants.{Holding, Idle, Union, Waiting}
use Rattle.wc_base.specs.declared.seat.View.{View}

second_of : {A : Type 0} → A → List (ℕ × A) → A
second_of a [] = a
second_of a (x ∷ xs) = x.1

module _ {E S : Type 0} where
  pub enter_ends : (mints : E → Bool) (spends : List E → E → Option ℕ) (tells : S → Log E → Type 0) (a : View E) (t : ℕ) (m m' m'' : Sitting S E) (r : Option S) → m ≡ (with_phase a (Waiting t), []) → (takes : Takes mints spends tells m t m') → m'.1 ≡ (0, r) ∷ rest m'.1 → m'' ≡ (m'.0, (0, None) ∷ rest m'.1)
      → (r ≡ Some takes.value) × (m'' ≡ (with_phase a (Holding t takes.log), (0, None) ∷ [])) × tells takes.value takes.log × Continues a.numbers a.log takes.log × AreLive mints spends takes.log a.claims × Has a.number a.numbers
  unfolding second_of
  enter_ends mints spends tells a t m m' m'' r is takes e f =
      let q : m' ≡ (with_phase a (Holding t takes.log), (0, Some takes.value) ∷ []) = takes.view ∙ ap (λ (x : Sitting S E). (with_phase x.0 (Holding t takes.log), (0, Some takes.value) ∷ x.1)) is in (
        ap (second_of r) (sym e ∙ ap (λ (x : Sitting S E). x.1) q),
        f ∙ ap (λ (x : Sitting S E). (x.0, (0, None) ∷ rest x.1)) q,
        takes.stands,
        subst (λ (x : Sitting S E). Continues x.0.numbers x.0.log takes.log) is takes.continues,
        subst (λ (x : Sitting S E). AreLive mints spends takes.log x.0.claims) is takes.live,
        subst (λ (x : Sitting S E). Has x.0.number x.0.numbers) is takes.has_number,
      )

  pub publishes_held : (mints : E → Bool) (spends : List E → E → Option ℕ) (tells : S → Log E → Type 0) (slots id : ℕ) (p : Passage E) (a : View E) (m : Sitting S E) (c : List (ℕ × Option S)) (y : S) (list : Log E) (t : ℕ) → a.phase ≡ Holding t list
      → c ≡ (0, None) ∷ [] → m ≡ (a, (0, Some y) ∷ rest c) → tells y (list ++ (a.number, p) ∷ []) → HasClaim (spends_in mints spends list p) a.claims
      → Allows (LockRule mints spends tells) slots id m 1 (λ n. (n + 1) % 2 ^ 64) (Publishes mints spends p (step slots 1 1 0 none) m)
  publishes_held mints spends tells slots id p a m c y list t holds one is says spent =
      let e : m ≡ (a, (0, Some y) ∷ []) = is ∙ ap (λ (x : List (ℕ × Option S)). (a, (0, Some y) ∷ rest x)) one in
      subst (λ (x : Sitting S E). Allows (LockRule mints spends tells) slots id x 1 (λ n. (n + 1) % 2 ^ 64) (Publishes mints spends p (step slots 1 1 0 none) x)) (sym e) (publishes E S mints spends tells slots id t list p a y holds says spent)

  pub slot_of_takes : (mints : E → Bool) (spends : List E → E → Option ℕ) (tells : S → Log E → Type 0) (t : ℕ) (m m' : Sitting S E) → (takes : Takes mints spends tells m t m') → m'.1 ≡ (0, Some takes.value) ∷ rest m'.1
  slot_of_takes mints spends tells t m m' takes = ap (λ (x : Sitting S E). x.1) takes.view ∙ ap (λ (x : Sitting S E). (0, Some takes.value) ∷ rest x.1) (sym takes.view)

  pub leave_ends : (mints : E → Bool) (spends : List E → E → Option ℕ) (p : Passage E) (a : View E) (c : List (ℕ × Option S)) (m m' : Sitting S E) (y : S) → c ≡ (0, None) ∷ [] → m ≡ (a, (0, Some y) ∷ rest c) → ((t : ℕ) (l : Log E) → m.0.phase ≡ Holding t l → m' ≡ (after_passage mints spends m.0 l p, rest m.1))
      → (t : ℕ) (l : Log E) → a.phase ≡ Holding t l → m' ≡ (after_passage mints spends a l p, [])
  leave_ends mints spends p a c m m' y one is goes t l holds =
      let e : m ≡ (a, (0, Some y) ∷ []) = is ∙ ap (λ (x : List (ℕ × Option S)). (a, (0, Some y) ∷ rest x)) one in
      goes t l (ap (λ (x : Sitting S E). x.0.phase) e ∙ holds) ∙ ap (λ (x : Sitting S E). (after_passage mints spends x.0 l p, rest x.1)) e

-- what a lock was opened about stands for its pick
pub says_same : {A S E : Type 0} (tells : A → S → Log E → Type 0) (about : A) (pick : Option A) → pick ≡ Some about → (x : S) (l : Log E) → tells about x l → tells_by tells pick x l
says_same {A} tells about pick is x l h k e = let same : about ≡ k = (let q = sym is ∙ e in cc) in subst (λ (z : A). tells z x l) same h

module _ {S E : Type 0} where
  -- the phase right after a union
  pub phase_of_union : (v w : View E) (slot : List (ℕ × Option S)) (m : Sitting S E) → m ≡ (union_view v w, slot) → m.0.phase ≡ Union v.numbers v.log w.numbers w.log
  phase_of_union v w slot m is = ap (λ (x : Sitting S E). x.0.phase) is

  -- the view of a union once it has settled
  pub settles_union : (a : Seat (Option S) (View E)) (w : View E) (m : Sitting S E) (b : Seat (Option S) (View E)) → a.me.1 ≡ [] → m ≡ (union_view a.me.0 w, a.me.1) → Settles (step 0 0 0 0 none) m 0 b.me → IsUnion a.me.0 w b
  settles_union a w m b empty is t =
      let v = a.me.0 in
      let joined : m ≡ (union_view v w, []) = is ∙ ap (λ (l : List (ℕ × Option S)). (union_view v w, l)) empty in
      let now = t.0 ∙ ap (λ (x : Sitting S E). (with_phase x.0 Idle, x.1)) joined in
      let says = t.2 v.numbers w.numbers v.log w.log (ap (λ (x : Sitting S E). x.0.phase) joined) in
      let log : m.0.log ≡ b.me.0.log = ap (λ (x : Sitting S E). x.0.log) (sym t.0) in
      let claims : m.0.claims ≡ b.me.0.claims = ap (λ (x : Sitting S E). x.0.claims) (sym t.0) in
      record {
        view = now;
        continues_one = subst (λ l. Continues v.numbers v.log l) log says.0;
        continues_other = subst (λ l. Continues w.numbers w.log l) log says.1;
        apart = says.2;
        distinct = subst AreDistinct claims t.1;
      }
