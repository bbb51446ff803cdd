-- Passages that add marks, one after another.
use Rattle.std.proofs.Common.{◌≡◌, ℕ, suc, ◌+◌, Bool, true, false, List, [], ◌∷◌, ◌++◌, length, sym, refl, ap, ◌∙◌, subst, append-nil, append_assoc, length-append, arith, MatchBool}
use Rattle.atomic_table.specs.declared.shared.Seat.{Seat}
use Rattle.std.specs.Prelude.{Option}
use Rattle.wc_base.specs.Views.{Log}
use Rattle.wc_base.specs.declared.seat.Passage.{Passage}
use Rattle.wc_base.specs.declared.seat.Passage.TheVariants.{Made, Look}
use Rattle.wc_base.specs.declared.seat.View.{View}
use Rattle.seat_lock.specs.Claims.{HasClaim, spends_in}
use Rattle.seat_lock.specs.Logs.{AllBy, AreApart, Continues, entries_of, entry_in}
use Rattle.seat_lock.specs.Own.{own, own-continues, own_of_passage, entries_of-append}
use Rattle.seat_lock.specs.Passages.{Passes}
use Rattle.seat_lock.specs.Seats.{Sitting, IsIdleAt}
use Rattle.lock_tests.specs.declared.marks.Mark.{Mark}
use Rattle.lock_tests.specs.Marks.{never_mints, never_spends, made_if, steps_of, Goes}

-- the list after the call stands for one passage more
pub adds : (b : Bool) (mark : Mark) (old new : List Mark) → MatchBool b (new ≡ old ++ mark ∷ []) (new ≡ old) → (log : Log Mark) (n : ℕ) (p : Passage Mark) → p ≡ made_if b mark → old ≡ entries_of log → new ≡ entries_of (log ++ (n, p) ∷ [])
adds true mark old new h log n p is e = h ∙ ap (λ (l : List Mark). l ++ mark ∷ []) e ∙ sym (entries_of-append log n p ∙ ap (λ (q : Passage Mark). entries_of log ++ entry_in q []) is)
adds false mark old new h log n p is e = h ∙ e ∙ sym (entries_of-append log n p ∙ ap (λ (q : Passage Mark). entries_of log ++ entry_in q []) is ∙ append-nil (entries_of log))

-- marks spend nothing
pub no_claim : (log : Log Mark) (p : Passage Mark) (claims : List ℕ) → HasClaim (spends_in never_mints never_spends log p) claims
no_claim log (Made e) claims = tt
no_claim log Look claims = tt

steps_of-append : (thread step : ℕ) (bs : List Bool) (b : Bool) → steps_of thread step (bs ++ b ∷ []) ≡ steps_of thread step bs ++ made_if b (record { thread = thread; step = step + length bs }) ∷ []
steps_of-append thread step [] b = let e : step ≡ step + 0 = omega arith in ap (λ (k : ℕ). made_if b (record { thread = thread; step = k }) ∷ []) e
steps_of-append thread step (x ∷ xs) b =
    let e : (step + 1) + length xs ≡ step + suc (length xs) = omega arith in
    ap (λ (l : List (Passage Mark)). made_if x (record { thread = thread; step = step }) ∷ l)
    (steps_of-append thread (step + 1) xs b ∙ ap (λ (k : ℕ). steps_of thread (step + 1) xs ++ made_if b (record { thread = thread; step = k }) ∷ []) e)

-- a passage that changes nothing, after which the seat has seen so many entries
pub look_seen : (log : Log Mark) (n : ℕ) → entries_of (log ++ (n, Look) ∷ []) ≡ entries_of log
look_seen log n = entries_of-append log n Look ∙ append-nil (entries_of log)

module _ {S : Type 0} where
  -- a seat that has made no step yet
  pub goes_from : (thread : ℕ) (a : Seat (Option S) (View Mark)) → IsIdleAt a.table_id a → Goes thread 0 a a
  goes_from thread a idle = record { idle = idle; same_parts = refl; answers = []; many = refl; same_numbers = refl; own_passages = sym (append-nil _) }

  -- one more passage is one more step
  pub goes_on : (thread step : ℕ) (start a b : Seat (Option S) (View Mark)) (answer : Bool) → b.table_id ≡ a.table_id → Passes never_mints never_spends (made_if answer (record { thread = thread; step = step })) a b → Goes thread step start a → Goes thread (step + 1) start b
  goes_on thread step start a b answer same passes g =
      let mark : ℕ → List (Passage Mark) = λ k. made_if answer (record { thread = thread; step = k }) ∷ [] in
      let here : step ≡ 0 + length g.answers = (let h = g.many in omega arith) in
      let before = own start.me.0.numbers start.me.0.log in
      record {
        idle = (same ∙ g.idle.0, (ap (λ (m : Sitting S Mark). m.0.phase) passes.view, ap (λ (m : Sitting S Mark). m.1) passes.view));
        same_parts = ap (λ (m : Sitting S Mark). m.0.parts) passes.view ∙ g.same_parts;
        answers = g.answers ++ answer ∷ [];
        many = length-append g.answers (answer ∷ []) ∙ ap (λ n. n + 1) g.many;
        same_numbers = ap (λ (m : Sitting S Mark). m.0.numbers) passes.view ∙ g.same_numbers;
        own_passages = own_of_passage never_mints never_spends _ a b passes
            ∙ (ap (λ (l : List (Passage Mark)). l ++ mark step) g.own_passages
            ∙ (append_assoc before (steps_of thread 0 g.answers) (mark step)
            ∙ ap (λ (l : List (Passage Mark)). before ++ l)
            (ap (λ (n : ℕ). steps_of thread 0 g.answers ++ mark n) here ∙ sym (steps_of-append thread 0 g.answers answer))));
      }

  -- what stands in a log that goes on with passages of others, of a seat that began with nothing seen
  pub own_in : (thread count k : ℕ) (a b : Seat (Option S) (View Mark)) (log : Log Mark) → a.me.0.numbers ≡ k ∷ [] → a.me.0.log ≡ [] → (g : Goes thread count a b) → Continues b.me.0.numbers b.me.0.log log → own (k ∷ []) log ≡ steps_of thread 0 g.answers
  own_in thread count k a b log numbers empty g continues =
      ap (λ (z : List ℕ). own z log) (sym (g.same_numbers ∙ numbers))
      ∙ (own-continues b.me.0.numbers b.me.0.log log continues
      ∙ (g.own_passages ∙ ap (λ (z : Log Mark). own a.me.0.numbers z ++ steps_of thread 0 g.answers) empty))

-- two numbers that are apart
pub apart_of : (k n : ℕ) (a b : List ℕ) → a ≡ k ∷ [] → b ≡ n ∷ [] → AreApart a b → ¬ (k ≡ n)
apart_of k n a b p q apart = (subst (λ (z : List ℕ × List ℕ). AreApart z.0 z.1) (λ i. (p i, q i)) apart).0.0

-- passages of two seats alone
pub all_of_two : (k n : ℕ) (a b both : List ℕ) (log : Log Mark) → a ≡ k ∷ [] → b ≡ n ∷ [] → both ≡ a ++ b → AllBy both log → AllBy (k ∷ n ∷ []) log
all_of_two k n a b both log p q is all = subst (λ (z : List ℕ). AllBy z log) (is ∙ (λ i. p i ++ q i)) all
