-- What a legal history says of its references.
use Rattle.std.proofs.Common.{ℕ, zero, suc, ◌+◌, ◌<◌, ◌≡◌, ◌≢◌, ◌==◌, Bool, true, false, cond, not, List, [], ◌∷◌, ◌++◌, Option, Some, None, ap, sym, subst, ◌∙◌, arith, inl, inr, append_assoc, append-nil, eq-eqb}
use Rattle.std.proofs.lemmas.Bool.{and_parts, eqb-true, cases_Bool, cases_eq, false≢true}
use Rattle.wc_base.specs.declared.who.By.{By}
use Rattle.wc_pool.specs.declared.entry.PoolEntry.{PoolEntry}
use Rattle.wc_pool.specs.declared.entry.PoolOp.{PoolOp}
use Rattle.wc_pool.specs.declared.entry.PoolOp.TheVariants as op
use Rattle.wc_pool.specs.Bag.{resource_of, is_number, is_live, references_of, references_made, resources_made, is_held, count_below, is_legal_next, is_legal_from, is_legal_pool}
use Rattle.wc_pool.proofs.Counts.{one_if}
use Rattle.wc_pool.proofs.Steps.{AreNumbered, makes_more, mints_of_make, mints_of_clone, ends_of_end, numbered_mint, numbered_end, end_counts, not_held, held_if}

-- a number that passes, where some do
pub record Passes (p : ℕ → Bool) (n : ℕ) : Type 0 where
  pub number : ℕ
  pub yes_it_does : p number ≡ true

pub count_exists : (p : ℕ → Bool) (n : ℕ) → 0 < count_below p n → Passes p n
count_exists p zero some = absurd (omega (arith, some))
count_exists p (suc n) some =
    elim (cases_Bool (p n)) [
      | inl here ↦ record { number = n; yes_it_does = here }
      | inr none ↦ (let b = ap one_if none in let rest = count_exists p n (omega (arith, some, b)) in record { number = rest.number; yes_it_does = rest.yes_it_does })
    ]

number_is : (o : Option ℕ) (r : ℕ) → is_number o r ≡ true → o ≡ Some r
number_is None r h = absurd cc
number_is (Some k) r h = ap Some (eqb-true k r h)

pub live_is : (r f : ℕ) (h : List PoolEntry) → is_live r f h ≡ true → resource_of f h ≡ Some r
live_is r f h e = number_is (resource_of f h) r e

held_made : (r : ℕ) (h : List PoolEntry) → AreNumbered h → is_held r h ≡ true → r < resources_made h
held_made r h n held =
    let some : references_of r h ≢ 0 = λ e. false≢true (sym (not_held h r e) ∙ held) in
    let one = count_exists (λ f. is_live r f h) (references_made h) (omega (arith, some)) in
    n.resources one.number r (live_is r one.number h one.yes_it_does)

pub next_numbered : (h : List PoolEntry) (cause : By) (o : PoolOp) → AreNumbered h → is_legal_next h (record { by = cause; op = o }) ≡ true → AreNumbered (h ++ record { by = cause; op = o } ∷ [])
next_numbered h cause (op.Make r f) n legal =
    let parts = and_parts (r == resources_made h) (f == references_made h) legal in
    let m = mints_of_make h cause r f (eqb-true f (references_made h) parts.1) in
    let grows = makes_more h (record { by = cause; op = op.Make r f }) in
    numbered_mint h _ r f n m (omega (arith, grows)) (omega (arith, grows, eqb-true r (resources_made h) parts.0))
next_numbered h cause (op.Clone r f) n legal =
    let parts = and_parts (is_held r h) (f == references_made h) legal in
    let m = mints_of_clone h cause r f (eqb-true f (references_made h) parts.1) in
    let grows = makes_more h (record { by = cause; op = op.Clone r f }) in
    let made = held_made r h n parts.0 in
    numbered_mint h _ r f n m (omega (arith, grows)) (omega (arith, grows, made))
next_numbered h cause (op.End r f last) n legal =
    let after = h ++ record { by = cause; op = op.End r f last } ∷ [] in
    let parts = and_parts (is_live r f h) (cond last (not (is_held r after)) (is_held r after)) legal in
    let m = ends_of_end h cause r f last n (live_is r f h parts.0) in
    let grows = makes_more h (record { by = cause; op = op.End r f last }) in
    numbered_end h after r f n m (omega (arith, grows))

numbered_from : (before rest : List PoolEntry) → AreNumbered before → is_legal_from before rest ≡ true → AreNumbered (before ++ rest)
numbered_from before [] n legal = let P : List PoolEntry → Type 0 = λ l. AreNumbered l in subst P (sym (append-nil before)) n
numbered_from before (e ∷ rest) n legal =
    let parts = and_parts (is_legal_next before e) (is_legal_from (before ++ e ∷ []) rest) legal in
    let P : List PoolEntry → Type 0 = λ l. AreNumbered l in
    subst P (append_assoc before (e ∷ []) rest) (numbered_from (before ++ e ∷ []) rest (next_numbered before e.by e.op n parts.0) parts.1)

-- the live references of a legal history are numbered below those that were made
pub legal_numbered : (h : List PoolEntry) → is_legal_pool h ≡ true → AreNumbered h
legal_numbered h legal = numbered_from [] h (record { references = λ f r e. absurd cc; resources = λ f r e. absurd cc }) legal

one_left : (last : Bool) (r n : ℕ) (after : List PoolEntry) → cond last (not (is_held r after)) (is_held r after) ≡ true → references_of r after + 1 ≡ n → last ≡ (n == 1)
one_left true r n after h more =
    elim (cases_eq (references_of r after) 0) [
      | inl none ↦ sym (eq-eqb n 1 (omega (arith, none, more)))
      | inr some ↦ absurd (let held = held_if after r (omega (arith, some)) in false≢true (ap not (sym held) ∙ h))
    ]
one_left false r n after h more =
    elim (cases_Bool (n == 1)) [
      | inl one ↦ absurd (let none : references_of r after ≡ 0 = omega (arith, eqb-true n 1 one, more) in false≢true (sym (not_held after r none) ∙ h))
      | inr apart ↦ sym apart
    ]

-- the flag of an end says that its reference was the only one
pub end_flag : (h : List PoolEntry) (cause : By) (r f : ℕ) (last : Bool) → is_legal_pool h ≡ true → is_legal_next h (record { by = cause; op = op.End r f last }) ≡ true → last ≡ (references_of r h == 1)
end_flag h cause r f last legal next =
    let after = h ++ record { by = cause; op = op.End r f last } ∷ [] in
    let parts = and_parts (is_live r f h) (cond last (not (is_held r after)) (is_held r after)) next in
    let m = ends_of_end h cause r f last (legal_numbered h legal) (live_is r f h parts.0) in
    one_left last r (references_of r h) after parts.1 (end_counts h after r f m)
