-- What it gives that promises are named by earlier entries.
use Rattle.std.proofs.Common.{ℕ, inl, inr, ◌≡◌, ◌+◌, ◌≤◌, ◌<◌, eqb, cond, Bool, List, [], ◌∷◌, count_by, refl, ap, eq-eqb, arith}
use Rattle.std.proofs.lemmas.Bool.{cases_lt}
use Rattle.std.specs.List.{AllByRecursion}
use Rattle.std.proofs.lemmas.List.Sums.{sum_by-cons}
use Rattle.codec_definitions.specs.declared.unit.Unit as media
use Rattle.codec_model.specs.declared.entry.Task.{Task}
use Rattle.codec_model.specs.declared.entry.Task.TheVariants as task
use Rattle.codec_model.specs.Control.{Control}
use Rattle.codec_model.specs.Facts.{bit, resolves, NamesEarlier}

first_of_all : {X : Type 0} (p : X → Bool) (x : X) (xs : List X) → count_by p (x ∷ xs) ≡ bit (p x) + count_by p xs
first_of_all p x xs = sum_by-cons (λ y. cond (p y) 1 0) x xs

itself : (e : ℕ) → bit (eqb e e) ≡ 1
itself e = ap bit (eq-eqb e e refl)

names_below : (n : ℕ) (ps : List ℕ) → ((p : ℕ) → n ≤ p → count_by (λ q. eqb q p) ps ≡ 0) → AllByRecursion (λ p. p < n) ps
names_below n [] h = tt
names_below n (q ∷ qs) h = (
  elim (cases_lt q n) [ inl lt ↦ lt | inr le ↦ absurd (omega (arith, h q le, first_of_all (λ (x : ℕ). eqb x q) q qs, itself q)) ],
  names_below n qs (λ p new. omega (arith, h p new, first_of_all (λ (x : ℕ). eqb x p) q qs)),
)

-- the pending promises are named by entries before this place
pub pending_below : (c : Control) → NamesEarlier c → AllByRecursion (λ p. p < c.place) c.pending
pending_below c h = names_below c.place c.pending h.pending

-- so is the promise that the front task resolves
pub resolved_below : (c : Control) (p : ℕ) (units : List media.Unit) (ts : List Task) → NamesEarlier c → c.tasks ≡ task.Flushed p units ∷ ts → p < c.place
resolved_below c p units ts h is =
    let none : c.place ≤ p → count_by (resolves p) (task.Flushed p units ∷ ts) ≡ 0 = λ new. rw is at (h.resolving p new) in
    elim (cases_lt p c.place) [ inl lt ↦ lt | inr le ↦ absurd (omega (arith, none le, first_of_all (resolves p) (task.Flushed p units) ts, itself p)) ]
