-- A reference ends once, and is new when it is made.
use Rattle.std.proofs.Common.{ℕ, zero, suc, ◌<◌, ◌≡◌, ◌==◌, true, cond, not, List, [], ◌∷◌, ◌++◌, Option, Some, None, refl, ap, sym, subst, ◌∙◌, arith}
use Rattle.std.proofs.lemmas.Bool.{and_parts, eqb-true}
use Rattle.wc_base.specs.declared.who.By.{By}
use Rattle.wc_pool.specs.declared.entry.PoolEntry.{PoolEntry}
use Rattle.wc_pool.specs.declared.entry.PoolOp.{PoolOp}
use Rattle.wc_pool.specs.declared.entry.PoolOp.TheVariants as op
use Rattle.wc_pool.specs.Bag.{resource_of, references_made, resources_made, is_live, is_held, is_legal_next, is_legal_from, is_legal_pool}
use Rattle.wc_pool.proofs.Steps.{AreNumbered, Mints, mints_of_make, mints_of_clone, ends_of_end, minted_else, ended_else, ended_here}
use Rattle.wc_pool.proofs.Legal.{live_is, next_numbered, legal_numbered}
use Rattle.wc_pool.specs.Laws.{entry_at, made_reference, ended_reference}

-- the reference was made, and has ended
record Dead (f : ℕ) (h : List PoolEntry) : Type 0 where
  made : f < references_made h
  none : resource_of f h ≡ None

some_is_none : (o : Option ℕ) (r : ℕ) → o ≡ Some r → o ≡ None → ⊥
some_is_none o r a b = cc

mint_dead : (f r g : ℕ) (h new : List PoolEntry) → Mints h new r g → Dead f h → Dead f new
mint_dead f r g h new m d = record {
  made = let x = d.made in let y = m.more in omega (arith, x, y);
  none = minted_else h new r g f m (λ e. let x = d.made in omega (arith, x, e, m.next)) ∙ d.none;
}

-- what has ended stays so
dead_next : (f : ℕ) (h : List PoolEntry) (cause : By) (o : PoolOp) → AreNumbered h → is_legal_next h (record { by = cause; op = o }) ≡ true → Dead f h → Dead f (h ++ record { by = cause; op = o } ∷ [])
dead_next f h cause (op.Make r g) n legal d = mint_dead f r g h _ (mints_of_make h cause r g (eqb-true g (references_made h) (and_parts (r == resources_made h) (g == references_made h) legal).1)) d
dead_next f h cause (op.Clone r g) n legal d = mint_dead f r g h _ (mints_of_clone h cause r g (eqb-true g (references_made h) (and_parts (is_held r h) (g == references_made h) legal).1)) d
dead_next f h cause (op.End r g last) n legal d =
    let after = h ++ record { by = cause; op = op.End r g last } ∷ [] in
    let live = live_is r g h (and_parts (is_live r g h) (cond last (not (is_held r after)) (is_held r after)) legal).0 in
    let m = ends_of_end h cause r g last n live in
    record {
      made = let x = d.made in let y = m.same in omega (arith, x, y);
      none = ended_else h after r g f m (λ e. some_is_none (resource_of f h) r (ap (λ (k : ℕ). resource_of k h) e ∙ live) d.none) ∙ d.none;
    }

-- an end is of no reference that has ended
not_again : (f : ℕ) (h : List PoolEntry) (cause : By) (o : PoolOp) → is_legal_next h (record { by = cause; op = o }) ≡ true → ended_reference o ≡ Some f → Dead f h → ⊥
not_again f h cause (op.Make r g) legal is d = absurd cc
not_again f h cause (op.Clone r g) legal is d = absurd cc
not_again f h cause (op.End r g last) legal is d =
    let after = h ++ record { by = cause; op = op.End r g last } ∷ [] in
    let live = live_is r g h (and_parts (is_live r g h) (cond last (not (is_held r after)) (is_held r after)) legal).0 in
    let same : g ≡ f = cc in
    some_is_none (resource_of g h) r live (ap (λ (k : ℕ). resource_of k h) same ∙ d.none)

dead_then : (f : ℕ) (h : List PoolEntry) (cause : By) (o : PoolOp) → AreNumbered h → is_legal_next h (record { by = cause; op = o }) ≡ true → ended_reference o ≡ Some f → Dead f (h ++ record { by = cause; op = o } ∷ [])
dead_then f h cause (op.Make r g) n legal is = absurd cc
dead_then f h cause (op.Clone r g) n legal is = absurd cc
dead_then f h cause (op.End r g last) n legal is =
    let after = h ++ record { by = cause; op = op.End r g last } ∷ [] in
    let live = live_is r g h (and_parts (is_live r g h) (cond last (not (is_held r after)) (is_held r after)) legal).0 in
    let m = ends_of_end h cause r g last n live in
    let same : g ≡ f = cc in
    let P : ℕ → Type 0 = λ k. Dead k after in
    subst P same (record { made = (let x = m.made in let y = m.same in omega (arith, x, y)); none = ended_here h after r g m })

never : (f : ℕ) (h rest : List PoolEntry) (n : ℕ) (e : PoolEntry) → AreNumbered h → is_legal_from h rest ≡ true → Dead f h → entry_at rest n ≡ Some e → ended_reference e.op ≡ Some f → ⊥
never f h [] n e numbered legal d at is = absurd cc
never f h (x ∷ xs) zero e numbered legal d at is =
    let parts = and_parts (is_legal_next h x) (is_legal_from (h ++ x ∷ []) xs) legal in
    let same : x ≡ e = cc in
    not_again f h x.by x.op parts.0 (ap (λ (y : PoolEntry). ended_reference y.op) same ∙ is) d
never f h (x ∷ xs) (suc n) e numbered legal d at is =
    let parts = and_parts (is_legal_next h x) (is_legal_from (h ++ x ∷ []) xs) legal in
    never f (h ++ x ∷ []) xs n e (next_numbered h x.by x.op numbered parts.0) parts.1 (dead_next f h x.by x.op numbered parts.0 d) at is

once_from : (h rest : List PoolEntry) (m n : ℕ) (d e : PoolEntry) (f : ℕ) → AreNumbered h → is_legal_from h rest ≡ true → entry_at rest m ≡ Some d → entry_at rest n ≡ Some e → ended_reference d.op ≡ Some f → ended_reference e.op ≡ Some f → m ≡ n
once_from h [] m n d e f numbered legal left right a b = absurd cc
once_from h (x ∷ xs) zero zero d e f numbered legal left right a b = refl
once_from h (x ∷ xs) zero (suc n) d e f numbered legal left right a b =
    let parts = and_parts (is_legal_next h x) (is_legal_from (h ++ x ∷ []) xs) legal in
    let same : x ≡ d = cc in
    let ends = ap (λ (y : PoolEntry). ended_reference y.op) same ∙ a in
    absurd (never f (h ++ x ∷ []) xs n e (next_numbered h x.by x.op numbered parts.0) parts.1 (dead_then f h x.by x.op numbered parts.0 ends) right b)
once_from h (x ∷ xs) (suc m) zero d e f numbered legal left right a b =
    let parts = and_parts (is_legal_next h x) (is_legal_from (h ++ x ∷ []) xs) legal in
    let same : x ≡ e = cc in
    let ends = ap (λ (y : PoolEntry). ended_reference y.op) same ∙ b in
    absurd (never f (h ++ x ∷ []) xs m d (next_numbered h x.by x.op numbered parts.0) parts.1 (dead_then f h x.by x.op numbered parts.0 ends) left a)
once_from h (x ∷ xs) (suc m) (suc n) d e f numbered legal left right a b =
    let parts = and_parts (is_legal_next h x) (is_legal_from (h ++ x ∷ []) xs) legal in
    ap suc (once_from (h ++ x ∷ []) xs m n d e f (next_numbered h x.by x.op numbered parts.0) parts.1 left right a b)

-- a reference of a legal history ends once
pub ends_once : (h : List PoolEntry) → is_legal_pool h ≡ true → (m n : ℕ) (d e : PoolEntry) (f : ℕ) → entry_at h m ≡ Some d → entry_at h n ≡ Some e → ended_reference d.op ≡ Some f → ended_reference e.op ≡ Some f → m ≡ n
ends_once h legal m n d e f left right a b = once_from [] h m n d e f (record { references = λ g r x. absurd cc; resources = λ g r x. absurd cc }) legal left right a b

none_if : (o : Option ℕ) → ((r : ℕ) → o ≡ Some r → ⊥) → o ≡ None
none_if None h = refl
none_if (Some r) h = absurd (h r refl)

-- the next reference is not live
next_is_new : (h : List PoolEntry) (f : ℕ) → AreNumbered h → f ≡ references_made h → resource_of f h ≡ None
next_is_new h f n next = none_if (resource_of f h) (λ r live. let low = n.references f r live in omega (arith, low, next))

made_new : (h : List PoolEntry) (cause : By) (o : PoolOp) (f : ℕ) → AreNumbered h → is_legal_next h (record { by = cause; op = o }) ≡ true → made_reference o ≡ Some f → resource_of f h ≡ None
made_new h cause (op.Make r g) f n legal is =
    let same : g ≡ f = cc in
    next_is_new h f n (sym same ∙ eqb-true g (references_made h) (and_parts (r == resources_made h) (g == references_made h) legal).1)
made_new h cause (op.Clone r g) f n legal is =
    let same : g ≡ f = cc in
    next_is_new h f n (sym same ∙ eqb-true g (references_made h) (and_parts (is_held r h) (g == references_made h) legal).1)
made_new h cause (op.End r g last) f n legal is = absurd cc

pub made_are_new : (h : List PoolEntry) (e : PoolEntry) (f : ℕ) → is_legal_pool h ≡ true → is_legal_next h e ≡ true → made_reference e.op ≡ Some f → resource_of f h ≡ None
made_are_new h e f legal next is = made_new h e.by e.op f (legal_numbered h legal) next is
