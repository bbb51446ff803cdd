-- The flag of the end of a reference, and what one more entry makes of the references that are live.
use Rattle.std.proofs.Common.{ℕ, zero, suc, ◌+◌, ◌≡◌, ◌==◌, Bool, true, false, cond, not, List, [], ◌∷◌, ◌++◌, Option, None, refl, ap, sym, ◌∙◌, arith}
use Rattle.std.proofs.lemmas.Bool.{and_parts}
use Rattle.std.proofs.lemmas.List.Sums.{fold_push, sum_by_push}
use Rattle.wc_base.specs.declared.who.By.{By}
use Rattle.wc_pool.specs.declared.entry.PoolEntry.{PoolEntry}
use Rattle.wc_pool.specs.declared.entry.PoolOp.TheVariants as op
use Rattle.wc_pool.specs.declared.reference.MediaRef.{MediaRef}
use Rattle.wc_pool.specs.Bag.{resource_after, resource_of, is_live, is_number, mints, references_made, count_below, is_held, is_legal_next}
use Rattle.wc_pool.specs.Pools.{Adds, ended_by}
use Rattle.media_variables.specs.Held.{pair_of, ends_behind}

abbrev one_if : Bool → ℕ
one_if b = cond b 1 0

count_same : (p q : ℕ → Bool) (n : ℕ) → ((k : ℕ) → p k ≡ q k) → count_below p n ≡ count_below q n
count_same p q zero h = refl
count_same p q (suc n) h = let rest = count_same p q n h in let here = ap one_if (h n) in omega (arith, rest, here)

pub resource_more : (f : ℕ) (h : List PoolEntry) (e : PoolEntry) → resource_of f (h ++ e ∷ []) ≡ resource_after f (resource_of f h) e
resource_more f h e = fold_push (resource_after f) None h e

abbrev end_of : By → ℕ → ℕ → Bool → PoolEntry
end_of cause r f last = record { by = cause; op = op.End r f last }

minted_same : (cause : By) (r f : ℕ) (a : Bool) (h : List PoolEntry) → references_made (h ++ end_of cause r f a ∷ []) ≡ references_made h + 0
minted_same cause r f a h = sum_by_push (λ x. one_if (mints x)) h (end_of cause r f a)

-- the flag of an end does not matter to what is held after it
pub held_same : (cause : By) (r f : ℕ) (a b : Bool) (n : ℕ) (h : List PoolEntry) → is_held n (h ++ end_of cause r f a ∷ []) ≡ is_held n (h ++ end_of cause r f b ∷ [])
held_same cause r f a b n h =
    let p : ℕ → Bool = λ g. is_live n g (h ++ end_of cause r f a ∷ []) in
    let q : ℕ → Bool = λ g. is_live n g (h ++ end_of cause r f b ∷ []) in
    let each : (g : ℕ) → p g ≡ q g = λ g. ap (λ (o : Option ℕ). is_number o n) (resource_more g h (end_of cause r f a) ∙ sym (resource_more g h (end_of cause r f b))) in
    let made = minted_same cause r f a h ∙ sym (minted_same cause r f b h) in
    ap (λ (c : ℕ). not (c == 0)) (ap (count_below p) made ∙ count_same p q (references_made (h ++ end_of cause r f b ∷ [])) each)

pub flag_is : (cause : By) (r f : ℕ) (last : Bool) (h : List PoolEntry) → is_legal_next h (end_of cause r f last) ≡ true → last ≡ not (is_held r (h ++ end_of cause r f false ∷ []))
flag_is cause r f true h legal =
    let next = and_parts (is_live r f h) (not (is_held r (h ++ end_of cause r f true ∷ []))) legal in
    sym next.1 ∙ ap not (held_same cause r f true false r h)
flag_is cause r f false h legal =
    let next = and_parts (is_live r f h) (is_held r (h ++ end_of cause r f false ∷ [])) legal in
    sym (ap not next.1)

-- the end of a reference, with the flag that it has to have
pub ends : (cause : By) (pool new : List PoolEntry) (r : MediaRef) (last : Bool) → Adds pool new (ended_by cause r last) → new ≡ pool ++ ends_behind cause pool (pair_of r ∷ [])
ends cause pool new r last h =
    let flag = flag_is cause r.resource r.number last pool h.next in
    h.longer ∙ ap (λ (b : Bool). pool ++ end_of cause r.resource r.number b ∷ []) flag
