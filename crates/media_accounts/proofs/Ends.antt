-- What one more entry, and the ends of a list of references, make of a pool's history.
use Rattle.std.proofs.Common.{ℕ, zero, suc, ◌+◌, ◌≡◌, ◌≢◌, ◌<◌, ◌==◌, Bool, true, false, cond, not, if◌then◌else◌, List, [], ◌∷◌, ◌++◌, Option, Some, None, refl, ap, sym, subst, ◌∙◌, arith, append_assoc, append-nil, eq-eqb}
use Rattle.std.specs.Prelude.{map, slice_get, ◌&&◌}
use Rattle.std.proofs.lemmas.Bool.{and_from, ne_eqb}
use Rattle.std.proofs.lemmas.List.Sums.{fold_push, sum_by_push}
use Rattle.wc_base.specs.declared.who.By.{By}
use Rattle.wc_pool.specs.declared.entry.{PoolEntry.PoolEntry, PoolOp.PoolOp}
use Rattle.wc_pool.specs.Bag.{resource_after, resource_of, is_live, is_number, mints, references_made, count_below, is_held, is_legal_next, is_legal_from}
use Rattle.codec_model.specs.declared.entry.Pair.{Pair}
use Rattle.media_variables.specs.Variables.{Medium, is_last_of}
use Rattle.media_variables.specs.Held.{AreApart, clones_of, ends_behind}
use Rattle.media_accounts.specs.Accounts.{MayAdd, without_last}
use Rattle.media_accounts.proofs.Pools.{AllBy}

pub resource_more : (f : ℕ) (h : List PoolEntry) (e : PoolEntry) → resource_of f (h ++ e ∷ []) ≡ resource_after f (resource_of f h) e
resource_more f h e = fold_push (resource_after f) None h e

-- ---- one end

abbrev end_of : By → ℕ → ℕ → Bool → PoolEntry
end_of cause r f last = record { by = cause; op = PoolOp.End r f last }

-- the flag of an end does not matter to what is held after it
held_same : (cause : By) (r f : ℕ) (a b : Bool) (n : ℕ) (h : List PoolEntry) → is_held n (h ++ end_of cause r f a ∷ []) ≡ is_held n (h ++ end_of cause r f b ∷ [])
held_same cause r f a b n h =
    let after : Bool → List PoolEntry = λ x. h ++ end_of cause r f x ∷ [] in
    let each : (g : ℕ) → resource_of g (after a) ≡ resource_of g (after b) = λ g. resource_more g h (end_of cause r f a) ∙ sym (resource_more g h (end_of cause r f b)) in
    let count : (x : Bool) → references_made (after x) ≡ references_made h + 0 = λ x. sum_by_push (λ e. cond (mints e) 1 0) h (end_of cause r f x) in
    λ i. not (count_below (λ g. is_number (each g i) n) ((count a ∙ sym (count b)) i) == 0)

flag_legal : (cause : By) (pool : List PoolEntry) (r f : ℕ) (b : Bool) → is_held r (pool ++ end_of cause r f false ∷ []) ≡ b
    → (if not b then not (is_held r (pool ++ end_of cause r f (not b) ∷ [])) else is_held r (pool ++ end_of cause r f (not b) ∷ [])) ≡ true
flag_legal cause pool r f true is = is
flag_legal cause pool r f false is = ap not (held_same cause r f true false r pool ∙ is)

-- the end of this reference, as it is recorded
abbrev end_here : By → List PoolEntry → Pair → PoolEntry
end_here cause pool p = end_of cause p.resource p.reference (is_last_of cause p.resource p.reference pool)

-- the end of a live reference is legal
end_legal : (cause : By) (pool : List PoolEntry) (p : Pair) → resource_of p.reference pool ≡ Some p.resource → is_legal_next pool (end_here cause pool p) ≡ true
end_legal cause pool p lives =
    let r = p.resource in
    let f = p.reference in
    let live : is_live r f pool ≡ true = ap (λ (o : Option ℕ). is_number o r) lives ∙ eq-eqb r r refl in
    let still = is_held r (pool ++ end_of cause r f false ∷ []) in
    ap (λ (b : Bool). b && (if not still then not (is_held r (pool ++ end_of cause r f (not still) ∷ [])) else is_held r (pool ++ end_of cause r f (not still) ∷ []))) live
    ∙ flag_legal cause pool r f still refl

-- and all others stay live
end_others : (cause : By) (pool : List PoolEntry) (p : Pair) (g : ℕ) → p.reference ≢ g → resource_of g (pool ++ end_here cause pool p ∷ []) ≡ resource_of g pool
end_others cause pool p g other =
    resource_more g pool (end_here cause pool p) ∙ ap (λ (b : Bool). if b then None else resource_of g pool) (ne_eqb p.reference g other)

-- ---- what is added and what is let go, as one

-- These entries, behind a pool's history, are legal there; what was live still is, but for what is let go; and what is added
-- is live, has the next number, and is one at most.
pub record Grows (cause : By) (pool new : List PoolEntry) (gone added : List Pair) : Type 0 where
  pub legal : is_legal_from pool new ≡ true
  pub its : AllBy cause new
  pub stays : (f r : ℕ) → resource_of f pool ≡ Some r → ((i : ℕ) (q : Pair) → slice_get gone i ≡ Some q → q.reference ≢ f) → resource_of f (pool ++ new) ≡ Some r
  pub adds : (i : ℕ) (p : Pair) → slice_get added i ≡ Some p → (i ≡ 0) × (p.reference ≡ references_made pool) × (resource_of p.reference (pool ++ new) ≡ Some p.resource)

-- ---- one clone

abbrev clone_of : By → Pair → PoolEntry
clone_of cause p = record { by = cause; op = PoolOp.Clone p.resource p.reference }

only_one : (p q : Pair) (i : ℕ) → slice_get (p ∷ []) i ≡ Some q → (i ≡ 0) × (q ≡ p)
only_one p q zero is = (refl, let same : p ≡ q = cc in sym same)
only_one p q (suc i) is = absurd cc

pub clone_grows : (cause : By) (pool : List PoolEntry) (p : Pair) → MayAdd pool p → ((f r : ℕ) → resource_of f pool ≡ Some r → f < references_made pool) → Grows cause pool (clone_of cause p ∷ []) [] (p ∷ [])
clone_grows cause pool p may numbered = record {
  legal = and_from _ true (and_from _ _ may.0 (eq-eqb p.reference (references_made pool) may.1)) refl;
  its = (refl, tt);
  stays = λ f r lives none. (
      let lt = numbered f r lives in
      let at = may.1 in
      let other : p.reference ≢ f = λ e. omega (arith, lt, at, e) in
      resource_more f pool (clone_of cause p) ∙ (ap (λ (b : Bool). if b then Some p.resource else resource_of f pool) (ne_eqb p.reference f other) ∙ lives)
      );
  adds = λ i q is. (
      let one = only_one p q i is in
      let made = resource_more p.reference pool (clone_of cause p) ∙ ap (λ (b : Bool). if b then Some p.resource else resource_of p.reference pool) (eq-eqb p.reference p.reference refl) in
      let its = subst (λ (x : Pair). resource_of x.reference (pool ++ clone_of cause p ∷ []) ≡ Some x.resource) (sym one.1) made in
      (one.0, ap (λ (x : Pair). x.reference) one.1 ∙ may.1, its)
      );
}

-- ---- a list of ends

rest_apart : (cause : By) (pool : List PoolEntry) (callers : List (List (Option Medium))) (p : Pair) (ps : List Pair) → AreApart pool callers (p ∷ ps)
    → AreApart (pool ++ end_here cause pool p ∷ []) callers ps
rest_apart cause pool callers p ps m = record {
  lives = λ i q at. end_others cause pool p q.reference (λ e. (let bad = m.once 0 (suc i) p q refl at e in omega (arith, bad))) ∙ m.lives (suc i) q at;
  once = λ i j q s one two same. (let both = m.once (suc i) (suc j) q s one two same in omega (arith, both));
  elsewhere = λ i. m.elsewhere (suc i);
}

pub ends_grow : (cause : By) (pool : List PoolEntry) (callers : List (List (Option Medium))) (ps : List Pair) → AreApart pool callers ps → Grows cause pool (ends_behind cause pool ps) ps []
ends_grow cause pool callers [] m = record {
  legal = refl;
  its = tt;
  stays = λ f r lives other. ap (resource_of f) (append-nil pool) ∙ lives;
  adds = λ i p at. absurd cc;
}
ends_grow cause pool callers (p ∷ ps) m =
    let new = pool ++ end_here cause pool p ∷ [] in
    let rest = ends_grow cause new callers ps (rest_apart cause pool callers p ps m) in
    record {
      legal = and_from (is_legal_next pool (end_here cause pool p)) (is_legal_from new (ends_behind cause new ps)) (end_legal cause pool p (m.lives 0 p refl)) rest.legal;
      its = (refl, rest.its);
      stays = λ f r lives other.
          ap (resource_of f) (sym (append_assoc pool (end_here cause pool p ∷ []) (ends_behind cause new ps)))
          ∙ rest.stays f r (end_others cause pool p f (other 0 p refl) ∙ lives) (λ i q at. other (suc i) q at);
      adds = λ i p at. absurd cc;
    }

-- ---- what they did

pub all_done : (cause : By) (pool : List PoolEntry) (ps qs : List Pair)
    → map without_last (map (λ e. e.op) (clones_of cause ps ++ ends_behind cause pool qs)) ≡ map (λ p. PoolOp.Clone p.resource p.reference) ps ++ map (λ p. PoolOp.End p.resource p.reference false) qs
all_done cause pool [] [] = refl
all_done cause pool [] (q ∷ qs) = ap (λ (l : List PoolOp). PoolOp.End q.resource q.reference false ∷ l) (all_done cause (pool ++ end_here cause pool q ∷ []) [] qs)
all_done cause pool (p ∷ ps) qs = ap (λ (l : List PoolOp). PoolOp.Clone p.resource p.reference ∷ l) (all_done cause pool ps qs)
