-- What a pool's calls make of what it keeps.
use Rattle.std.proofs.Common.{ℕ, ◌+◌, ◌-◌, ◌<◌, ◌≤◌, ◌≡◌, ◌≢◌, ◌==◌, Bool, true, false, cond, not, List, [], ◌∷◌, ◌++◌, Option, Some, None, is_some, length, refl, ap, sym, subst, ◌∙◌, arith, inl, inr, eq-eqb}
use Rattle.std.proofs.lemmas.Bool.{and_from, eqb-true, cases_eq, false≢true}
use Rattle.std.proofs.lemmas.List.Sums.{count_by-le-length}
use Rattle.slab.specs.Slab.{Slab, get, Updates}
use Rattle.wc_base.specs.declared.who.By.{By}
use Rattle.wc_pool.specs.declared.entry.PoolEntry.{PoolEntry}
use Rattle.wc_pool.specs.declared.entry.PoolOp.TheVariants as op
use Rattle.wc_pool.specs.declared.pool.Resource.{Resource}
use Rattle.wc_pool.specs.Bag.{resource_of, references_of, references_made, resources_made, is_held, is_live, held_in, makes, mints, is_number, is_legal_next, is_legal_pool}
use Rattle.wc_pool.specs.Pools.{IsLive, Adds, KeepsAll, KeepsOthers}
use Rattle.wc_pool.specs.Shared.{KeyOf, IsKept, IsPool, AddsOne, DropsOne, resource_left, less_if}
use Rattle.wc_pool.proofs.Counts.{count_within, count_some}
use Rattle.wc_pool.proofs.Steps.{AreNumbered, Mints, Ends, legal_more, makes_more, mints_of_make, mints_of_clone, ends_of_end, numbered_mint, numbered_end, mint_counts, mint_keeps, mint_live, end_counts, end_keeps, end_live, held_make, held_same, held_less, held_if, not_held, live_held, none_held, minted_else, ended_else, same_eqb}
use Rattle.wc_pool.proofs.Places.{FitsSlot, Moves, moves_keep}

pub numbered : (s : Slab Resource) (h : List PoolEntry) → IsKept s h → AreNumbered h
numbered s h kept = record { references = kept.references; resources = kept.resources }

-- no more references are live, and no more resources held, than there are entries
pub live_few : (s : Slab Resource) (h : List PoolEntry) (made minted held live : ℕ) → IsPool s h made minted held live → live ≤ length h
live_few s h made minted held live p =
    let w = count_within (λ f. is_some (resource_of f h)) (references_made h) in
    let l = count_by-le-length mints h in
    omega (arith, w, l, p.all_live)

pub held_few : (s : Slab Resource) (h : List PoolEntry) (made minted held live : ℕ) → IsPool s h made minted held live → held ≤ length h
held_few s h made minted held live p =
    let w = count_within (λ r. is_held r h) (resources_made h) in
    let l = count_by-le-length makes h in
    omega (arith, w, l, p.all_held)

pub made_few : (s : Slab Resource) (h : List PoolEntry) (made minted held live : ℕ) → IsPool s h made minted held live → made ≤ length h
made_few s h made minted held live p = let l = count_by-le-length makes h in omega (arith, l, p.all_made)

pub minted_few : (s : Slab Resource) (h : List PoolEntry) (made minted held live : ℕ) → IsPool s h made minted held live → minted ≤ length h
minted_few s h made minted held live p = let l = count_by-le-length mints h in omega (arith, l, p.all_minted)

-- a live reference is one of those that are counted, and its resource one of those that are held
pub some_live : (s : Slab Resource) (h : List PoolEntry) (made minted held live r f : ℕ) → IsPool s h made minted held live → resource_of f h ≡ Some r → 0 < live
some_live s h made minted held live r f p is =
    let c = count_some (λ g. is_some (resource_of g h)) (references_made h) f (p.kept.references f r is) (ap is_some is) in
    omega (arith, c, p.all_live)

pub some_held : (s : Slab Resource) (h : List PoolEntry) (made minted held live r f : ℕ) → IsPool s h made minted held live → resource_of f h ≡ Some r → 0 < held
some_held s h made minted held live r f p is =
    let here = held_if h r (live_held h r f (numbered s h p.kept) is) in
    let c = count_some (λ q. is_held q h) (resources_made h) r (p.kept.resources f r is) here in
    omega (arith, c, p.all_held)

-- a resource with a live reference has a key
pub key_there : (s : Slab Resource) (h : List PoolEntry) (r f : ℕ) → IsKept s h → resource_of f h ≡ Some r → KeyOf s r
key_there s h r f kept is = kept.found r (live_held h r f (numbered s h kept) is)

-- its count is small
pub count_few : (s : Slab Resource) (h : List PoolEntry) (k : ℕ) (x : Resource) → IsKept s h → get s k ≡ Some x → x.count ≤ length h
count_few s h k x kept at =
    let w = count_within (λ f. is_live x.number f h) (references_made h) in
    let l = count_by-le-length mints h in
    omega (arith, w, l, kept.counts k x at)

pub make_next : (s : Slab Resource) (h : List PoolEntry) (made minted held live : ℕ) (cause : By) → IsPool s h made minted held live → is_legal_next h (record { by = cause; op = op.Make made minted }) ≡ true
make_next s h made minted held live cause p = and_from (made == resources_made h) (minted == references_made h) (eq-eqb made (resources_made h) p.all_made) (eq-eqb minted (references_made h) p.all_minted)

pub clone_next : (s : Slab Resource) (h : List PoolEntry) (made minted held live r f : ℕ) (cause : By) → IsPool s h made minted held live → resource_of f h ≡ Some r → is_legal_next h (record { by = cause; op = op.Clone r minted }) ≡ true
clone_next s h made minted held live r f cause p live_ = and_from (is_held r h) (minted == references_made h) (held_if h r (live_held h r f (numbered s h p.kept) live_)) (eq-eqb minted (references_made h) p.all_minted)

none_some : (o : Option Resource) (y : Resource) → o ≡ None → o ≡ Some y → ⊥
none_some o y a b = cc

pub after_make : (s t : Slab Resource) (h new : List PoolEntry) (made minted held live key : ℕ) (cause : By) → IsPool s h made minted held live → get s key ≡ None → Updates s t key (Some (record { number = made; count = 1 })) → new ≡ h ++ record { by = cause; op = op.Make made minted } ∷ [] → IsPool t new (made + 1) (minted + 1) (held + 1) (live + 1)
after_make s t h new made minted held live key cause p vacant updates more =
    let e : PoolEntry = record { by = cause; op = op.Make made minted } in
    let after : List PoolEntry = h ++ e ∷ [] in
    let n = numbered s h p.kept in
    let m : Mints h after made minted = mints_of_make h cause made minted p.all_minted in
    let more_made : resources_made after ≡ resources_made h + 1 = makes_more h e in
    let none : references_of made h ≡ 0 = none_held h made n (omega (arith, p.all_made)) in
    let moves : Moves s h after key made (Some (record { number = made; count = 1 })) = record {
      others = λ q apart. mint_keeps h after made minted q m apart;
      numbered = numbered_mint h after made minted n m (omega (arith, more_made)) (omega (arith, more_made, p.all_made));
      legal = legal_more h e p.kept.legal (make_next s h made minted held live cause p);
      was = λ y at. absurd (none_some (get s key) y vacant at);
      only = λ j y at same. absurd (let some = p.kept.some j y at in let count = p.kept.counts j y at in let zero_ = ap (λ (q : ℕ). references_of q h) same in omega (arith, some, count, zero_, none));
      fits = (refl, (let c = mint_counts h after made minted m in omega (arith, c, none)), omega arith);
    } in
    let P : List PoolEntry → Type 0 = λ l. IsPool t l (made + 1) (minted + 1) (held + 1) (live + 1) in
    subst P (sym more) (record {
      kept = moves_keep s t h after key made (Some (record { number = made; count = 1 })) p.kept moves updates;
      all_made = omega (arith, more_made, p.all_made);
      all_minted = let x = m.more in omega (arith, x, p.all_minted);
      all_held = let x = held_make h after made minted n m p.all_made more_made in omega (arith, x, p.all_held);
      all_live = let x = mint_live h after made minted m in omega (arith, x, p.all_live);
    })

pub after_clone : (s t : Slab Resource) (h new : List PoolEntry) (made minted held live r f key : ℕ) (cause : By) → IsPool s h made minted held live → resource_of f h ≡ Some r → AddsOne s t r key → new ≡ h ++ record { by = cause; op = op.Clone r minted } ∷ [] → IsPool t new made (minted + 1) held (live + 1)
after_clone s t h new made minted held live r f key cause p live_ adds more =
    let e : PoolEntry = record { by = cause; op = op.Clone r minted } in
    let after : List PoolEntry = h ++ e ∷ [] in
    let n = numbered s h p.kept in
    let m : Mints h after r minted = mints_of_clone h cause r minted p.all_minted in
    let same_made : resources_made after ≡ resources_made h = (let x = makes_more h e in omega (arith, x)) in
    let some : 0 < references_of r h = live_held h r f n live_ in
    let counts : references_of r after ≡ references_of r h + 1 = mint_counts h after r minted m in
    let slot : Option Resource = Some (record adds.was { count = adds.was.count + 1 }) in
    let was_count : adds.was.count ≡ references_of r h = p.kept.counts key adds.was adds.there ∙ ap (λ (q : ℕ). references_of q h) adds.same in
    let made_one : r < resources_made h = n.resources f r live_ in
    let moves : Moves s h after key r slot = record {
      others = λ q apart. mint_keeps h after r minted q m apart;
      numbered = numbered_mint h after r minted n m (omega (arith, same_made)) (omega (arith, same_made, made_one));
      legal = legal_more h e p.kept.legal (clone_next s h made minted held live r f cause p live_);
      was = λ y at. (let same : adds.was ≡ y = cc in ap (λ (x : Resource). x.number) (sym same) ∙ adds.same);
      only = λ j y at same. p.kept.once j key y adds.was at adds.there (same ∙ sym adds.same);
      fits = (adds.same, omega (arith, counts, was_count), omega arith);
    } in
    let P : List PoolEntry → Type 0 = λ l. IsPool t l made (minted + 1) held (live + 1) in
    let held_then : is_held r after ≡ is_held r h = held_if after r (omega (arith, counts)) ∙ sym (held_if h r some) in
    subst P (sym more) (record {
      kept = moves_keep s t h after key r slot p.kept moves adds.updates;
      all_made = omega (arith, same_made, p.all_made);
      all_minted = let x = m.more in omega (arith, x, p.all_minted);
      all_held = let x = held_same h after r (λ q apart. mint_keeps h after r minted q m apart) same_made held_then in omega (arith, x, p.all_held);
      all_live = let x = mint_live h after r minted m in omega (arith, x, p.all_live);
    })

last_true : (n k : ℕ) → true ≡ (n == 1) → k + 1 ≡ n → k ≡ 0
last_true n k is more = let e = eqb-true n 1 (sym is) in omega (arith, e, more)

last_false : (n k : ℕ) → false ≡ (n == 1) → k + 1 ≡ n → 0 < k
last_false n k is more = elim (cases_eq k 0) [ inl none ↦ absurd (false≢true (is ∙ eq-eqb n 1 (omega (arith, none, more)))) | inr some ↦ omega arith ]

-- the flag of an end says that no reference to the resource is left
pub last_fits : (last : Bool) (n : ℕ) (r : ℕ) (h : List PoolEntry) → last ≡ (n == 1) → references_of r h + 1 ≡ n → cond last (not (is_held r h)) (is_held r h) ≡ true
last_fits true n r h is more = ap not (not_held h r (last_true n (references_of r h) is more))
last_fits false n r h is more = held_if h r (last_false n (references_of r h) is more)

pub end_next : (s t : Slab Resource) (h : List PoolEntry) (made minted held live r f key : ℕ) (last : Bool) (cause : By) → IsPool s h made minted held live → resource_of f h ≡ Some r → DropsOne s t r key last → is_legal_next h (record { by = cause; op = op.End r f last }) ≡ true
end_next s t h made minted held live r f key last cause p live_ drops =
    let e : PoolEntry = record { by = cause; op = op.End r f last } in
    let after : List PoolEntry = h ++ e ∷ [] in
    let m : Ends h after r f = ends_of_end h cause r f last (numbered s h p.kept) live_ in
    let was_count : drops.was.count ≡ references_of r h = p.kept.counts key drops.was drops.there ∙ ap (λ (q : ℕ). references_of q h) drops.same in
    let left = end_counts h after r f m in
    and_from (is_live r f h) (cond last (not (is_held r after)) (is_held r after)) (ap (λ (o : Option ℕ). is_number o r) live_ ∙ same_eqb r) (last_fits last drops.was.count r after drops.is_last (left ∙ sym was_count))

left_fits : (last : Bool) (was : Resource) (r : ℕ) (h : List PoolEntry) → was.number ≡ r → last ≡ (was.count == 1) → references_of r h + 1 ≡ was.count → FitsSlot (resource_left was last) r h
left_fits true was r h same is more = last_true was.count (references_of r h) is more
left_fits false was r h same is more = (same, omega (arith, more), (let some = last_false was.count (references_of r h) is more in omega (arith, some, more)))

held_after : (last : Bool) (h after : List PoolEntry) (r held n : ℕ) → held ≡ held_in h → ((s : ℕ) → s ≢ r → references_of s after ≡ references_of s h) → resources_made after ≡ resources_made h → r < resources_made h → is_held r h ≡ true → last ≡ (n == 1) → references_of r after + 1 ≡ n → less_if last held ≡ held_in after
held_after true h after r held n is others same within was flag more =
    let less = held_less h after r others same within was (not_held after r (last_true n (references_of r after) flag more)) in omega (arith, less, is)
held_after false h after r held n is others same within was flag more =
    is ∙ sym (held_same h after r others same (held_if after r (last_false n (references_of r after) flag more) ∙ sym was))

pub after_end : (s t : Slab Resource) (h new : List PoolEntry) (made minted held live r f key : ℕ) (last : Bool) (cause : By) → IsPool s h made minted held live → resource_of f h ≡ Some r → DropsOne s t r key last → new ≡ h ++ record { by = cause; op = op.End r f last } ∷ [] → IsPool t new made minted (less_if last held) (live - 1)
after_end s t h new made minted held live r f key last cause p live_ drops more =
    let e : PoolEntry = record { by = cause; op = op.End r f last } in
    let after : List PoolEntry = h ++ e ∷ [] in
    let n = numbered s h p.kept in
    let m : Ends h after r f = ends_of_end h cause r f last n live_ in
    let same_made : resources_made after ≡ resources_made h = (let x = makes_more h e in omega (arith, x)) in
    let was_count : drops.was.count ≡ references_of r h = p.kept.counts key drops.was drops.there ∙ ap (λ (q : ℕ). references_of q h) drops.same in
    let left : references_of r after + 1 ≡ drops.was.count = end_counts h after r f m ∙ sym was_count in
    let others : (q : ℕ) → q ≢ r → references_of q after ≡ references_of q h = λ q apart. end_keeps h after r f q m apart in
    let moves : Moves s h after key r (resource_left drops.was last) = record {
      others = others;
      numbered = numbered_end h after r f n m same_made;
      legal = legal_more h e p.kept.legal (end_next s t h made minted held live r f key last cause p live_ drops);
      was = λ y at. (let same : drops.was ≡ y = cc in ap (λ (x : Resource). x.number) (sym same) ∙ drops.same);
      only = λ j y at same. p.kept.once j key y drops.was at drops.there (same ∙ sym drops.same);
      fits = left_fits last drops.was r after drops.same drops.is_last left;
    } in
    let P : List PoolEntry → Type 0 = λ l. IsPool t l made minted (less_if last held) (live - 1) in
    subst P (sym more) (record {
      kept = moves_keep s t h after key r (resource_left drops.was last) p.kept moves drops.updates;
      all_made = omega (arith, same_made, p.all_made);
      all_minted = let x = m.same in omega (arith, x, p.all_minted);
      all_held = held_after last h after r held drops.was.count p.all_held others same_made (n.resources f r live_) (held_if h r (live_held h r f n live_)) drops.is_last left;
      all_live = let x = end_live h after r f m in omega (arith, x, p.all_live);
    })

-- the references of a pool stay live
pub adds_next : (h new : List PoolEntry) (e : PoolEntry) → is_legal_pool h ≡ true → is_legal_next h e ≡ true → new ≡ h ++ e ∷ [] → Adds h new e
adds_next h new e legal next more = record {
  longer = more;
  next = next;
  legal = let P : List PoolEntry → Type 0 = λ l. is_legal_pool l ≡ true in subst P (sym more) (legal_more h e legal next);
}

pub mint_keeps_all : (h new : List PoolEntry) (r f : ℕ) → AreNumbered h → Mints h new r f → KeepsAll (IsLive h) (IsLive new)
mint_keeps_all h new r f n m = record { stay = λ q live. minted_else h new r f q.number m (λ e. (let lt = n.references q.number q.resource live in omega (arith, lt, e, m.next))) ∙ live }

pub end_keeps_others : (h new : List PoolEntry) (r f : ℕ) → Ends h new r f → KeepsOthers f (IsLive h) (IsLive new)
end_keeps_others h new r f m = record { stay = λ q apart live. ended_else h new r f q.number m apart ∙ live }
