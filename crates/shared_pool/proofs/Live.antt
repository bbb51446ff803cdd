-- A live claim at the lock of a pool is a live reference.
use Rattle.std.proofs.Common.{ℕ, ◌≡◌, ◌+◌, ◌==◌, Bool, true, false, cond, List, [], ◌∷◌, ◌++◌, Option, Some, None, refl, ap, sym, subst, ◌∙◌, append-nil, append_assoc, arith}
use Rattle.std.proofs.lemmas.Bool.{and_parts, and_from, eqb-true}
use Rattle.std.proofs.lemmas.List.Sums.{fold_push, sum_by_push}
use Rattle.wc_base.specs.Views.{Log}
use Rattle.wc_base.specs.declared.seat.Passage.TheVariants.{Made, Look}
use Rattle.wc_pool.specs.declared.entry.PoolEntry.{PoolEntry}
use Rattle.wc_pool.specs.declared.entry.PoolOp.TheVariants as op
use Rattle.wc_pool.specs.declared.reference.MediaRef.{MediaRef}
use Rattle.wc_pool.specs.Bag.{resource_of, resource_after, mints, references_made, is_legal_next, is_legal_from, is_legal_pool}
use Rattle.wc_pool.specs.declared.entry.PoolOp.{PoolOp}
use Rattle.wc_pool.specs.Laws.{made_reference, MadeAreNew}
use Rattle.std.specs.Prelude.{if◌then◌else◌}
use Rattle.seat_lock.specs.Logs.{entries_of}
use Rattle.seat_lock.specs.Claims.{is_claim, is_unspent, mint_count, IsLive}
use Rattle.seat_lock.specs.ClaimLaws.{unclaimed, entries_both, unspent_rest}
use Rattle.seat_lock.specs.Own.{entries_of-append}
use Rattle.shared_pool.specs.Refs.{ends, KnowsRef}

legal_rest : (before a b : List PoolEntry) → is_legal_from before (a ++ b) ≡ true → is_legal_from (before ++ a) b ≡ true
legal_rest before [] b h = subst (λ (l : List PoolEntry). is_legal_from l b ≡ true) (sym (append-nil before)) h
legal_rest before (e ∷ es) b h = subst (λ (l : List PoolEntry). is_legal_from l b ≡ true) (append_assoc before (e ∷ []) es) (legal_rest (before ++ e ∷ []) es b (and_parts (is_legal_next before e) (is_legal_from (before ++ e ∷ []) (es ++ b)) h).1)

legal_front : (before a b : List PoolEntry) → is_legal_from before (a ++ b) ≡ true → is_legal_from before a ≡ true
legal_front before [] b h = refl
legal_front before (e ∷ es) b h =
    let both = and_parts (is_legal_next before e) (is_legal_from (before ++ e ∷ []) (es ++ b)) h in
    and_from (is_legal_next before e) (is_legal_from (before ++ e ∷ []) es) both.0 (legal_front (before ++ e ∷ []) es b both.1)

-- one more entry: what it makes of a reference, of the count of references, and of a legal history
pub resource_more : (k : ℕ) (h : List PoolEntry) (e : PoolEntry) → resource_of k (h ++ e ∷ []) ≡ resource_after k (resource_of k h) e
resource_more k h e = fold_push (resource_after k) None h e

minted_more : (h : List PoolEntry) (e : PoolEntry) → references_made (h ++ e ∷ []) ≡ references_made h + cond (mints e) 1 0
minted_more h e = sum_by_push (λ x. cond (mints x) 1 0) h e

legal_more : (before h : List PoolEntry) (e : PoolEntry) → is_legal_from before h ≡ true → is_legal_next (before ++ h) e ≡ true → is_legal_from before (h ++ e ∷ []) ≡ true
legal_more before [] e legal next = and_from (is_legal_next before e) true (subst (λ (l : List PoolEntry). is_legal_next l e ≡ true) (append-nil before) next) refl
legal_more before (x ∷ rest) e legal next =
    let parts = and_parts (is_legal_next before x) (is_legal_from (before ++ x ∷ []) rest) legal in
    let later = subst (λ (l : List PoolEntry). is_legal_next l e ≡ true) (sym (append_assoc before (x ∷ []) rest)) next in
    and_from (is_legal_next before x) (is_legal_from (before ++ x ∷ []) (rest ++ e ∷ [])) parts.0 (legal_more (before ++ x ∷ []) rest e parts.1 later)

-- an entry that does not end the reference leaves it live
entry_keeps : MadeAreNew → (k r : ℕ) (h : List PoolEntry) (e : PoolEntry) → resource_of k h ≡ Some r → is_legal_pool h ≡ true → is_legal_next h e ≡ true → is_claim (ends h e) k ≡ false → resource_of k (h ++ e ∷ []) ≡ Some r
entry_keeps apart k r h e is legal next free = resource_more k h e ∙ (ap (λ (o : Option ℕ). resource_after k o e) is ∙ by e.op refl)
  where
    fresh : (q f : ℕ) (b : Bool) → (f == k) ≡ b → ((f ≡ k) → ⊥) → (if b then Some q else Some r) ≡ Some r
    fresh q f true is new = absurd (new (eqb-true f k is))
    fresh q f false is new = refl

    by : (o : PoolOp) → e.op ≡ o → resource_after k (Some r) (record { by = e.by; op = o }) ≡ Some r
    by (op.Make q f) same = fresh q f (f == k) refl (λ at. (let none = apart h e k legal next (ap made_reference same ∙ ap Some at) in let bad = sym is ∙ none in absurd cc))
    by (op.Clone q f) same = fresh q f (f == k) refl (λ at. (let none = apart h e k legal next (ap made_reference same ∙ ap Some at) in let bad = sym is ∙ none in absurd cc))
    by (op.End q f last) same = ends_other (f == k) ((λ i. is_claim (ends h (record { by = e.by; op = sym same i })) k) ∙ free)
      where
        ends_other : (b : Bool) → b ≡ false → (if b then None else Some r) ≡ Some r
        ends_other true h = absurd cc
        ends_other false h = refl

live_on : MadeAreNew → (k r : ℕ) (acc rest : Log PoolEntry) → resource_of k (entries_of acc) ≡ Some r → is_unspent mints ends k acc rest ≡ true → is_legal_pool (entries_of acc) ≡ true → is_legal_from (entries_of acc) (entries_of rest) ≡ true → resource_of k (entries_of (acc ++ rest)) ≡ Some r
live_on apart k r acc [] is u legal next = subst (λ (l : Log PoolEntry). resource_of k (entries_of l) ≡ Some r) (sym (append-nil acc)) is
live_on apart k r acc ((n, Look) ∷ ps) is u legal next =
    let same : entries_of (acc ++ (n, Look) ∷ []) ≡ entries_of acc = entries_of-append acc n Look ∙ append-nil (entries_of acc) in
    subst (λ (l : Log PoolEntry). resource_of k (entries_of l) ≡ Some r) (append_assoc acc ((n, Look) ∷ []) ps)
    (live_on apart k r (acc ++ (n, Look) ∷ []) ps (subst (λ (h : List PoolEntry). resource_of k h ≡ Some r) (sym same) is) u (subst (λ (h : List PoolEntry). is_legal_pool h ≡ true) (sym same) legal) (subst (λ (h : List PoolEntry). is_legal_from h (entries_of ps) ≡ true) (sym same) next))
live_on apart k r acc ((n, Made e) ∷ ps) is u legal next =
    let h = entries_of acc in
    let grown : entries_of (acc ++ (n, Made e) ∷ []) ≡ h ++ e ∷ [] = entries_of-append acc n (Made e) in
    let both = and_parts (is_legal_next h e) (is_legal_from (h ++ e ∷ []) (entries_of ps)) next in
    let free = unclaimed (is_claim (ends h e) k) (is_unspent mints ends k (acc ++ (n, Made e) ∷ []) ps) u in
    subst (λ (l : Log PoolEntry). resource_of k (entries_of l) ≡ Some r) (append_assoc acc ((n, Made e) ∷ []) ps)
    (live_on apart k r (acc ++ (n, Made e) ∷ []) ps (subst (λ (z : List PoolEntry). resource_of k z ≡ Some r) (sym grown) (entry_keeps apart k r h e is legal both.0 free.0)) free.1
    (subst (λ (z : List PoolEntry). is_legal_pool z ≡ true) (sym grown) (legal_more [] h e legal both.0)) (subst (λ (z : List PoolEntry). is_legal_from z (entries_of ps) ≡ true) (sym grown) both.1))

-- A reference that was made, and whose claim is live, is live.
pub live_ref : MadeAreNew → (r : MediaRef) (log : Log PoolEntry) → KnowsRef r log → is_legal_pool (entries_of log) ≡ true → IsLive mints ends r.number log → resource_of r.number (entries_of log) ≡ Some r.resource
live_ref apart r log knows legal live =
    let whole : entries_of log ≡ entries_of knows.before ++ entries_of knows.rest = ap entries_of knows.is ∙ entries_both knows.before knows.rest in
    let legal' = subst (λ (z : List PoolEntry). is_legal_pool z ≡ true) whole legal in
    subst (λ (l : Log PoolEntry). resource_of r.number (entries_of l) ≡ Some r.resource) (sym knows.is)
    (live_on apart r.number r.resource knows.before knows.rest knows.made
    (unspent_rest mints ends r.number [] knows.before knows.rest (subst (λ (l : Log PoolEntry). is_unspent mints ends r.number [] l ≡ true) knows.is live.unspent))
    (legal_front [] (entries_of knows.before) (entries_of knows.rest) legal')
    (legal_rest [] (entries_of knows.before) (entries_of knows.rest) legal'))

count_from : (h : List PoolEntry) (log : Log PoolEntry) → references_made h + mint_count mints ends log ≡ references_made (h ++ entries_of log)
count_from h [] = (let z : references_made h + 0 ≡ references_made h = omega arith in z) ∙ ap references_made (sym (append-nil h))
count_from h ((n, Made e) ∷ ps) =
    let one = minted_more h e in
    let rest = count_from (h ++ e ∷ []) ps in
    (let z : references_made h + (cond (mints e) 1 0 + mint_count mints ends ps) ≡ references_made (h ++ e ∷ []) + mint_count mints ends ps = omega (arith, one) in z)
    ∙ (rest ∙ ap references_made (append_assoc h (e ∷ []) (entries_of ps)))
count_from h ((n, Look) ∷ ps) = (let z : references_made h + (0 + mint_count mints ends ps) ≡ references_made h + mint_count mints ends ps = omega arith in z) ∙ count_from h ps

-- the claims of a log are numbered as its references are
pub count_is : (log : Log PoolEntry) → mint_count mints ends log ≡ references_made (entries_of log)
count_is log = (let z : mint_count mints ends log ≡ references_made [] + mint_count mints ends log = omega arith in z) ∙ count_from [] log
