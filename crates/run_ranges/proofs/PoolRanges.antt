-- What the history of a pool that callers' steps and codecs' entries account for holds is within its types.
use Rattle.std.proofs.Common.{ℕ, zero, suc, ◌≡◌, ◌<◌, ◌≤◌, ◌+◌, ◌^◌, inl, inr, not, Bool, true, false, cond, List, [], ◌∷◌, ◌++◌, length, length-append, Some, refl, ap, sym, subst, ◌∙◌, arith, append_assoc, append-nil, eq-eqb}
use Rattle.std.specs.Prelude.{slice_get, map, ◌==◌, ◌&&◌}
use Rattle.std.proofs.lemmas.Bool.{and_parts, and_from, cases_lt, cond_both, eqb-true}
use Rattle.std.proofs.lemmas.List.Sums.{count_by-le-length}
use Rattle.run_ranges.proofs.Cases.{by_option, by_test}
use Rattle.wc_base.specs.declared.who.By.{By}
use Rattle.wc_pool.specs.{declared.entry.PoolEntry.PoolEntry, declared.entry.PoolOp.PoolOp, Laws.LiveAreNumbered}
use Rattle.wc_pool.specs.Bag.{makes, mints, resource_of, is_number, is_live, resources_made, references_made, references_of, is_held, held_in, count_below, is_legal_next, is_legal_from, is_legal_pool}
use Rattle.script_types.specs.declared.steps.{MediaStep.MediaStep, Step.Step}
use Rattle.media_variables.specs.Variables.{Brought}
use Rattle.media_accounts.specs.Accounts.{is_by_step, is_by_entry, ops_where, without_last, MediaAreIn, came_in}
use Rattle.media_accounts.specs.OwnLaws.{own_past}
use Rattle.report_lines.specs.Fits.{FitsPoolOp}

-- ---- counts

count_small : (p : ℕ → Bool) (n : ℕ) → count_below p n ≤ n
count_small p zero = omega arith
count_small p (suc n) = omega (arith, count_small p n, cond_both (p n) 1 0 (λ k. k ≤ 1) (λ is. omega arith) (λ is. omega arith))

-- a number that passes a test
count_exists : (p : ℕ → Bool) (n : ℕ) → (count_below p n ≡ 0 → ⊥) → (k : ℕ) × (p k ≡ true)
count_exists p zero some = absurd (some refl)
count_exists p (suc n) some =
    by_test (λ b. (count_below p n + cond b 1 0 ≡ 0 → ⊥) → p n ≡ b → (k : ℕ) × (p k ≡ true)) (p n) (λ is any same. (n, same)) (λ is any same. count_exists p n (λ none. any (omega (arith, none)))) some refl

-- ---- what an entry does

live_is : (r f : ℕ) (h : List PoolEntry) → is_live r f h ≡ true → resource_of f h ≡ Some r
live_is r f h e = by_option (λ o. is_number o r ≡ true → o ≡ Some r) (resource_of f h) (λ none. absurd cc) (λ k is same. ap (λ (n : ℕ). Some n) (eqb-true k r same)) e

-- a resource that is held has a number below the next one
held_small : LiveAreNumbered → (r : ℕ) (h : List PoolEntry) → is_legal_pool h ≡ true → is_held r h ≡ true → r < resources_made h
held_small numbered r h legal held =
    let some : references_of r h ≡ 0 → ⊥ = λ none. (let bad : false ≡ true = sym (ap not (eq-eqb (references_of r h) 0 none)) ∙ held in cc) in
    let one = count_exists (λ f. is_live r f h) (references_made h) some in
    (numbered h one.0 r legal (live_is r one.0 h one.1)).1

op_fits : LiveAreNumbered → (h : List PoolEntry) (cause : By) (o : PoolOp) → length h < 2 ^ 64 → is_legal_pool h ≡ true → is_legal_next h (record { by = cause; op = o }) ≡ true → FitsPoolOp o
op_fits numbered h cause (PoolOp.Make r f) few legal next =
    let parts = and_parts (r == resources_made h) (f == references_made h) next in
    (omega (arith, few, count_by-le-length makes h, eqb-true r (resources_made h) parts.0), omega (arith, few, count_by-le-length mints h, eqb-true f (references_made h) parts.1))
op_fits numbered h cause (PoolOp.Clone r f) few legal next =
    let parts = and_parts (is_held r h) (f == references_made h) next in
    (omega (arith, few, count_by-le-length makes h, held_small numbered r h legal parts.0), omega (arith, few, count_by-le-length mints h, eqb-true f (references_made h) parts.1))
op_fits numbered h cause (PoolOp.End r f last) few legal next =
    let parts = and_parts (is_live r f h) _ next in
    let below = numbered h f r legal (live_is r f h parts.0) in
    (omega (arith, few, count_by-le-length makes h, below.1), omega (arith, few, count_by-le-length mints h, below.0))

-- ---- a legal history

legal_more : (before l : List PoolEntry) (e : PoolEntry) → is_legal_from before l ≡ true → is_legal_next (before ++ l) e ≡ true → is_legal_from before (l ++ e ∷ []) ≡ true
legal_more before [] e legal next = and_from (is_legal_next before e) true (ap (λ (h : List PoolEntry). is_legal_next h e) (sym (append-nil before)) ∙ next) refl
legal_more before (d ∷ ds) e legal next =
    let parts = and_parts (is_legal_next before d) (is_legal_from (before ++ d ∷ []) ds) legal in
    rw (parts.0, legal_more (before ++ d ∷ []) ds e parts.1 (rw (append_assoc before (d ∷ []) ds) next)) refl

-- the numbers of a legal history's entries, where it has fewer than 2 ^ 64
pub ops_fit : LiveAreNumbered → (before rest : List PoolEntry) → length before + length rest < 2 ^ 64 → is_legal_pool before ≡ true → is_legal_from before rest ≡ true
    → (n : ℕ) (e : PoolEntry) → slice_get rest n ≡ Some e → FitsPoolOp e.op
ops_fit numbered before [] few legal more n e is = absurd cc
ops_fit numbered before (d ∷ ds) few legal more zero e is =
    let parts = and_parts (is_legal_next before d) (is_legal_from (before ++ d ∷ []) ds) more in
    let same : d ≡ e = cc in
    subst (λ (x : PoolEntry). FitsPoolOp x.op) same (op_fits numbered before d.by d.op (omega (arith, few)) legal parts.0)
ops_fit numbered before (d ∷ ds) few legal more (suc n) e is =
    let parts = and_parts (is_legal_next before d) (is_legal_from (before ++ d ∷ []) ds) more in
    ops_fit numbered (before ++ d ∷ []) ds (omega (arith, few, length-append before (d ∷ []))) (legal_more [] before d legal parts.0) parts.1 n e is

pub held_up_to : (pool : List PoolEntry) → held_in pool ≤ length pool
held_up_to pool = omega (arith, count_small (λ r. is_held r pool) (resources_made pool), count_by-le-length makes pool)

-- ---- whose entries they are

-- causes that pass a test and have an entry did something
ops_some : (test : By → Bool) (n : ℕ) (pool : List PoolEntry) (e : PoolEntry) → slice_get pool n ≡ Some e → test e.by ≡ true → ops_where test pool ≡ [] → ⊥
ops_some test n [] e is own none = absurd cc
ops_some test zero (d ∷ ds) e is own none = cond_both (test d.by) _ _ (λ l. l ≡ [] → ⊥) (λ its some. absurd cc) (λ its rest. absurd cc) none
ops_some test (suc n) (d ∷ ds) e is own none = cond_both (test d.by) _ _ (λ l. l ≡ [] → ⊥) (λ its some. absurd cc) (λ its rest. ops_some test n ds e is own rest) none

-- a caller's step that was made, or an entry of a codec that calls for something
abbrev pub IsMadeBy : (ℕ → ℕ → List PoolOp) → (ℕ → ℕ) → By → Type 0
IsMadeBy lends made (By.Caller who) = who.step < made who.caller
IsMadeBy lends made (By.Codec k place) = lends k place ≡ [] → ⊥

pub entry_made : (steps : ℕ → List Step) (brought : ℕ → ℕ → MediaStep → Brought) (lends : ℕ → ℕ → List PoolOp) (made : ℕ → ℕ) (pool : List PoolEntry) → MediaAreIn steps brought lends made pool → (n : ℕ) (e : PoolEntry) → slice_get pool n ≡ Some e → IsMadeBy lends made e.by
entry_made steps brought lends made pool h n e is = of (e.by) refl
  where
    same : (a b : ℕ) → (a == a) && (b == b) ≡ true
    same a b = and_from (a == a) (b == b) (eq-eqb a a refl) (eq-eqb b b refl)

    of : (b : By) → e.by ≡ b → IsMadeBy lends made b
    of (By.Caller who) its =
        let own : is_by_step who.caller who.step e.by ≡ true = ap (is_by_step who.caller who.step) its ∙ same who.caller who.step in
        elim (cases_lt who.step (made who.caller)) [
          | inl lt ↦ lt
          | inr le ↦ absurd (ops_some (is_by_step who.caller who.step) n pool e is own (own_past who.caller pool (came_in steps brought pool who.caller) (made who.caller) who.step (h.own who.caller) le))
        ]
    of (By.Codec k place) its =
        let own : is_by_entry k place e.by ≡ true = ap (is_by_entry k place) its ∙ same k place in
        λ none. ops_some (is_by_entry k place) n pool e is own (elim (ops_where (is_by_entry k place) pool) as (λ os. map without_last os ≡ [] → os ≡ []) [ [] ↦ λ same. refl | o ∷ os ↦ λ same. absurd cc ] (h.codecs k place ∙ none))
