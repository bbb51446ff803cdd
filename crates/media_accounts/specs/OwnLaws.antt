-- What the list of all that a caller's steps did says of each of them.
use Rattle.std.proofs.Common.{ℕ, zero, suc, ◌≡◌, ◌≢◌, ◌<◌, ◌≤◌, ◌==◌, inl, inr, Bool, true, false, cond, if◌then◌else◌, List, [], ◌∷◌, ◌++◌, Option, refl, ap, sym, ◌∙◌, arith, append-nil, eq-eqb}
use Rattle.std.specs.Prelude.{map, ◌&&◌}
use Rattle.std.proofs.lemmas.Bool.{cases_eq, ne_eqb}
use Rattle.wc_base.specs.declared.who.By.{By}
use Rattle.wc_base.specs.declared.who.By.TheVariants as by
use Rattle.wc_pool.specs.declared.entry.PoolEntry.{PoolEntry}
use Rattle.wc_pool.specs.declared.entry.PoolOp.{PoolOp}
use Rattle.media_variables.specs.Variables.{Came}
use Rattle.media_accounts.specs.Accounts.{StepOp, is_by_step, ops_by, without_last, done_by, step_op, own_by, own_in, own_of}

-- what the step with this number did
abbrev pub ops_at : ℕ → List StepOp → List PoolOp
ops_at j [] = []
ops_at j (x ∷ xs) = if x.step == j then x.op ∷ ops_at j xs else ops_at j xs

cond_more : (b : Bool) (x : PoolOp) (l k : List PoolOp) → cond b (x ∷ l ++ k) (l ++ k) ≡ cond b (x ∷ l) l ++ k
cond_more true x l k = refl
cond_more false x l k = refl

at_both : (j : ℕ) (xs ys : List StepOp) → ops_at j (xs ++ ys) ≡ ops_at j xs ++ ops_at j ys
at_both j [] ys = refl
at_both j (x ∷ xs) ys = ap (λ (l : List PoolOp). cond (x.step == j) (x.op ∷ l) l) (at_both j xs ys) ∙ cond_more (x.step == j) x.op (ops_at j xs) (ops_at j ys)

-- ---- in a pool's history

at_caller : (j s : ℕ) (b : Bool) (o : PoolOp) (rest : List StepOp) → ops_at j ((if b then step_op s o ∷ [] else []) ++ rest) ≡ cond (b && (s == j)) (without_last o ∷ ops_at j rest) (ops_at j rest)
at_caller j s true o rest = refl
at_caller j s false o rest = refl

at_entry : (c j : ℕ) (cause : By) (o : PoolOp) (rest : List StepOp) → ops_at j (own_by c cause o ++ rest) ≡ cond (is_by_step c j cause) (without_last o ∷ ops_at j rest) (ops_at j rest)
at_entry c j (by.Caller who) o rest = at_caller j who.step (who.caller == c) o rest
at_entry c j (by.Codec k place) o rest = refl

map_cond : (b : Bool) (o : PoolOp) (l : List PoolOp) → cond b (without_last o ∷ map without_last l) (map without_last l) ≡ map without_last (cond b (o ∷ l) l)
map_cond true o l = refl
map_cond false o l = refl

-- of each step it has what the step did
pub own_at : (c j : ℕ) (pool : List PoolEntry) → ops_at j (own_in c pool) ≡ map without_last (ops_by c j pool)
own_at c j [] = refl
own_at c j (e ∷ es) =
    at_entry c j e.by e.op (own_in c es)
    ∙ (ap (λ (l : List PoolOp). cond (is_by_step c j e.by) (without_last e.op ∷ l) l) (own_at c j es)
    ∙ map_cond (is_by_step c j e.by) e.op (ops_by c j es))

-- ---- in what the steps call for

at_own : (n : ℕ) (os : List PoolOp) → ops_at n (map (step_op n) os) ≡ map without_last os
at_own n [] = refl
at_own n (o ∷ os) = ap (λ (b : Bool). cond b (without_last o ∷ ops_at n (map (step_op n) os)) (ops_at n (map (step_op n) os))) (eq-eqb n n refl) ∙ ap (λ (l : List PoolOp). without_last o ∷ l) (at_own n os)

at_other : (n j : ℕ) (os : List PoolOp) → n ≢ j → ops_at j (map (step_op n) os) ≡ []
at_other n j [] other = refl
at_other n j (o ∷ os) other = ap (λ (b : Bool). cond b (without_last o ∷ ops_at j (map (step_op n) os)) (ops_at j (map (step_op n) os))) (ne_eqb n j other) ∙ at_other n j os other

-- a step that was not made calls for nothing
pub of_past : (came : ℕ → Option Came) (n j : ℕ) → n ≤ j → ops_at j (own_of came n) ≡ []
of_past came zero j le = refl
of_past came (suc n) j le =
    at_both j (own_of came n) (map (step_op n) (done_by (came n)))
    ∙ (ap (λ (l : List PoolOp). l ++ ops_at j (map (step_op n) (done_by (came n)))) (of_past came n j (omega (arith, le)))
    ∙ at_other n j (done_by (came n)) (λ e. omega (arith, le, e)))

-- each that was made calls for what it does
pub of_made : (came : ℕ → Option Came) (n j : ℕ) → j < n → ops_at j (own_of came n) ≡ map without_last (done_by (came j))
of_made came zero j lt = absurd (omega (arith, lt))
of_made came (suc n) j lt = elim (cases_eq n j) [
  | inl same ↦
      at_both j (own_of came n) (map (step_op n) (done_by (came n)))
      ∙ (ap (λ (l : List PoolOp). l ++ ops_at j (map (step_op n) (done_by (came n)))) (of_past came n j (omega (arith, same)))
      ∙ (ap (λ (i : ℕ). ops_at i (map (step_op n) (done_by (came n)))) (sym same)
      ∙ (at_own n (done_by (came n)) ∙ ap (λ (i : ℕ). map without_last (done_by (came i))) same)))
  | inr other ↦
      at_both j (own_of came n) (map (step_op n) (done_by (came n)))
      ∙ (ap (λ (l : List PoolOp). ops_at j (own_of came n) ++ l) (at_other n j (done_by (came n)) other)
      ∙ (append-nil (ops_at j (own_of came n)) ∙ of_made came n j (omega (arith, lt, other))))
]

-- ---- both

none_mapped : (os : List PoolOp) → map without_last os ≡ [] → os ≡ []
none_mapped [] none = refl
none_mapped (o ∷ os) none = absurd cc

-- where a caller's entries are what its steps call for, each step that was made has the one entry that it calls for, or none
pub own_owed : (c : ℕ) (pool : List PoolEntry) (came : ℕ → Option Came) (n j : ℕ) → own_in c pool ≡ own_of came n → j < n → map without_last (ops_by c j pool) ≡ map without_last (done_by (came j))
own_owed c pool came n j own lt = sym (own_at c j pool) ∙ (ap (ops_at j) own ∙ of_made came n j lt)

-- and no other step has an entry
pub own_past : (c : ℕ) (pool : List PoolEntry) (came : ℕ → Option Came) (n j : ℕ) → own_in c pool ≡ own_of came n → n ≤ j → ops_by c j pool ≡ []
own_past c pool came n j own le = none_mapped (ops_by c j pool) (sym (own_at c j pool) ∙ (ap (ops_at j) own ∙ of_past came n j le))
