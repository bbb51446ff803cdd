-- A pool's history with more entries.
use Rattle.std.proofs.Common.{ℕ, zero, suc, ◌≡◌, ◌≢◌, ◌<◌, ◌+◌, ◌⊎◌, inl, inr, Bool, eqb, true, false, cond, List, [], ◌∷◌, ◌++◌, length, Option, Some, refl, ap, sym, subst, ◌∙◌, arith, append_assoc, append-nil}
use Rattle.std.specs.Prelude.{map, slice_get, ◌&&◌}
use Rattle.std.proofs.lemmas.Bool.{and_parts, and_from, cases_eq, eqb-true, eq-eqb, false_from_ne_true}
use Rattle.wc_base.specs.declared.who.By.{By}
use Rattle.wc_pool.specs.{declared.entry.PoolEntry.PoolEntry, declared.entry.PoolOp.PoolOp, Bag.is_legal_next, Bag.is_legal_from}
use Rattle.media_variables.specs.Variables.{Came}
use Rattle.media_accounts.specs.Accounts.{StepOp, ops_where, done_by, step_op, own_by, own_in, own_of}

-- ---- lists

-- an element of two lists is one of the first or of the second
pub get_either : {X : Type 0} (a b : List X) (n : ℕ) (x : X) → slice_get (a ++ b) n ≡ Some x → ((slice_get a n ≡ Some x) × (n < length a)) ⊎ ((j : ℕ) × (n ≡ length a + j) × (slice_get b j ≡ Some x))
get_either [] b n x is = inr (n, omega arith, is)
get_either (y ∷ ys) b zero x is = inl (is, omega arith)
get_either (y ∷ ys) b (suc n) x is = elim (get_either ys b n x is) [
  | inl first ↦ inl (first.0, let lt = first.1 in omega (arith, lt))
  | inr second ↦ inr (second.0, let at = second.1 in omega (arith, at), second.2)
]

-- ---- places

-- what holds at one number, and at all others, holds at each
pub by_one : (P : ℕ → Type 0) (c : ℕ) → P c → ((d : ℕ) → d ≢ c → P d) → (d : ℕ) → P d
by_one P c here others d = elim (cases_eq d c) [
  | inl same ↦ subst P (sym same) here
  | inr other ↦ others d other
]

pub by_place : (P : ℕ → ℕ → Type 0) (c n : ℕ) → P c n → ((d i : ℕ) → ((d ≡ c) → (i ≡ n) → ⊥) → P d i) → (d i : ℕ) → P d i
by_place P c n here others d i = by_one (λ e. P e i) c (by_one (P c) n here (λ j apart. others c j (λ _ at. apart at)) i) (λ e apart. others e i (λ same _. apart same)) d

pub own_place : (c j : ℕ) → (eqb c c && eqb j j) ≡ true
own_place c j = and_from (eqb c c) (eqb j j) (eq-eqb c c refl) (eq-eqb j j refl)

pub same_place : (c d j i : ℕ) → (eqb c d && eqb j i) ≡ true → (c ≡ d) × (j ≡ i)
same_place c d j i h = let parts = and_parts (eqb c d) (eqb j i) h in (eqb-true c d parts.0, eqb-true j i parts.1)

-- an entry of one place is no other's
pub other_place : (c d j i : ℕ) → ((d ≡ c) → (i ≡ j) → ⊥) → (eqb c d && eqb j i) ≡ false
other_place c d j i apart = false_from_ne_true (eqb c d && eqb j i) (λ h. (let same = same_place c d j i h in apart (sym same.0) (sym same.1)))

-- ---- the entries of a step

cond_none : {X : Type 0} (b : Bool) (x : X) (l : List X) → cond b (x ∷ l) l ≡ [] → (b ≡ false) × (l ≡ [])
cond_none true x l none = absurd cc
cond_none false x l none = (refl, none)

cond_more : {X : Type 0} (b : Bool) (x : X) (l k : List X) → cond b (x ∷ l ++ k) (l ++ k) ≡ cond b (x ∷ l) l ++ k
cond_more true x l k = refl
cond_more false x l k = refl

-- what was done by causes that pass a test, with more entries
pub ops_more : (test : By → Bool) (pool new : List PoolEntry) → ops_where test (pool ++ new) ≡ ops_where test pool ++ ops_where test new
ops_more test [] new = refl
ops_more test (d ∷ ds) new = ap (λ (l : List PoolOp). cond (test d.by) (d.op ∷ l) l) (ops_more test ds new) ∙ cond_more (test d.by) d.op (ops_where test ds) (ops_where test new)

-- ---- entries of one cause

-- each of these entries is of this cause
abbrev pub AllBy : By → List PoolEntry → Type 0
AllBy cause [] = Unit {0}
AllBy cause (e ∷ es) = (e.by ≡ cause) × AllBy cause es

pub its_cause : (new : List PoolEntry) (cause : By) (n : ℕ) (e : PoolEntry) → AllBy cause new → slice_get new n ≡ Some e → e.by ≡ cause
its_cause [] cause n e all is = absurd cc
its_cause (d ∷ ds) cause zero e all is = (let same : e ≡ d = cc in ap (λ (x : PoolEntry). x.by) same ∙ all.0)
its_cause (d ∷ ds) cause (suc n) e all is = its_cause ds cause n e all.1 is

ops_none : (test : By → Bool) (cause : By) (new : List PoolEntry) → AllBy cause new → test cause ≡ false → ops_where test new ≡ []
ops_none test cause [] all other = refl
ops_none test cause (e ∷ es) all other = ap (λ (b : Bool). cond b (e.op ∷ ops_where test es) (ops_where test es)) (ap test all.0 ∙ other) ∙ ops_none test cause es all.1 other

-- all that is done where each entry passes
pub ops_all : (test : By → Bool) (cause : By) (new : List PoolEntry) → AllBy cause new → test cause ≡ true → ops_where test new ≡ map (λ e. e.op) new
ops_all test cause [] all its = refl
ops_all test cause (e ∷ es) all its = ap (λ (b : Bool). cond b (e.op ∷ ops_where test es) (ops_where test es)) (ap test all.0 ∙ its) ∙ ap (λ (l : List PoolOp). e.op ∷ l) (ops_all test cause es all.1 its)

-- what others did stays
pub ops_kept : (test : By → Bool) (cause : By) (pool new : List PoolEntry) → AllBy cause new → test cause ≡ false → ops_where test (pool ++ new) ≡ ops_where test pool
ops_kept test cause pool new all other = ops_more test pool new ∙ (ap (λ (l : List PoolOp). ops_where test pool ++ l) (ops_none test cause new all other) ∙ append-nil (ops_where test pool))

-- ---- what the steps of one caller did

pub own_both : (c : ℕ) (pool new : List PoolEntry) → own_in c (pool ++ new) ≡ own_in c pool ++ own_in c new
own_both c [] new = refl
own_both c (e ∷ es) new = ap (λ (l : List StepOp). own_by c e.by e.op ++ l) (own_both c es new) ∙ sym (append_assoc (own_by c e.by e.op) (own_in c es) (own_in c new))

own_none : (c : ℕ) (cause : By) (new : List PoolEntry) → AllBy cause new → ((o : PoolOp) → own_by c cause o ≡ []) → own_in c new ≡ []
own_none c cause [] all other = refl
own_none c cause (e ∷ es) all other = ap (λ (l : List StepOp). l ++ own_in c es) (ap (λ (b : By). own_by c b e.op) all.0 ∙ other e.op) ∙ own_none c cause es all.1 other

-- entries of other causes change nothing
pub own_kept : (c : ℕ) (cause : By) (pool new : List PoolEntry) → AllBy cause new → ((o : PoolOp) → own_by c cause o ≡ []) → own_in c (pool ++ new) ≡ own_in c pool
own_kept c cause pool new all other = own_both c pool new ∙ (ap (λ (l : List StepOp). own_in c pool ++ l) (own_none c cause new all other) ∙ append-nil (own_in c pool))

-- the same of what steps call for, as far as each comes to the same
pub of_same : (f g : ℕ → Option Came) (n : ℕ) → ((i : ℕ) → i < n → f i ≡ g i) → own_of f n ≡ own_of g n
of_same f g zero same = refl
of_same f g (suc n) same =
    ap (λ (l : List StepOp). l ++ map (step_op n) (done_by (f n))) (of_same f g n (λ i lt. same i (omega (arith, lt))))
    ∙ ap (λ (y : Option Came). own_of g n ++ map (step_op n) (done_by y)) (same n (omega arith))

-- ---- what is legal

pub legal_from : (before l new : List PoolEntry) → is_legal_from before l ≡ true → is_legal_from (before ++ l) new ≡ true → is_legal_from before (l ++ new) ≡ true
legal_from before [] new legal rest = ap (λ (l : List PoolEntry). is_legal_from l new) (sym (append-nil before)) ∙ rest
legal_from before (d ∷ ds) new legal rest =
    let parts = and_parts (is_legal_next before d) (is_legal_from (before ++ d ∷ []) ds) legal in
    let more = legal_from (before ++ d ∷ []) ds new parts.1 (ap (λ (l : List PoolEntry). is_legal_from l new) (append_assoc before (d ∷ []) ds) ∙ rest) in
    ap (λ (b : Bool). b && is_legal_from (before ++ d ∷ []) (ds ++ new)) parts.0 ∙ more
