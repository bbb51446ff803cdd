-- One step more of a caller.
use Rattle.std.proofs.Common.{ℕ, zero, suc, ◌≡◌, ◌≢◌, ◌≤◌, ◌<◌, Bool, true, cond, if◌then◌else◌, List, [], ◌∷◌, ◌++◌, Option, Some, refl, ap, sym, subst, ◌∙◌, arith, eq-eqb}
use Rattle.std.specs.Prelude.{map, slice_get, option_and_then}
use Rattle.std.proofs.lemmas.Bool.{ne_eqb}
use Rattle.wc_base.specs.declared.who.{By.By, Who.Who}
use Rattle.wc_pool.specs.{declared.entry.PoolEntry.PoolEntry, declared.entry.PoolOp.PoolOp, Bag.is_legal_from}
use Rattle.script_types.specs.declared.steps.{MediaStep.MediaStep, Step.Step}
use Rattle.media_variables.specs.Variables.{Medium, Came, Brought, next_numbers, media_came, with_last, flag_behind, entry_behind, entries_of}
use Rattle.media_variables.specs.CameLaws.{HasNumbers, does_of, came_by_numbers}
use Rattle.media_accounts.specs.Accounts.{StepOp, step_by, is_by_step, numbers_in, numbers_of, ops_by, without_last, media_of, done_by, step_op, own_by, own_in, own_of, variables_by, is_by_entry, came_on, variables_in, came_in, MediaAreIn, OneMore}
use Rattle.media_accounts.specs.OwnLaws.{own_past}
use Rattle.media_accounts.proofs.Pools.{by_one, own_place, other_place, AllBy, ops_more, ops_kept, own_both, own_kept, of_same, legal_from}

-- ---- the entry of a step

entries_its : (pool : List PoolEntry) (who : Who) (os : List PoolOp) → AllBy (By.Caller who) (entries_of pool who os)
entries_its pool who [] = tt
entries_its pool who (o ∷ os) = (refl, entries_its (pool ++ entry_behind pool who o ∷ []) who os)

plain : (b : Bool) (o : PoolOp) → without_last (with_last b o) ≡ without_last o
plain b (PoolOp.Make r f) = refl
plain b (PoolOp.Clone r f) = refl
plain b (PoolOp.End r f last) = refl

abbrev op_of : ℕ → PoolOp → StepOp
op_of j p = record { step = j; op = p }

-- a step's entries are the caller's own
entry_own : (c j : ℕ) (b : Bool) (o : PoolOp) (rest : List StepOp) → own_by c (By.Caller (step_by c j)) (with_last b o) ++ rest ≡ step_op j o ∷ rest
entry_own c j b o rest =
    ap (λ (t : Bool). (if t then step_op j (with_last b o) ∷ [] else []) ++ rest) (eq-eqb c c refl) ∙ ap (λ (p : PoolOp). op_of j p ∷ rest) (plain b o)

entries_own : (pool : List PoolEntry) (c j : ℕ) (os : List PoolOp) → own_in c (entries_of pool (step_by c j) os) ≡ map (step_op j) os
entries_own pool c j [] = refl
entries_own pool c j (o ∷ os) =
    let next = pool ++ entry_behind pool (step_by c j) o ∷ [] in
    entry_own c j (flag_behind (By.Caller (step_by c j)) pool o) o (own_in c (entries_of next (step_by c j) os)) ∙ ap (λ (l : List StepOp). step_op j o ∷ l) (entries_own next c j os)

-- the numbers in the first entry are those of what it does
numbers_its : (b : Bool) (o : PoolOp) (os : List PoolOp) → HasNumbers (numbers_in (with_last b o)) (o ∷ os)
numbers_its b (PoolOp.Make r f) os = (refl, refl)
numbers_its b (PoolOp.Clone r f) os = refl
numbers_its b (PoolOp.End r f last) os = tt

-- ---- what steps came to, as more is brought and the history grows

module _ (steps : ℕ → List Step) (brought later : ℕ → ℕ → MediaStep → Brought) (pool longer : List PoolEntry) (c : ℕ) where
  -- a step comes to the same after the same variables
  abbrev pub ComesToo : ℕ → Type 0
  ComesToo j = (vs : List (Option Medium)) → came_on steps later longer c j vs ≡ came_on steps brought pool c j vs

  pub variables_stay : (j : ℕ) → ((i : ℕ) → i < j → ComesToo i) → variables_in steps later longer c j ≡ variables_in steps brought pool c j
  variables_stay zero same = refl
  variables_stay (suc j) same =
      let us = variables_in steps later longer c j in
      let vs = variables_stay j (λ i lt. same i (omega (arith, lt))) in
      ap (λ (y : Option Came). variables_by y us) (same j (omega arith) us) ∙ ap (λ (v : List (Option Medium)). variables_by (came_on steps brought pool c j v) v) vs

  pub came_stays : (j : ℕ) → ((i : ℕ) → i ≤ j → ComesToo i) → came_in steps later longer c j ≡ came_in steps brought pool c j
  came_stays j same =
      same j (omega arith) (variables_in steps later longer c j) ∙ ap (came_on steps brought pool c j) (variables_stay j (λ i lt. same i (omega (arith, lt))))

-- a step comes to the same where its entry is the same
pub comes_too : (steps : ℕ → List Step) (brought : ℕ → ℕ → MediaStep → Brought) (pool longer : List PoolEntry) (c j : ℕ) → ops_by c j longer ≡ ops_by c j pool → ComesToo steps brought brought pool longer c j
comes_too steps brought pool longer c j is vs = ap (λ (os : List PoolOp). option_and_then (λ (x : MediaStep). media_came (numbers_of os) (step_by c j) (brought c j x) x vs) (option_and_then media_of (slice_get (steps c) j))) is

-- One step more: the next step of a caller, which comes to this.
module _ (steps : ℕ → List Step) (brought : ℕ → ℕ → MediaStep → Brought) (lends : ℕ → ℕ → List PoolOp) (made more : ℕ → ℕ) (pool : List PoolEntry) (c : ℕ) (m : MediaAreIn steps brought lends made pool) (one : OneMore made more c) where
  abbrev who : Who
  who = step_by c (made c)

  -- the next step did nothing yet
  done_none : ops_by c (made c) pool ≡ []
  done_none = own_past c pool (came_in steps brought pool c) (made c) (made c) (m.own c) (omega arith)

  entry_done : (o : PoolOp) (os : List PoolOp) → ops_by c (made c) (pool ++ entries_of pool who (o ∷ os)) ≡ with_last (flag_behind (By.Caller who) pool o) o ∷ ops_by c (made c) (entries_of (pool ++ entry_behind pool who o ∷ []) who os)
  entry_done o os =
      let p = with_last (flag_behind (By.Caller who) pool o) o in
      let rest = ops_by c (made c) (entries_of (pool ++ entry_behind pool who o ∷ []) who os) in
      ops_more (is_by_step c (made c)) pool (entries_of pool who (o ∷ os))
      ∙ (ap (λ (l : List PoolOp). l ++ ops_by c (made c) (entries_of pool who (o ∷ os))) done_none ∙ ap (λ (b : Bool). cond b (p ∷ rest) rest) (own_place c (made c)))

  its_numbers : (os : List PoolOp) → HasNumbers (numbers_of (ops_by c (made c) (pool ++ entries_of pool who os))) os
  its_numbers [] = tt
  its_numbers (o ∷ os) = subst (λ (ps : List PoolOp). HasNumbers (numbers_of ps) (o ∷ os)) (sym (entry_done o os)) (numbers_its (flag_behind (By.Caller who) pool o) o os)

  -- it comes to the same with the numbers in its own entry
  pub comes_there : (x : MediaStep) (y : Came) (vs : List (Option Medium)) → media_came (next_numbers pool) who (brought c (made c) x) x vs ≡ Some y
      → media_came (numbers_of (ops_by c (made c) (pool ++ entries_of pool who y.does))) who (brought c (made c) x) x vs ≡ Some y
  comes_there x y vs comes =
      let its = numbers_of (ops_by c (made c) (pool ++ entries_of pool who y.does)) in
      came_by_numbers who (brought c (made c) x) x vs (next_numbers pool) its (subst (λ (z : Option Came). HasNumbers its (does_of z)) (sym comes) (its_numbers y.does)) ∙ comes

  module _ (o : Option Came) where
    abbrev new : List PoolEntry
    new = entries_of pool who (done_by o)

    abbrev longer : List PoolEntry
    longer = pool ++ new

    its : AllBy (By.Caller who) new
    its = entries_its pool who (done_by o)

    comes_still : (d i : ℕ) → ((d ≡ c) → (i ≡ made c) → ⊥) → ComesToo steps brought brought pool longer d i
    comes_still d i apart = comes_too steps brought pool longer d i (ops_kept (is_by_step d i) (By.Caller who) pool new its (other_place c d (made c) i apart))

    pub came_before : (d i : ℕ) → i < made d → came_in steps brought longer d i ≡ came_in steps brought pool d i
    came_before d i lt = came_stays steps brought brought pool longer d i (λ k le. comes_still d k (λ same e. (let at = ap made same in omega (arith, lt, le, e, at))))

    variables_here : variables_in steps brought longer c (made c) ≡ variables_in steps brought pool c (made c)
    variables_here = variables_stay steps brought brought pool longer c (made c) (λ i lt. comes_still c i (λ _ e. omega (arith, lt, e)))

    pub variables_others : (d : ℕ) → d ≢ c → variables_in steps brought longer d (more d) ≡ variables_in steps brought pool d (made d)
    variables_others d other =
        variables_stay steps brought brought pool longer d (more d) (λ i lt. comes_still d i (λ same at. other same)) ∙ ap (variables_in steps brought pool d) (one.others d other)

    own_others : (d : ℕ) → d ≢ c → own_in d longer ≡ own_of (came_in steps brought longer d) (more d)
    own_others d other =
        own_kept d (By.Caller who) pool new its (λ p. ap (λ (b : Bool). if b then step_op (made c) p ∷ [] else []) (ne_eqb c d (λ e. other (sym e))))
        ∙ (m.own d
        ∙ (of_same (came_in steps brought pool d) (came_in steps brought longer d) (made d) (λ i lt. sym (came_before d i lt))
        ∙ ap (own_of (came_in steps brought longer d)) (sym (one.others d other))))

    module _ (comes : came_on steps brought longer c (made c) (variables_in steps brought pool c (made c)) ≡ o) where
      pub came_now : came_in steps brought longer c (made c) ≡ o
      came_now = ap (came_on steps brought longer c (made c)) variables_here ∙ comes

      pub variables_now : variables_in steps brought longer c (more c) ≡ variables_by o (variables_in steps brought pool c (made c))
      variables_now = ap (variables_in steps brought longer c) one.here ∙ (ap (λ (y : Option Came). variables_by y (variables_in steps brought longer c (made c))) came_now ∙ ap (variables_by o) variables_here)

      own_now : own_in c longer ≡ own_of (came_in steps brought longer c) (more c)
      own_now =
          let after = came_in steps brought longer c in
          own_both c pool new
          ∙ (ap (λ (l : List StepOp). l ++ own_in c new) (m.own c ∙ of_same (came_in steps brought pool c) after (made c) (λ i lt. sym (came_before c i lt)))
          ∙ (ap (λ (l : List StepOp). own_of after (made c) ++ l) (entries_own pool c (made c) (done_by o) ∙ ap (λ (y : Option Came). map (step_op (made c)) (done_by y)) (sym came_now))
          ∙ ap (own_of after) (sym one.here)))

      pub grown : is_legal_from pool new ≡ true → MediaAreIn steps brought lends more longer
      grown legal = record {
        legal = legal_from [] pool new m.legal legal;
        own = by_one (λ d. own_in d longer ≡ own_of (came_in steps brought longer d) (more d)) c own_now own_others;
        codecs = λ k place. ap (map without_last) (ops_kept (is_by_entry k place) (By.Caller who) pool new its refl) ∙ m.codecs k place;
      }
