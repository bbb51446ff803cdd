-- The results of a caller by its number, the medium of a variable by its step, and what a table has that keeps the first value of
-- each key.
use Rattle.std.proofs.Common.{ℕ, zero, suc, ◌≡◌, ◌+◌, ◌<◌, ◌≤◌, Bool, true, false, cond, List, [], ◌∷◌, length, get_or, Option, Some, None, is_some, refl, ap, sym, ◌∙◌, arith}
use Rattle.std.specs.Prelude.{slice_get, option_and_then, option_map, unwrap_or, nat_lt, ◌==◌, ◌&&◌, ◌||◌}
use Rattle.std.proofs.lemmas.Option.{slice_get_read, slice_get_past}
use Rattle.std.specs.Option.{option_or}
use Rattle.std.specs.BTreeMap.{BTreeMap, get, is_at}
use Rattle.std.proofs.lemmas.Bool.{eqb-true, lt-ltb, le-ltb}
use Rattle.std.proofs.lemmas.Bool.Decides.{nat_tests}
use Rattle.script_types.specs.declared.{script.ScriptData.ScriptData, steps.Step.Step, script.CallerItem.CallerItem}
use Rattle.run_model.specs.declared.run.CallerTrace.{CallerTrace}
use Rattle.run_model.specs.Recorded.{steps_of, steps_in}
use Rattle.media_accounts.specs.Contents.{Kept, From, kept_by, kept_before}
use Rattle.report_text.specs.declared.result.StepResult.{StepResult}
use Rattle.report_reader.specs.Arguments.{results_of, detached_by, is_detached}
use Rattle.report_reader.specs.Tables.{key_cmp, is_before, is_named, first_named}

-- ---- results

results_are : (c : ℕ) (callers : List CallerTrace) → results_of callers c ≡ unwrap_or (option_map (λ x. x.results) (slice_get callers c)) []
results_are zero (y ∷ ys) = refl
results_are (suc c) (y ∷ ys) = results_are c ys
results_are c [] = refl

pub results_read : (c : ℕ) (callers : List CallerTrace) (x : CallerTrace) → c < length callers → x ≡ get_or callers c x → results_of callers c ≡ x.results
results_read c callers x lt is = results_are c callers ∙ rw (slice_get_read callers (length callers) c x refl lt is) refl

pub results_past : (c : ℕ) (callers : List CallerTrace) → length callers ≤ c → results_of callers c ≡ []
results_past c callers beyond = results_are c callers ∙ rw (slice_get_past callers c beyond) refl

-- ---- steps

steps_are : (c : ℕ) (callers : List CallerItem) → steps_in callers c ≡ unwrap_or (option_map (λ x. x.steps) (slice_get callers c)) []
steps_are zero (y ∷ ys) = refl
steps_are (suc c) (y ∷ ys) = steps_are c ys
steps_are c [] = refl

pub steps_read : (c : ℕ) (callers : List CallerItem) (x : CallerItem) → c < length callers → x ≡ get_or callers c x → steps_in callers c ≡ x.steps
steps_read c callers x lt is = steps_are c callers ∙ rw (slice_get_read callers (length callers) c x refl lt is) refl

pub steps_past : (c : ℕ) (callers : List CallerItem) → length callers ≤ c → steps_in callers c ≡ []
steps_past c callers beyond = steps_are c callers ∙ rw (slice_get_past callers c beyond) refl

-- ---- media

abbrev pub defined : List Step → (ℕ → From) → ℕ → Option Kept
defined steps from j = option_and_then (kept_by (kept_before steps from j) (from j)) (slice_get steps j)

-- a variable has what its own step gives, once that was made
kept_is : (steps : List Step) (from : ℕ → From) (n j : ℕ) → kept_before steps from n j ≡ cond (nat_lt j n) (defined steps from j) None
kept_is steps from zero j = grind (arith, nat_tests)
kept_is steps from (suc n) j = grind (arith, nat_tests, eqb-true j n, kept_is steps from n j)

pub defined_at : (steps : List Step) (from : ℕ → From) (n j : ℕ) → j < n → kept_before steps from n j ≡ defined steps from j
defined_at steps from n j lt = rw (lt-ltb j n lt) at (kept_is steps from n j)

-- a step that was not made gives none
pub undefined_at : (steps : List Step) (from : ℕ → From) (n j : ℕ) → n ≤ j → kept_before steps from n j ≡ None
undefined_at steps from n j le = rw (le-ltb j n le) at (kept_is steps from n j)

pub defined_read : (steps : List Step) (from : ℕ → From) (n j : ℕ) (x : Step) → j < n → j < length steps → x ≡ get_or steps j x
    → kept_before steps from n j ≡ kept_by (kept_before steps from j) (from j) x
defined_read steps from n j x lt there is =
    defined_at steps from n j lt ∙ ap (λ (o : Option Step). option_and_then (kept_by (kept_before steps from j) (from j)) o) (slice_get_read steps (length steps) j x refl there is)

pub defined_past : (steps : List Step) (from : ℕ → From) (n j : ℕ) → j < n → length steps ≤ j → kept_before steps from n j ≡ None
defined_past steps from n j lt beyond =
    defined_at steps from n j lt ∙ ap (λ (o : Option Step). option_and_then (kept_by (kept_before steps from j) (from j)) o) (slice_get_past steps j beyond)

-- ---- tables

pub absent : {V : Type 0} (o : Option V) → false ≡ is_some o → o ≡ None
absent o e = grind (arith, e)

-- a key that had no value has this one, and the others are as they were
pub put_first : {V : Type 0} (old new : BTreeMap (ℕ × ℕ) V) (key : ℕ × ℕ) (v : V) → get key_cmp old key ≡ None → ((q : ℕ × ℕ) → get key_cmp new q ≡ cond (is_at (key_cmp key) q) (Some v) (get key_cmp old q))
    → (k n : ℕ) → get key_cmp new (k, n) ≡ option_or (get key_cmp old (k, n)) (cond ((key.0 == k) && (key.1 == n)) (Some v) None)
put_first old new key v none updates k n = grind (arith, nat_tests, none, updates (k, n))

-- ---- the first of some

-- the step with this number, if it names the variable
abbrev step_here : Bool → ℕ → Option ℕ
step_here q n = cond q (Some n) None

one_tells : (o : Option ℕ) (q d e : Bool) (n m : ℕ) → m ≤ n → ((i : ℕ) → o ≡ Some i → i < n) → is_before o n ≡ d → (m < n → is_before o (suc m) ≡ e) → (m ≡ n → e ≡ cond d true q) → is_before (option_or o (step_here q n)) (suc m) ≡ e
one_tells o q d e n m le below now less last = grind (arith, nat_tests, le, below, now, less, last)

-- the first is one of them
first_below : (f : ℕ → List ℕ) (n j i : ℕ) → first_named f n j ≡ Some i → i < n
first_below f zero j i h = absurd cc
first_below f (suc n) j i h = grind (arith, first_below f n j, h)

-- one name more of a list
pub named_more : (o : Option ℕ) (a b q : Bool) (n : ℕ) → option_or (option_or o (cond (a && b) (Some n) None)) (cond (a && q) (Some n) None) ≡ option_or o (cond (a && (b || q)) (Some n) None)
named_more (Some i) a b q n = refl
named_more None false b q n = refl
named_more None true true q n = refl
named_more None true false q n = refl

-- ---- the ends of variables

module _ (steps : List Step) (results : List StepResult) where
  abbrev named : ℕ → List ℕ
  named = detached_by steps results

  -- the first of n steps tells of any fewer whether one of them names the variable
  first_tells : (n j m : ℕ) → m ≤ n → is_before (first_named named n j) m ≡ is_detached steps results m j
  first_tells n j zero le = grind (arith, nat_tests)
  first_tells zero j (suc m) le = absurd (omega (arith, le))
  first_tells (suc n) j (suc m) le =
      one_tells (first_named named n j) (is_named j (named n)) (is_detached steps results n j) (is_detached steps results (suc m) j) n m (omega (arith, le)) (first_below named n j) (first_tells n j n (omega arith)) (λ lt. first_tells n j (suc m) (omega (arith, lt))) (λ same. rw same refl)

  -- behind the last step none is named
  first_further : (k j : ℕ) → first_named named (k + length steps) j ≡ first_named named (length steps) j
  first_further zero j = let same : 0 + length steps ≡ length steps = omega arith in rw same refl
  first_further (suc k) j =
      let more : suc k + length steps ≡ suc (k + length steps) = omega arith in
      rw more (grind (arith, slice_get_past steps (k + length steps), first_further k j))

  -- the first step that detached a variable's data tells after which steps it is detached
  pub ends_tell : (o : Option ℕ) (n j : ℕ) → o ≡ first_named named (length steps) j → is_before o n ≡ is_detached steps results n j
  ends_tell o n j is = rw (is, sym (first_further n j)) (first_tells (n + length steps) j n (omega arith))

-- ---- callers

-- all of them
pub callers_all : (s : ScriptData) (results : List StepResult) (n k j : ℕ) → length s.callers ≤ n
    → cond (nat_lt k n) (first_named (detached_by (steps_of s k) results) (length (steps_of s k)) j) None ≡ first_named (detached_by (steps_of s k) results) (length (steps_of s k)) j
callers_all s results n k j all = grind (arith, nat_tests, steps_past k s.callers, all)
