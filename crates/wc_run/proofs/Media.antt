-- A caller's variables of media, and what its steps did to the pool, are those that its deeds call for.
use Rattle.std.proofs.Common.{ℕ, zero, suc, ◌≡◌, ◌≤◌, ◌<◌, List, [], ◌∷◌, ◌++◌, length, map, take, Option, Some, refl, ap, sym, ◌∙◌, arith}
use Rattle.std.specs.Prelude.{slice_get, option_and_then, option_map}
use Rattle.std.proofs.Math.Seq.{take-length}
use Rattle.std.proofs.lemmas.List.{length-map}
use Rattle.std.proofs.lemmas.Option.{slice_get_within}
use Rattle.wc_base.specs.declared.who.Who.{Who}
use Rattle.wc_chunk.specs.declared.chunk.Chunk.{Chunk}
use Rattle.wc_pool.specs.declared.entry.PoolOp.{PoolOp}
use Rattle.codec_accounts.specs.ListLaws.{get_some}
use Rattle.codec_accounts.specs.Owed.{at}
use Rattle.codec_accounts.specs.OwedLaws.{owed_more, state_append}
use Rattle.script_types.specs.declared.script.ScriptData.{ScriptData}
use Rattle.script_types.specs.declared.steps.MediaStep.{MediaStep}
use Rattle.script_types.specs.declared.steps.Step.{Step}
use Rattle.report_text.specs.declared.result.StepResult.{StepResult}
use Rattle.media_variables.specs.Variables.{Medium, Came, Brought, media_came}
use Rattle.media_accounts.specs.Accounts.{step_by, step_op, done_by, media_of, numbers_of, ops_by, own_in, own_of, variables_by, without_last, came_on, came_in}
use Rattle.media_accounts.specs.OwnLaws.{own_owed}
use Rattle.run_model.specs.Recorded.{Recorded, copied_chunk, steps_of}
use Rattle.run_model.specs.Fits.{result_in, taken_by, received_by, brought_to, variables_at, came_at, made_steps}
use Rattle.desk_callers.specs.Deeds.{Deed, brought_by, came_of, after_deed, own_due, owns_of, results_of, taken_as, variables_after}
use Rattle.wc_run.proofs.Acts.{IsDeedIn, result_there}
use Rattle.wc_run.proofs.Numbers.{came_told}

-- one deed more
front_more : (ds : List Deed) (j : ℕ) (d : Deed) → slice_get ds j ≡ Some d → take (suc j) ds ≡ take j ds ++ d ∷ []
front_more [] j d is = absurd cc
front_more (e ∷ ds) zero d is =
    let same : e ≡ d = cc in
    ap (λ (x : Deed). x ∷ []) same
front_more (e ∷ ds) (suc j) d is = ap (λ (l : List Deed). e ∷ l) (front_more ds j d is)

own_same : (f g : ℕ → Option Came) (n : ℕ) → ((j : ℕ) → j < n → f j ≡ g j) → own_of f n ≡ own_of g n
own_same f g zero same = refl
own_same f g (suc n) same =
    let rest = own_same f g n (λ j lt. same j (omega (arith, lt))) in
    let here = same n (omega arith) in
    (λ i. rest i ++ map (step_op n) (done_by (here i)))

module _ (s : ScriptData) (media : List (List Chunk)) (w : Recorded) (c : ℕ) (ds : List Deed) (results : at c w.callers ≡ results_of ds) (received : (j : ℕ) → w.received c j ≡ option_and_then (λ d. d.received) (slice_get ds j)) (own : own_in c w.pool ≡ owns_of s media ds)
    (each : (j : ℕ) (d : Deed) → slice_get ds j ≡ Some d → IsDeedIn s media w c (variables_after s media (take j ds)) j d) where
  -- the variables before the deed with this number
  abbrev before : ℕ → List (Option Medium)
  before j = variables_after s media (take j ds)

  after_one : (j : ℕ) (d : Deed) → slice_get ds j ≡ Some d → before (suc j) ≡ variables_by (came_of s media d (before j)) (before j)
  after_one j d there = ap (variables_after s media) (front_more ds j d there) ∙ state_append (after_deed s media) [] (take j ds) (d ∷ [])

  -- what the deed with this number came to
  abbrev came_there : ℕ → Option Came
  came_there j = option_and_then (λ d. came_of s media d (before j)) (slice_get ds j)

  came_here : (j : ℕ) (d : Deed) → slice_get ds j ≡ Some d → came_there j ≡ came_of s media d (before j)
  came_here j d there = ap (λ (o : Option Deed). option_and_then (λ (x : Deed). came_of s media x (before j)) o) there

  owed_front : (n : ℕ) → n ≤ length ds → own_of came_there n ≡ owns_of s media (take n ds)
  owed_front zero le = refl
  owed_front (suc n) le =
      let there = get_some ds n (omega (arith, le)) in
      let d : Deed = there.0 in
      let rest = owed_front n (omega (arith, le)) in
      let number : n ≡ d.who.step = sym (ap (λ (x : Who). x.step) (each n d there.1).who) in
      let here = came_here n d there.1 in
      let due : map (step_op n) (done_by (came_there n)) ≡ own_due s media (length (take n ds)) d (before n) = (λ i. map (step_op (number i)) (done_by (here i))) in
      (λ i. rest i ++ due i) ∙ (sym (owed_more (after_deed s media) (own_due s media) [] (take n ds) d) ∙ ap (owns_of s media) (sym (front_more ds n d there.1)))

  own_there : own_in c w.pool ≡ own_of came_there (length ds)
  own_there = own ∙ sym (owed_front (length ds) (omega arith) ∙ ap (owns_of s media) (take-length ds))

  abbrev steps : ℕ → List Step
  steps = steps_of s

  abbrev brought : ℕ → ℕ → MediaStep → Brought
  brought = brought_to s media w

  given_same : (j : ℕ) (d : Deed) → slice_get ds j ≡ Some d → (x : MediaStep) → brought c j x ≡ brought_by s media d x
  given_same j d there x =
      let here = each j d there in
      let caller : c ≡ d.who.caller = sym (ap (λ (y : Who). y.caller) here.who) in
      let made : result_in w c j ≡ Some d.result = ap (λ (l : List StepResult). slice_get l j) results ∙ result_there ds j d there in
      let taken : taken_by s w (result_in w c j) ≡ option_map (taken_as d.result) d.taken = ap (taken_by s w) made ∙ sym here.taken in
      let got : w.received c j ≡ d.received = received j ∙ ap (λ (o : Option Deed). option_and_then (λ (y : Deed). y.received) o) there in
      (λ i. record { chunk = copied_chunk media (steps_of s (caller i)) x; taken = taken i; received = received_by x (got i) })

  -- a step comes to what its deed came to
  came_same : (j : ℕ) (d : Deed) → slice_get ds j ≡ Some d → came_on steps brought w.pool c j (before j) ≡ came_of s media d (before j)
  came_same j d there =
      let here = each j d there in
      let vs : List (Option Medium) = before j in
      let os : List PoolOp = ops_by c j w.pool in
      let lt : j < length ds = slice_get_within ds j d there in
      let did : map without_last os ≡ map without_last (done_by (came_of s media d vs)) = own_owed c w.pool came_there (length ds) j own_there lt ∙ ap (λ (o : Option Came). map without_last (done_by o)) (came_here j d there) in
      let as_step : came_on steps brought w.pool c j vs ≡ option_and_then (λ x. media_came (numbers_of os) (step_by c j) (brought c j x) x vs) (media_of d.step) =
      ap (λ (o : Option Step). option_and_then (λ (x : MediaStep). media_came (numbers_of os) (step_by c j) (brought c j x) x vs) (option_and_then media_of o)) here.step in
      let as_deed : option_and_then (λ x. media_came (numbers_of os) (step_by c j) (brought c j x) x vs) (media_of d.step) ≡ option_and_then (λ x. media_came (numbers_of os) d.who (brought_by s media d x) x vs) (media_of d.step) =
      (λ i. option_and_then (λ (x : MediaStep). media_came (numbers_of os) (sym here.who i) (given_same j d there x i) x vs) (media_of d.step)) in
      as_step ∙ (as_deed ∙ came_told d.numbers d.who (brought_by s media d) (media_of d.step) vs os did)

  -- the variables before each step are those that the earlier deeds left
  pub variables_same : (j : ℕ) → j ≤ length ds → variables_at s media w c j ≡ before j
  variables_same zero le = refl
  variables_same (suc j) le =
      let there = get_some ds j (omega (arith, le)) in
      let d : Deed = there.0 in
      let rest = variables_same j (omega (arith, le)) in
      let one : variables_by (came_on steps brought w.pool c j (before j)) (before j) ≡ before (suc j) =
      ap (λ (o : Option Came). variables_by o (before j)) (came_same j d there.1) ∙ sym (after_one j d there.1) in
      (λ i. variables_by (came_on steps brought w.pool c j (rest i)) (rest i)) ∙ one

  pub came_deed : (j : ℕ) (d : Deed) → slice_get ds j ≡ Some d → came_at s media w c j ≡ came_of s media d (before j)
  came_deed j d there =
      let lt : j < length ds = slice_get_within ds j d there in
      ap (λ (vs : List (Option Medium)). came_on steps brought w.pool c j vs) (variables_same j (omega (arith, lt))) ∙ came_same j d there

  -- the pool has of the caller what its steps call for
  pub own_called : own_in c w.pool ≡ own_of (came_in steps brought w.pool c) (made_steps w c)
  own_called =
      let many : made_steps w c ≡ length ds = ap (λ (l : List StepResult). length l) results ∙ length-map ds (λ x. x.result) in
      let same : own_of (came_in steps brought w.pool c) (length ds) ≡ own_of came_there (length ds) =
      own_same (came_in steps brought w.pool c) came_there (length ds) (λ j lt. (let there = get_some ds j lt in came_deed j there.0 there.1 ∙ sym (came_here j there.0 there.1))) in
      own_there ∙ (sym same ∙ ap (own_of (came_in steps brought w.pool c)) (sym many))
