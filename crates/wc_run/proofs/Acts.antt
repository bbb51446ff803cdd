-- A caller's deeds, by all that was recorded.
use Rattle.std.proofs.Common.{ℕ, zero, suc, ◌≡◌, ◌<◌, List, [], ◌∷◌, length, take, Option, Some, None, refl, ap, subst, ◌∙◌, arith}
use Rattle.std.specs.Prelude.{slice_get, option_map, IfSome}
use Rattle.std.proofs.lemmas.List.{length-take-le}
use Rattle.std.proofs.lemmas.Option.{slice_get_within}
use Rattle.wc_base.specs.declared.who.Who.{Who}
use Rattle.wc_chunk.specs.declared.chunk.Chunk.{Chunk}
use Rattle.codec_model.specs.declared.entry.Call.{Call}
use Rattle.codec_model.specs.declared.entry.Entry.{Entry}
use Rattle.codec_model.specs.declared.entry.Entry.TheVariants as entry
use Rattle.codec_accounts.specs.Owed.{at}
use Rattle.script_types.specs.declared.script.ScriptData.{ScriptData}
use Rattle.script_types.specs.Names.{called, taken_from}
use Rattle.report_text.specs.declared.result.StepResult.{StepResult}
use Rattle.media_variables.specs.Variables.{Medium}
use Rattle.media_accounts.specs.Accounts.{step_by}
use Rattle.run_model.specs.Recorded.{Recorded}
use Rattle.run_model.specs.Fits.{step_in, taken_by, HasArguments, IsLocalAnswer, IsResultOf, LookShows}
use Rattle.run_model.specs.FitsLaws.{made_at}
use Rattle.desk_callers.specs.Deeds.{Deed, GoOn, StandsAs, AreDeeds, came_of, known_by, results_of, taken_as, variables_after}
use Rattle.wc_run.proofs.Known.{AllReplay, AreResults, entry_stays, look_stays, result_stays, taken_stays}

-- what a deed of a caller, the one with this number, says by all that was recorded
pub record IsDeedIn (s : ScriptData) (media : List (List Chunk)) (w : Recorded) (c : ℕ) (vs : List (Option Medium)) (j : ℕ) (d : Deed) : Type 0 where
  pub who : d.who ≡ step_by c j
  pub step : step_in s c j ≡ Some d.step
  pub result : IsResultOf s w d.who d.step d.result
  pub shows : LookShows s w c d.step d.result
  pub answers : IsLocalAnswer s media vs (came_of s media d vs) c d.step d.result
  pub stands : StandsAs w.codecs d.who d.call (made_at d.result)
  pub arguments : IfSome d.call (λ x. HasArguments s media vs c x d.step)
  pub taken : option_map (taken_as d.result) d.taken ≡ taken_by s w (Some d.result)

-- the deed with a result
pub record MadeAt (ds : List Deed) (j : ℕ) (r : StepResult) : Type 0 where
  pub deed : Deed
  pub there : slice_get ds j ≡ Some deed
  pub result : deed.result ≡ r

pub made_there : (ds : List Deed) (j : ℕ) (r : StepResult) → slice_get (results_of ds) j ≡ Some r → MadeAt ds j r
made_there [] j r is = absurd cc
made_there (d ∷ ds) zero r is = record { deed = d; there = refl; result = cc }
made_there (d ∷ ds) (suc j) r is = (let m = made_there ds j r is in record { deed = m.deed; there = m.there; result = m.result })

pub result_there : (ds : List Deed) (j : ℕ) (d : Deed) → slice_get ds j ≡ Some d → slice_get (results_of ds) j ≡ Some d.result
result_there [] j d is = absurd cc
result_there (e ∷ ds) zero d is =
    let same : e ≡ d = cc in
    ap (λ (x : Deed). Some x.result) same
result_there (e ∷ ds) (suc j) d is = result_there ds j d is

front_result : (ds : List Deed) (j i : ℕ) (r : StepResult) → slice_get (results_of (take j ds)) i ≡ Some r → slice_get (results_of ds) i ≡ Some r
front_result ds zero i r is = absurd cc
front_result [] (suc j) i r is = absurd cc
front_result (d ∷ ds) (suc j) zero r is = is
front_result (d ∷ ds) (suc j) (suc i) r is = front_result ds j i r is

module _ (s : ScriptData) (media : List (List Chunk)) (w : Recorded) (c : ℕ) (ds : List Deed) (legal : AllReplay s w.codecs) (results : at c w.callers ≡ results_of ds) (are : AreDeeds s media c w.codecs ds) where
  front_results : (j : ℕ) → AreResults w c (results_of (take j ds))
  front_results j i r is = ap (λ (l : List StepResult). slice_get l i) results ∙ front_result ds j i r is

  all_stands : (hs : List (List Entry)) (who : Who) (made : Option Call) (at_place : Option (ℕ × ℕ)) → GoOn hs w.codecs → StandsAs hs who made at_place → StandsAs w.codecs who made at_place
  all_stands hs who made None goes x = x
  all_stands hs who made (Some there) goes x = (x.0, x.1, entry_stays s w c [] hs goes legal (λ j r is. absurd cc) there.0 there.1 (entry.Call who x.0) x.2)

  stands_within : (hs : List (List Entry)) (who : Who) (made : Option Call) (at_place : Option (ℕ × ℕ)) → StandsAs hs who made at_place → (k p : ℕ) → at_place ≡ Some (k, p) → p < length (at k hs)
  stands_within hs who made at_place x k p is = (let there = subst (StandsAs hs who made) is x in slice_get_within (at k hs) p (entry.Call who there.0) there.2)

  pub deed_in : (j : ℕ) (d : Deed) → slice_get ds j ≡ Some d → IsDeedIn s media w c (variables_after s media (take j ds)) j d
  deed_in j d there =
      let lt = slice_get_within ds j d there in
      let long : length (take j ds) ≡ j = length-take-le j ds (omega (arith, lt)) in
      let x = are.each j d there in
      let who : d.who ≡ step_by c j = x.who ∙ ap (step_by c) long in
      let caller : d.who.caller ≡ c = ap (λ (y : Who). y.caller) who in
      let rs : List StepResult = results_of (take j ds) in
      let hs : List (List Entry) = x.known in
      let within = stands_within hs d.who d.call (made_at d.result) x.is.stands in
      let result : IsResultOf s (known_by c rs hs) d.who d.step d.result = subst (λ (n : ℕ). IsResultOf s (known_by n rs hs) d.who d.step d.result) caller x.is.result in
      let shows : LookShows s (known_by c rs hs) c d.step d.result = subst (λ (n : ℕ). LookShows s (known_by n rs hs) n d.step d.result) caller x.is.shows in
      let taken : option_map (taken_as d.result) d.taken ≡ taken_by s (known_by c rs hs) (Some d.result) = x.is.taken ∙ ap (λ (n : ℕ). taken_by s (known_by n rs hs) (Some d.result)) caller in
      let vs : List (Option Medium) = variables_after s media (take j ds) in
      record {
        who = who;
        step = subst (λ (n : ℕ). step_in s c n ≡ Some d.step) long x.step;
        result = result_stays s w c rs hs x.goes_on legal (front_results j) d.who d.step d.result within result;
        shows = look_stays s w c rs hs x.goes_on legal (front_results j) d.step d.result x.sees shows;
        answers = subst (λ (n : ℕ). IsLocalAnswer s media vs (came_of s media d vs) n d.step d.result) caller x.is.answers;
        stands = all_stands hs d.who d.call (made_at d.result) x.goes_on x.is.stands;
        arguments = subst (λ (n : ℕ). IfSome d.call (λ y. HasArguments s media vs n y d.step)) caller x.is.arguments;
        taken = taken_stays s w c rs hs x.goes_on legal (front_results j) d.who (taken_from d.step) (called d.step) d.result d.taken result taken;
      }
