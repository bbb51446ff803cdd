-- What a caller's step said by what its caller knew then is so by all that was recorded.
use Rattle.std.proofs.Common.{ℕ, zero, suc, ◌≡◌, ◌≤◌, ◌<◌, List, ◌++◌, length, take, Option, Some, None, refl, ap, sym, subst, ◌∙◌}
use Rattle.std.specs.Prelude.{slice_get, option_map}
use Rattle.std.proofs.lemmas.List.{take-append-le}
use Rattle.wc_base.specs.declared.error.DomError.{DomError}
use Rattle.wc_base.specs.declared.who.Who.{Who}
use Rattle.codec_definitions.specs.declared.unit.Unit as output
use Rattle.codec_model.specs.declared.entry.Entry.{Entry}
use Rattle.codec_model.specs.declared.entry.PromiseState.{PromiseState}
use Rattle.codec_model.specs.Replay.{State}
use Rattle.codec_accounts.specs.Codec.{state_after}
use Rattle.codec_accounts.specs.ListLaws.{get_kept}
use Rattle.codec_accounts.specs.Owed.{at}
use Rattle.script_types.specs.declared.script.ScriptData.{ScriptData}
use Rattle.script_types.specs.declared.steps.Step.{Step}
use Rattle.script_types.specs.declared.steps.Step.TheVariants as step
use Rattle.script_types.specs.declared.steps.Variable.{Variable}
use Rattle.script_types.specs.Names.{called, taken_from}
use Rattle.report_text.specs.declared.result.StepResult.{StepResult}
use Rattle.report_text.specs.declared.result.StepResult.TheVariants as result
use Rattle.media_variables.specs.Variables.{Taken}
use Rattle.run_model.specs.Recorded.{Recorded, opening_at, output_at, promise_after, take_entry}
use Rattle.run_model.specs.Fits.{result_in, entry_in, exception_at, taken_by, IsAnswerOf, IsCallResult, IsResultBy, IsResultOf, IsTakeResult, LookShows}
use Rattle.run_model.specs.FitsLaws.{made_at, look_of}
use Rattle.desk_callers.specs.Deeds.{GoOn, known_by, results_alone, taken_as}
use Rattle.wc_run.proofs.Going.{ReplaysTo, front_legal, exception_stays, output_stays, output_taken}

-- the history of each codec can be replayed
abbrev pub AllReplay : ScriptData → List (List Entry) → Type 0
AllReplay s hs = (k : ℕ) → (t : State) × ReplaysTo (opening_at s k) (at k hs) t

-- the results of a caller, as far as these go, are recorded
abbrev pub AreResults : Recorded → ℕ → List StepResult → Type 0
AreResults w c rs = (j : ℕ) (r : StepResult) → slice_get rs j ≡ Some r → result_in w c j ≡ Some r

alone_at : (c : ℕ) (rs : List StepResult) → at c (results_alone c rs) ≡ rs
alone_at zero rs = refl
alone_at (suc c) rs = alone_at c rs

module _ (s : ScriptData) (w : Recorded) (c : ℕ) (rs : List StepResult) (hs : List (List Entry)) (goes : GoOn hs w.codecs) (legal : AllReplay s w.codecs) (results : AreResults w c rs) where
  abbrev known : Recorded
  known = known_by c rs hs

  -- what a look saw stays
  seen_stays : (k n : ℕ) → n ≤ length (at k hs) → take n (at k w.codecs) ≡ take n (at k hs)
  seen_stays k n le = ap (take n) (goes k).1 ∙ take-append-le n (at k hs) (goes k).0 le

  pub entry_stays : (k p : ℕ) (e : Entry) → slice_get (at k hs) p ≡ Some e → entry_in w k p ≡ Some e
  entry_stays k p e is = ap (λ (l : List Entry). slice_get l p) (goes k).1 ∙ get_kept (at k hs) (goes k).0 p e is

  whole_legal : (k : ℕ) → ReplaysTo (opening_at s k) (at k hs ++ (goes k).0) (legal k).0
  whole_legal k = subst (λ (l : List Entry). ReplaysTo (opening_at s k) l (legal k).0) (goes k).1 (legal k).1

  shown_stays : (k p : ℕ) → p < length (at k hs) → exception_at (opening_at s k) (at k w.codecs) p ≡ exception_at (opening_at s k) (at k hs) p
  shown_stays k p lt =
      ap (λ (l : List Entry). exception_at (opening_at s k) l p) (goes k).1 ∙ exception_stays (opening_at s k) (at k hs) (goes k).0 (legal k).0 p (whole_legal k) lt

  -- ---- looks

  -- by what the caller knew its promise is of a flush that was made, and stood so after so many entries
  abbrev PromiseIs : Recorded → Variable → ℕ → ℕ → PromiseState → Type 0
  PromiseIs v promise k n end =
      (p : ℕ) × (error : Option DomError) × (result_in v c promise.step ≡ Some (result.Call k p error)) × (end ≡ promise_after (opening_at s k) (take n (at k v.codecs)) p)

  promise_stays : (promise : Variable) (k n : ℕ) (end : PromiseState) → n ≤ length (at k hs) → PromiseIs known promise k n end → PromiseIs w promise k n end
  promise_stays promise k n end le x =
      let made : slice_get rs promise.step ≡ Some (result.Call k x.0 x.1) = ap (λ (l : List StepResult). slice_get l promise.step) (sym (alone_at c rs)) ∙ x.2 in
      (x.0, x.1, results promise.step (result.Call k x.0 x.1) made, x.3 ∙ ap (λ (l : List Entry). promise_after (opening_at s k) l x.0) (sym (seen_stays k n le)))

  pub look_stays : (x : Step) (r : StepResult) → ((k n : ℕ) → look_of r ≡ Some (k, n) → n ≤ length (at k hs)) → LookShows s known c x r → LookShows s w c x r
  look_stays (step.Await promise) (result.Look k n end) sees shows = promise_stays promise k n end (sees k n refl) shows
  look_stays (step.Poll promise) (result.Look k n end) sees shows = promise_stays promise k n end (sees k n refl) shows
  look_stays (step.State on) (result.State k n state size) sees shows =
      subst (λ (l : List Entry). (on ≡ k) × (state ≡ (state_after (opening_at s k) l).control.phase) × (size ≡ (state_after (opening_at s k) l).control.size)) (sym (seen_stays k n (sees k n refl))) shows
  look_stays x (result.Look k n end) sees shows = absurd shows
  look_stays x (result.State k n state size) sees shows = absurd shows
  look_stays x (result.NoUnit k n) sees shows =
      subst (λ (l : List Entry). (taken_from x ≡ Some k) × (output_at (opening_at s k) l (state_after (opening_at s k) l).control.taken ≡ None)) (sym (seen_stays k n (sees k n refl))) shows
  look_stays x r sees shows = tt

  -- ---- results

  call_stays : (k : ℕ) (r : StepResult) → ((i p : ℕ) → made_at r ≡ Some (i, p) → p < length (at i hs)) → IsCallResult s known k r → IsCallResult s w k r
  call_stays k (result.Call other p error) stands x =
      let lt : p < length (at k hs) = subst (λ (i : ℕ). p < length (at i hs)) x.0 (stands other p refl) in
      (x.0, x.1 ∙ sym (shown_stays k p lt))
  call_stays k result.Absent stands x = tt
  call_stays k r stands x = absurd x

  take_stays : (who : Who) (k : ℕ) (r : StepResult) → IsTakeResult known who k r → IsTakeResult w who k r
  take_stays who k (result.Unit other p n) x = (x.0, entry_stays k p (take_entry who n) x.1)
  take_stays who k (result.NoUnit other n) x = x
  take_stays who k r x = absurd x

  none_stays : (r : StepResult) → IsAnswerOf s known None r → IsAnswerOf s w None r
  none_stays (result.Call k p error) x = absurd x
  none_stays (result.Unit k p n) x = absurd x
  none_stays (result.NoUnit k n) x = absurd x
  none_stays r x = tt

  by_stays : (who : Who) (takes calls : Option ℕ) (r : StepResult) → ((i p : ℕ) → made_at r ≡ Some (i, p) → p < length (at i hs)) → IsResultBy s known who takes calls r → IsResultBy s w who takes calls r
  by_stays who (Some k) calls r stands x = take_stays who k r x
  by_stays who None (Some k) r stands x = call_stays k r stands x
  by_stays who None None r stands x = none_stays r x

  pub result_stays : (who : Who) (x : Step) (r : StepResult) → ((i p : ℕ) → made_at r ≡ Some (i, p) → p < length (at i hs)) → IsResultOf s known who x r → IsResultOf s w who x r
  result_stays who x r stands is = by_stays who (taken_from x) (called x) r stands is

  -- ---- takes

  takes_entry : (who : Who) (takes calls : Option ℕ) (k p n : ℕ) → IsResultBy s known who takes calls (result.Unit k p n) → slice_get (at k hs) p ≡ Some (take_entry who n)
  takes_entry who (Some m) calls k p n x = subst (λ (i : ℕ). slice_get (at i hs) p ≡ Some (take_entry who n)) (sym x.0) x.1
  takes_entry who None None k p n x = absurd x
  takes_entry who None (Some m) k p n x = absurd x

  abbrev unit_taken : StepResult → Option output.Unit → Option Taken
  unit_taken r o = option_map (taken_as r) o

  -- the output that a step took is the same
  pub taken_stays : (who : Who) (takes calls : Option ℕ) (r : StepResult) (taken : Option output.Unit) → IsResultBy s known who takes calls r → unit_taken r taken ≡ taken_by s known (Some r) → unit_taken r taken ≡ taken_by s w (Some r)
  taken_stays who takes calls (result.Unit k p n) taken x is =
      let o = opening_at s k in
      let front = front_legal o (at k hs) (goes k).0 (legal k).0 (whole_legal k) in
      let there = output_taken o (at k hs) p n who front.0 front.1 (takes_entry who takes calls k p n x) in
      let later : output_at o (at k w.codecs) n ≡ Some there.0 = ap (λ (l : List Entry). output_at o l n) (goes k).1 ∙ output_stays o (at k hs) (goes k).0 n there.0 there.1 in
      is ∙ ap (unit_taken (result.Unit k p n)) (there.1 ∙ sym later)
  taken_stays who takes calls r taken x is = is
