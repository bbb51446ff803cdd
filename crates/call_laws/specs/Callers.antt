-- What all callers of a run did, against the codecs' histories.
use Rattle.std.specs.Prelude.{ℕ, suc, ◌≡◌, List, [], ◌∷◌, ◌++◌, map, Some}
use Rattle.wc_base.specs.declared.who.Who.{Who}
use Rattle.wc_chunk.specs.declared.chunk.Chunk.{Chunk}
use Rattle.codec_model.specs.declared.entry.Call.{Call}
use Rattle.codec_model.specs.declared.entry.Entry.{Entry}
use Rattle.codec_model.specs.declared.entry.Entry.TheVariants as entry
use Rattle.codec_accounts.specs.Bags.{SameBag}
use Rattle.codec_accounts.specs.Calls.{Mark, Call as CallMark, Look as LookMark, Local, named}
use Rattle.script_types.specs.declared.script.ScriptData.{ScriptData}
use Rattle.script_types.specs.declared.steps.Step.{Step}
use Rattle.report_text.specs.declared.result.StepResult.{StepResult}
use Rattle.run_model.specs.Recorded.{Recorded}
use Rattle.run_model.specs.Fits.{result_in, entry_in, step_in, marks_of, variables_at, IsResultOf, HasArguments}
use Rattle.run_model.specs.FitsLaws.{made_at}

-- the entries of all codecs that name a caller's step, from the codec with this number on: each with its codec and its place
abbrev pub all_named : ℕ → List (List Entry) → List (ℕ × (ℕ × Who))
all_named k [] = []
all_named k (h ∷ hs) = map (λ x. (k, x)) (named h) ++ all_named (suc k) hs

-- the call that a step's result tells, if it tells one
abbrev pub told_by : Who → Mark → List (ℕ × (ℕ × Who))
told_by who (CallMark on p) = (on, (p, who)) ∷ []
told_by who (LookMark on n) = []
told_by who Local = []

-- the calls that a caller's results tell, from its step with this number on
abbrev pub told_of : ℕ → ℕ → List Mark → List (ℕ × (ℕ × Who))
told_of c j [] = []
told_of c j (r ∷ rs) = told_by (record { caller = c; step = j }) r ++ told_of c (suc j) rs

-- those of all callers, from the caller with this number on
abbrev pub all_told : ℕ → List (List Mark) → List (ℕ × (ℕ × Who))
all_told c [] = []
all_told c (rs ∷ rest) = told_of c 0 rs ++ all_told (suc c) rest

-- the call that stands where a result says is this step's, with what the step gives
pub record StandsGiven (s : ScriptData) (media : List (List Chunk)) (w : Recorded) (c j k p : ℕ) : Type 0 where
  pub call : Call
  pub stands : entry_in w k p ≡ Some (entry.Call (record { caller = c; step = j }) call)
  pub step : Step
  pub step_is : step_in s c j ≡ Some step
  pub given : HasArguments s media (variables_at s media w c j) c call step

-- Each result is one of its step; the call that it tells stands there, with what its step gives; and all callers' results tell the
-- calls that the codecs' histories have, each as often, in any order.
pub record CallersAnswer (s : ScriptData) (media : List (List Chunk)) (w : Recorded) : Type 0 where
  pub made : (c j : ℕ) (r : StepResult) → result_in w c j ≡ Some r → (x : Step) × (step_in s c j ≡ Some x) × IsResultOf s w (record { caller = c; step = j }) x r
  pub given : (c j k p : ℕ) (r : StepResult) → result_in w c j ≡ Some r → made_at r ≡ Some (k, p) → StandsGiven s media w c j k p
  pub calls : SameBag (all_named 0 w.codecs) (all_told 0 (marks_of w))
