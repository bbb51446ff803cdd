-- How a run of threads ends: all is done (our choice).
use Rattle.std.specs.Prelude.{ℕ, ◌≡◌, ◌≢◌, ◌<◌, [], length, Some, None}
use Rattle.wc_base.specs.Views.{Log}
use Rattle.codec_model.specs.declared.entry.Opening.{Opening}
use Rattle.codec_model.specs.declared.entry.PromiseState.{PromiseState}
use Rattle.codec_model.specs.declared.entry.PromiseState.TheVariants as promise
use Rattle.codec_model.specs.Control.{Control, start_item}
use Rattle.codec_accounts.specs.Codec.{state_after}
use Rattle.codec_accounts.specs.Owed.{at}
use Rattle.codec_logs.specs.declared.event.Event.{Event}
use Rattle.codec_logs.specs.Logs.{track}
use Rattle.script_types.specs.declared.script.ScriptData.{ScriptData}
use Rattle.script_types.specs.declared.steps.Variable.{Variable}
use Rattle.script_types.specs.declared.steps.Step.TheVariants as step
use Rattle.report_text.specs.declared.result.StepResult.TheVariants as result
use Rattle.run_model.specs.Recorded.{Recorded, opening_at, steps_of}
use Rattle.run_model.specs.Fits.{step_in, result_in}
use Rattle.run_laws.specs.Reclaims.{HasFewReclaims}

-- no item of a codec is at work, none may start, and no event task is queued
pub record IsAtRest (c : Control) : Type 0 where
  pub running : c.running ≡ None
  pub item : start_item c ≡ None
  pub tasks : c.tasks ≡ []

-- by this log its codec is at rest
abbrev pub LogRests : Opening → Log Event → Type 0
LogRests o log = IsAtRest (track o log).state.control

-- Each caller made all its steps, none of its awaits was left pending, each codec is at rest, and there are at most as many reclaims
-- as starts whose first acquire was refused.
pub record EndsQuiet (s : ScriptData) (w : Recorded) : Type 0 where
  pub made : (c : ℕ) → length (at c w.callers) ≡ length (steps_of s c)
  pub awaits : (c j k n : ℕ) (on : Variable) (end : PromiseState) → step_in s c j ≡ Some (step.Await on) → result_in w c j ≡ Some (result.Look k n end) → end ≢ promise.Pending
  pub codecs : (k : ℕ) → k < length w.codecs → IsAtRest (state_after (opening_at s k) (at k w.codecs)).control
  pub reclaims : HasFewReclaims w.slots w.codecs
