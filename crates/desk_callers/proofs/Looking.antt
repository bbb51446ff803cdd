-- What steps that look at promises know of their flushes.
use Rattle.std.proofs.Common.{ℕ, ◌≡◌, ◌<◌, List, Option, Some, sym, subst, ◌∙◌}
use Rattle.wc_base.specs.Options.{some_same}
use Rattle.wc_base.specs.declared.error.DomError.{DomError}
use Rattle.report_text.specs.declared.result.StepResult.{StepResult}
use Rattle.script_types.specs.declared.steps.Variable.{Variable}
use Rattle.desk_callers.specs.Acts.{HasFlushed, IsFlushed, IsPromised}

pub flushed : (n : ℕ) (rs : List StepResult) (promise : Variable) → IsPromised n rs (Some promise) → IsFlushed rs promise.step
flushed n rs promise x = (x.0, x.1, x.3)

same_codec : (k p j q : ℕ) (e f : Option DomError) → StepResult.Call k p e ≡ StepResult.Call j q f → k ≡ j
same_codec k p j q e f is = cc

-- the codec of a promised flush is one of so many
pub flushed_within : (n : ℕ) (rs : List StepResult) (promise : Variable) (k p : ℕ) → IsPromised n rs (Some promise) → HasFlushed rs promise.step k p → k < n
flushed_within n rs promise k p x flush =
    subst (λ (j : ℕ). j < n) (same_codec x.0 x.1 k p x.3.0 flush.0 (some_same (StepResult.Call x.0 x.1 x.3.0) (StepResult.Call k p flush.0) (sym x.3.1 ∙ flush.1))) x.2
