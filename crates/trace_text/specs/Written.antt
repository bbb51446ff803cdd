-- What is known of a sink after a text was written to it, or a beginning of the text.
use Rattle.std.specs.Prelude.{ℕ, ◌≡◌, ◌≤◌, List, Option, Result, OnOk, IsErrOf}
use Rattle.wc_base.specs.Causes.{Rose}
use Rattle.wc_base.specs.Told.{appended, AppendsPart}
use Rattle.trace_text.specs.declared.report.WriteFault.{WriteFault}
use Rattle.trace_text.specs.declared.report.WriteFault.TheVariants as fault

-- What the sink tells, and its count of faults, before and after: the text was appended, or after a fault a beginning of
-- it. The count does not fall, and the sink failed only where it rose.
pub record Writes {T : Type 0} (result : Result T WriteFault) (text : List ℕ) (old new : Option (List ℕ)) (before now : ℕ) : Type 0 where
  pub ok : OnOk result (new ≡ appended old text)
  pub part : AppendsPart old text new
  pub later : before ≤ now
  pub failed : IsErrOf result fault.Failed → Rose before now
