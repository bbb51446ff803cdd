-- A verdict on the report for which the words ask.
use Rattle.std.specs.Prelude.{ℕ, ◌≡◌, List}
use Rattle.wc_config.specs.declared.codec.CoderId.{CoderId}
use Rattle.report_check.specs.Verdict.{IsRight, IsLineAtFault, IfWrong}
use Rattle.report_check.specs.declared.verdict.Verdict.{Verdict}
use Rattle.report_check.specs.declared.verdict.Verdict.TheVariants as verdict
use Rattle.wcrun.specs.Headline.{Reading, HoldBytesIn, IsAsked}
use Rattle.wcrun.specs.Outcome.{Ready}

-- The verdict is that on the report, by its script and the chunks of its chunk files: right exactly where it is the report of a legal run
-- that fits and follows the order, as far as files hold bytes; else with the line at fault.
pub record IsJudgedAs (r : Reading) (made : List CoderId) (v : Verdict) : Type 0 where
  pub ready : Ready
  pub report : List ℕ
  pub asked : IsAsked r ready report
  pub right : v ≡ verdict.Right → IsRight ready.script ready.media made report
  pub only : HoldBytesIn r → IsRight ready.script ready.media made report → v ≡ verdict.Right
  pub line : IfWrong v (IsLineAtFault ready.script ready.media made report)
