-- What the last step of a call writes.
use Rattle.std.specs.Prelude.{ℕ, ◌≡◌, ◌≢◌, ◌⊎◌, List, Option}
use Rattle.wc_base.specs.Causes.{Rose}
use Rattle.wc_base.specs.Told.{appended, AppendsPart}
use Rattle.wcrun.specs.Headline.{Writing}
use Rattle.wcrun.specs.Refusals.{memory_line}

-- The text and status 0; or a beginning of it, the line for want of memory, and status 6; or a beginning of one of these,
-- and status 5.
pub record WritesText (text : List ℕ) (w : Writing) : Type 0 where
  pub done : w.answer ≡ 0 → w.after ≡ appended w.before text
  pub memory : w.answer ≡ 6 → (mid : Option (List ℕ)) × AppendsPart w.before text mid × (w.after ≡ appended mid memory_line)
  pub failed : w.answer ≡ 5 → Rose w.faults_before w.faults_after
  pub part : w.answer ≡ 5 → (mid : Option (List ℕ)) × AppendsPart w.before text mid × AppendsPart mid memory_line w.after
  pub only : w.answer ≢ 0 → w.answer ≢ 6 → w.answer ≡ 5

-- The line and its status; or the line for want of memory, and status 6; or a beginning of one of these, and status 5.
pub record WritesLine (status : ℕ) (line : List ℕ) (w : Writing) : Type 0 where
  pub done : w.answer ≢ 5 → w.answer ≢ 6 → w.answer ≡ status
  pub whole : w.answer ≢ 5 → w.answer ≢ 6 → w.after ≡ appended w.before line
  pub memory : w.answer ≡ 6 → w.after ≡ appended w.before memory_line
  pub failed : w.answer ≡ 5 → Rose w.faults_before w.faults_after
  pub part : w.answer ≡ 5 → AppendsPart w.before line w.after ⊎ AppendsPart w.before memory_line w.after
