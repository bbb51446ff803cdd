-- The line in which bytes part from a text.
use Rattle.std.proofs.Common.{ℕ, ◌≡◌, List}
use Rattle.std.specs.Prelude.{◌≢◌}
use Rattle.report_reader.specs.Fault.{feeds, line_of_difference}
use Rattle.report_check.specs.Verdict.{IsFirstLine}

-- the first line in which they differ
pub differs_first : (text bs : List ℕ) (n : ℕ) → text ≢ bs → n ≡ line_of_difference text bs → IsFirstLine text bs n
differs_first text bs n differs is = record { last = λ same. absurd (differs same); first = λ other. is }

-- the last line, where they are the same
pub same_last : (text bs : List ℕ) (n : ℕ) → text ≡ bs → n ≡ feeds bs → IsFirstLine text bs n
same_last text bs n same is = record { last = λ again. is; first = λ differs. absurd (differs same) }
