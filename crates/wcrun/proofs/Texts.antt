-- What is left of a report that was cut short.
use Rattle.std.proofs.Common.{◌≡◌, ℕ, List, Option, refl, arith}
use Rattle.wc_base.specs.{Causes.Rose, Told.appended, Told.AppendsPart}
use Rattle.wcrun.proofs.Parts.{nothing_yet}
use Rattle.wcrun.specs.{Refusals.memory_line, Headline.writing, Writing.WritesText}

-- the sink failed
pub text_failed : (old : Option (List ℕ)) (text : List ℕ) (new : Option (List ℕ)) (before now : ℕ) → AppendsPart old text new → Rose before now → WritesText text (writing old new before now 5)
text_failed old text new before now p rose = record {
  done = λ e. absurd (omega arith);
  memory = λ e. absurd (omega arith);
  failed = λ e. rose;
  part = λ e. (new, p, nothing_yet new memory_line);
  only = λ n0 n6. refl;
}

-- memory ran out, and its line was written
pub text_cut : (old : Option (List ℕ)) (text : List ℕ) (mid new : Option (List ℕ)) (before now : ℕ) → AppendsPart old text mid → new ≡ appended mid memory_line → WritesText text (writing old new before now 6)
text_cut old text mid new before now p told = record {
  done = λ e. absurd (omega arith);
  memory = λ e. (mid, p, told);
  failed = λ e. absurd (omega arith);
  part = λ e. absurd (omega arith);
  only = λ n0 n6. absurd (n6 refl);
}
