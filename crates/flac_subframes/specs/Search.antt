-- What the search for the first candidate of least length goes by.
use Rattle.std.specs.Prelude.{ℕ, ℤ, pos, neg_ℤ, ◌<◌, ◌+◌, ◌-◌, ◌-ℤ◌, ◌≤ℤ◌, List, length, map, if◌then◌else◌}
use Rattle.std.specs.List.{range_with_len}
use Rattle.flac_definitions.specs.Plans.{best_partition}
use Rattle.flac_definitions.specs.FixedPredictors.{at, folded_residual}
use Rattle.flac_definitions.specs.Candidates.{is_constant}
use Rattle.flac_definitions.specs.declared.candidate.Candidate.{Candidate}
use Rattle.flac_definitions.specs.declared.candidate.Candidate.TheVariants.{Constant, Verbatim, Fixed}

-- each is at most `m`, above and below 0
pub record IsWithin (m : ℕ) (v : ℤ) : Type 0 where
  pub low : neg_ℤ (pos m) ≤ℤ v
  pub high : v ≤ℤ pos m

abbrev pub AreWithin : ℕ → List ℤ → Type 0
AreWithin m xs = (j : ℕ) → j < length xs → IsWithin m (at xs j)

abbrev pub differences : List ℤ → List ℤ
differences xs = map (λ j. at xs (j + 1) -ℤ at xs j) (range_with_len 0 (length xs - 1))

-- constant where that can be, and verbatim where not
abbrev pub plain_candidate : List ℤ → Candidate
plain_candidate xs = if is_constant xs then Constant else Verbatim

-- the first candidate of least length of one order
abbrev pub best_of_order : ℕ → List ℤ → ℕ → Candidate
best_of_order most xs order = Fixed order (best_partition (length xs) order most (folded_residual order xs))
