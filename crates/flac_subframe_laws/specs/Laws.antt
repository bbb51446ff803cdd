-- What is written of a subframe, read again (RFC 9639, section 9.2).
use Rattle.std.specs.Prelude.{ℕ, ℤ, ◌≡◌, ◌<◌, ◌≤◌, true, List, length, Some}
use Rattle.std.specs.List.{AllByRecursion}
use Rattle.flac_definitions.specs.Bits.{Place, Begins, forward}
use Rattle.flac_definitions.specs.Subframe.{subframe_at}
use Rattle.flac_definitions.specs.SubframeSpelling.{IsSubframe}
use Rattle.flac_definitions.specs.Plans.{fits}
use Rattle.flac_definitions.specs.FixedPredictors.{residuals, are_in_range}
use Rattle.flac_definitions.specs.SubframeWriting.{HaveDepth, subframe_bits}
use Rattle.flac_definitions.specs.Candidates.{is_constant, candidates, best_candidate}
use Rattle.flac_definitions.specs.declared.candidate.Candidate.{Candidate}
use Rattle.flac_definitions.specs.declared.candidate.Candidate.TheVariants.{Constant, Verbatim, Fixed}

-- a candidate for a subframe of these samples
abbrev pub IsCandidate : List ℤ → Candidate → Type 0
IsCandidate xs Constant = is_constant xs ≡ true
IsCandidate xs Verbatim = Unit {0}
IsCandidate xs (Fixed order p) = (order ≤ 4) × (p ≤ 15) × (fits (length xs) order p ≡ true) × (are_in_range (residuals order xs) ≡ true)

-- samples that can be written at a depth with a candidate
pub record IsWritable (depth : ℕ) (xs : List ℤ) (c : Candidate) : Type 0 where
  pub depth_some : 1 ≤ depth
  pub samples_some : 0 < length xs
  pub samples : HaveDepth depth xs
  pub candidate : IsCandidate xs c

pub record WrittenSubframesAreRead : Type 0 where
  pub spelled : (depth : ℕ) (xs : List ℤ) (c : Candidate) → IsWritable depth xs c → IsSubframe depth (length xs) xs (subframe_bits depth xs c)
  pub read : (depth : ℕ) (xs : List ℤ) (c : Candidate) (q : Place) → IsWritable depth xs c → Begins q (subframe_bits depth xs c)
      → subframe_at depth (length xs) q ≡ Some (xs, forward (length (subframe_bits depth xs c)) q)
  pub listed : (level : ℕ) (xs : List ℤ) → AllByRecursion (IsCandidate xs) (candidates level xs)
  pub best : (depth level : ℕ) (xs : List ℤ) → IsCandidate xs (best_candidate depth level xs)
