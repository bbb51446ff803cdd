-- What bounds of an order's length go by: sums over the finest parts.
use Rattle.std.specs.Prelude.{ℕ, ℤ, ◌≡◌, ◌≤◌, ◌+◌, ◌*◌, ◌/◌, ◌^◌, true, List, sum_by, slice_index}
use Rattle.std.specs.List.{range_with_len}
use Rattle.flac_definitions.specs.ResidualSpelling.{folded_value}
use Rattle.flac_definitions.specs.Plans.{fits, finest}
use Rattle.flac_definitions.specs.FixedPredictors.{residual_at, folded_residual}
use Rattle.flac_definitions.specs.Candidates.{candidate_bits}
use Rattle.flac_plans.specs.Search.{leasts}
use Rattle.flac_subframes.specs.Search.{best_of_order}
use Rattle.flac_subframes.specs.declared.leasts.Parts.{Parts}
use Rattle.flac_subframes.specs.declared.leasts.Sums.{Sums}

-- the residuals of an order without signs, twice and with one more each, over so many samples from one on
abbrev pub sizes_in : ℕ → List ℤ → ℕ → ℕ → ℕ
sizes_in order xs from n = sum_by (λ i. folded_value (residual_at order xs i) + 1) (range_with_len from n)

-- the finest parts of so many samples at partition orders up to `most`, for any predictor's order
pub record IsCut (count most : ℕ) (parts : Parts) : Type 0 where
  pub partition : ℕ
  pub size : parts.size ≡ count / 2 ^ partition
  pub number : parts.count ≡ 2 ^ partition
  pub few : partition ≤ most
  pub fitting : fits count 4 partition ≡ true
  pub finest : (order : ℕ) → order ≤ 4 → finest count order most ≤ partition

-- a number that the first parts' bits do not go below
pub record IsLeast (xs : List ℤ) (size order parts sum : ℕ) : Type 0 where
  pub below : sum ≤ leasts size order (folded_residual order xs) parts
  pub small : sum ≤ parts * 2 ^ 49

pub record AreLeasts (xs : List ℤ) (size parts : ℕ) (sums : Sums) : Type 0 where
  pub none : IsLeast xs size 0 parts sums.none
  pub one : IsLeast xs size 1 parts sums.one
  pub two : IsLeast xs size 2 parts sums.two
  pub three : IsLeast xs size 3 parts sums.three
  pub four : IsLeast xs size 4 parts sums.four

-- a length for each order, below which its best candidate is not
abbrev pub AreLengths : ℕ → ℕ → List ℤ → List ℕ → Type 0
AreLengths depth most xs lengths = (order : ℕ) → order ≤ 4 → slice_index lengths order ≤ candidate_bits depth xs (best_of_order most xs order)
