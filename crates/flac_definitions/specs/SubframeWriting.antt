-- How a subframe is written (RFC 9639, section 9.2): a 0, its type in 6 bits, and no wasted bits; then its body.
use Rattle.std.specs.Prelude.{ℕ, ℤ, pos, negsuc, neg_ℤ, ◌<◌, ◌≤ℤ◌, ◌<ℤ◌, ◌+◌, ◌-◌, ◌*◌, ◌^◌, Bool, List, ◌++◌, length, take}
use Rattle.std.specs.List.{flat_map}
use Rattle.flac_definitions.specs.Bits.{bits_of}
use Rattle.flac_definitions.specs.Plans.{plan_parameters}
use Rattle.flac_definitions.specs.ResidualWriting.{residual_bits}
use Rattle.flac_definitions.specs.FixedPredictors.{at, folded_residual}
use Rattle.flac_definitions.specs.declared.candidate.Candidate.{Candidate}
use Rattle.flac_definitions.specs.declared.candidate.Candidate.TheVariants.{Constant, Verbatim, Fixed}

-- a sample of so many bits as a number, in two's complement
abbrev pub twos_complement : ℕ → ℤ → ℕ
twos_complement depth (pos n) = n
twos_complement depth (negsuc n) = 2 ^ depth - 1 - n

abbrev pub sample_bits : ℕ → ℤ → List Bool
sample_bits depth v = bits_of depth (twos_complement depth v)

-- samples that have so many bits
pub record HasDepth (depth : ℕ) (v : ℤ) : Type 0 where
  pub low : neg_ℤ (pos (2 ^ (depth - 1))) ≤ℤ v
  pub high : v <ℤ pos (2 ^ (depth - 1))

abbrev pub HaveDepth : ℕ → List ℤ → Type 0
HaveDepth depth xs = (j : ℕ) → j < length xs → HasDepth depth (at xs j)

abbrev pub subframe_bits : ℕ → List ℤ → Candidate → List Bool
subframe_bits depth xs Constant = bits_of 8 0 ++ sample_bits depth (at xs 0)
subframe_bits depth xs Verbatim = bits_of 8 2 ++ flat_map (sample_bits depth) xs
subframe_bits depth xs (Fixed order p) =
    let zs = folded_residual order xs in
    (bits_of 8 (16 + 2 * order) ++ flat_map (sample_bits depth) (take order xs))
    ++ residual_bits (length xs) order zs p (plan_parameters (length xs) order zs p)
