-- Intervals whose widths are powers of two.
use Rattle.std.proofs.Common.{ℕ, suc, ◌≡◌, ◌≤◌, ◌<◌, ◌^◌, ◌*◌, ◌+◌, ◌-◌, ◌/◌, inl, inr, lit<, arith}
use Rattle.std.proofs.Math.Nat.{pow-le-pow_right}
use Rattle.std.proofs.lemmas.Bool.{cases_lt}
use Rattle.codec_definitions.specs.G711.{exponent_of, mantissa_of}
use Rattle.g711.specs.Segments.{IsInSegment}

-- what a number's top bit and the four bits below it say
pub record IsSegmented (n e : ℕ) : Type 0 where
  pub low : 16 ≤ n / 2 ^ (e + 3)
  pub high : n / 2 ^ (e + 3) < 32
  pub segment : IsInSegment (exponent_of (e * 16 + (n / 2 ^ (e + 3) - 16))) (mantissa_of (e * 16 + (n / 2 ^ (e + 3) - 16))) n

pub segmented : (n e : ℕ) → e ≤ 7 → 2 ^ (e + 7) ≤ n → n < 2 * 2 ^ (e + 7) → IsSegmented n e
segmented n (suc (suc (suc (suc (suc (suc (suc (suc e)))))))) room low high = absurd (omega arith)
segmented n e room low high =
    let same : exponent_of (e * 16 + (n / 2 ^ (e + 3) - 16)) ≡ e = omega arith in
    record { low = omega arith; high = omega arith; segment = record { low = rw same (omega arith); high = rw same (omega arith) } }

-- the top bit of a number of 8 to 15 bits is that of its first eight, seven places higher
pub exponent_small : (n e : ℕ) → n < 2 ^ 15 → 2 ^ e ≤ n / 128 → e ≤ 7
exponent_small n e most low = elim (cases_lt e 8) [
  | inl less ↦ omega (arith, less)
  | inr more ↦ (let p : 2 ^ 8 ≤ 2 ^ e = pow-le-pow_right (lit< tt) more in absurd (omega (arith, p, low, most)))
]
