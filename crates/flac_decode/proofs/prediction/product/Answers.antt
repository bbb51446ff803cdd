use Rattle.std.proofs.Common.{◌≡◌, ◌^◌, ◌≤◌, ℤ, arith, ap, ◌∙◌}
use Rattle.std.specs.Prelude.{◌*ℤ◌, unsigned_abs}
use Rattle.std.proofs.lemmas.Int.{to_z-of_z, fits_signed_mul, unsigned_abs-mul}
use Rattle.std.proofs.lemmas.Nat.{mul-le}
use mir.Val.{to_z, of_z, SFits}
use mir.Syntax.{w64}
use Rattle.flac_decode.proofs.prediction.product.Goals as goal

pub same : (a b : ℤ) → SFits w64 a → SFits w64 b → unsigned_abs a ≤ 2 ^ 14 → unsigned_abs b ≤ 2 ^ 32 → to_z w64 (of_z w64 (to_z w64 (of_z w64 a) *ℤ to_z w64 (of_z w64 b))) ≡ a *ℤ b
same a b fa fb h k =
    ap (λ (x : ℤ). to_z w64 (of_z w64 (x *ℤ to_z w64 (of_z w64 b)))) (to_z-of_z w64 a fa)
    ∙ ap (λ (x : ℤ). to_z w64 (of_z w64 (a *ℤ x))) (to_z-of_z w64 b fb)
    ∙ to_z-of_z w64 (a *ℤ b) (fits_signed_mul w64 a b (2 ^ 14) (2 ^ 32) h k (omega arith))

pub returns-clause-product : goal.returns-clause-product
returns-clause-product c = same c.args.coefficient c.args.sample c.ranges.coefficient c.ranges.sample c.requires.coefficient c.requires.sample

pub returns-clause-small : goal.returns-clause-small
returns-clause-small c =
    let e = ap unsigned_abs (same c.args.coefficient c.args.sample c.ranges.coefficient c.ranges.sample c.requires.coefficient c.requires.sample) ∙ unsigned_abs-mul c.args.coefficient c.args.sample in
    omega (arith, e, mul-le (unsigned_abs c.args.coefficient) (unsigned_abs c.args.sample) (2 ^ 14) (2 ^ 32) c.requires.coefficient c.requires.sample)
