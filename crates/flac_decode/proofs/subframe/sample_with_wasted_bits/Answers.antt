use Rattle.std.proofs.Common.{◌≡◌, ℤ, arith, ap, ◌∙◌, ◌≤◌, ◌^◌}
use Rattle.std.specs.Prelude.{unsigned_abs}
use Rattle.std.proofs.lemmas.Int.{to_z-of_z}
use mir.Val.{to_z, of_z, SFits}
use mir.Syntax.{w64}
use Rattle.flac_decode.proofs.ProductLaws.{scaled_value, fits_small}
use Rattle.flac_decode.proofs.subframe.sample_with_wasted_bits.Goals as goal

along : (a b : ℤ) → a ≡ b → unsigned_abs b ≤ 2 ^ 32 → (SFits w64 a) × (to_z w64 (of_z w64 a) ≡ b)
along a b e h = let f : SFits w64 a = fits_small a (omega (arith, ap unsigned_abs e)) in (f, to_z-of_z w64 a f ∙ e)

pub overflow_mul-result : goal.overflow_mul-result
overflow_mul-result c =
    let v = scaled_value c.args.sample c.args.wasted c.args.depth c.ranges.sample c.requires.some c.requires.depth c.requires.narrow in (along _ _ v.0 v.2).0

pub returns-clause-sample : goal.returns-clause-sample
returns-clause-sample c =
    let v = scaled_value c.args.sample c.args.wasted c.args.depth c.ranges.sample c.requires.some c.requires.depth c.requires.narrow in (along _ _ v.0 v.2).1

pub returns-clause-narrow : goal.returns-clause-narrow
returns-clause-narrow c =
    let v = scaled_value c.args.sample c.args.wasted c.args.depth c.ranges.sample c.requires.some c.requires.depth c.requires.narrow in
    omega (arith, ap unsigned_abs (along _ _ v.0 v.2).1, v.1)
