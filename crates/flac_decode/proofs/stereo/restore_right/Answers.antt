use Rattle.std.proofs.Common.{◌≡◌, ◌^◌, ◌≤◌, ◌<◌, ℤ, pos, true, false, inl, inr, length, get_or, arith, rules, ap, sym, ◌∙◌}
use Rattle.std.specs.Prelude.{◌-ℤ◌, bit_or, unsigned_abs}
use mir.Val.{to_z, of_z, SFits}
use mir.Syntax.{w64}
use Rattle.std.proofs.lemmas.Bool.{cases_lt}
use Rattle.std.proofs.lemmas.Int.{to_z-of_z}
use Rattle.flac_definitions.specs.Stereo.{right_of_side}
use Rattle.flac_definitions.specs.Prediction.{fits_depth}
use Rattle.flac_decode.proofs.ProductLaws.{fits_small}
use Rattle.flac_decode.proofs.RestoreLaws.{same_head}
use Rattle.flac_decode.proofs.StereoLaws.{so_far_next, so_far_bad, one_narrow, one_wide}
use Rattle.flac_decode.proofs.stereo.restore_right.Goals as goal

pub difference-right-requires-clause-b : goal.difference-right-requires-clause-b
difference-right-requires-clause-b c =
    let cur = c.loop-i.side in let i = c.loop-i.i in
    let same = same_head cur c.args.side.now i (omega (arith, c.loop-i.invariant.channel.size)) (omega arith) c.loop-i.invariant.channel.rest in
    let small : unsigned_abs (get_or cur i (pos 0)) ≤ 2 ^ 32 = omega (arith, ap unsigned_abs same, c.requires.side i) in
    omega (arith, ap unsigned_abs (to_z-of_z w64 (get_or cur i (pos 0)) (fits_small (get_or cur i (pos 0)) (omega arith))), small)

pub loop-i-preserved : goal.loop-i-preserved
loop-i-preserved c =
    let l = c.loop-i in
    let cur = l.side in let i = l.i in let d = c.args.depth in let v = c.difference-right.result in let a = c.lift-lifted.result in
    let x = get_or c.args.left.now i (pos 0) in let y = get_or cur i (pos 0) in
    let fx : SFits w64 x = search rules in
    let fy : SFits w64 y = search rules in
    let fv : SFits w64 v = search rules in
    let value : v ≡ right_of_side x y = c.difference-right.ensures.difference ∙ ap (λ (z : ℤ). z -ℤ to_z w64 (of_z w64 y)) (to_z-of_z w64 x fx) ∙ ap (λ (z : ℤ). x -ℤ z) (to_z-of_z w64 y fy) in
    let there : i < length c.args.side.now = c.loop-i-test.true in
    let other : i < length c.args.left.now = omega (arith, c.requires.same, there) in
    let good : a < 2 ^ d → fits_depth d v ≡ true = λ h. ap (λ (z : ℤ). fits_depth d z) (sym (to_z-of_z w64 v fv)) ∙ c.lift-lifted.ensures.fits h in
    let small : a < 2 ^ d → unsigned_abs v ≤ 2 ^ 32 = λ h. omega (arith, ap unsigned_abs (to_z-of_z w64 v fv), c.lift-lifted.ensures.small h) in
    let bad : 2 ^ d ≤ a → fits_depth d v ≡ false = λ h. ap (λ (z : ℤ). fits_depth d z) (sym (to_z-of_z w64 v fv)) ∙ c.lift-lifted.ensures.bad h in
    let narrow = one_narrow d l.lifted a in
    record {
      channel = rw (to_z-of_z w64 v fv) (so_far_next right_of_side d i c.args.left.now c.args.side.now cur v l.lifted (bit_or l.lifted a) other there l.invariant.channel value (λ h. (narrow h).0) (λ h. good (narrow h).1) (λ h. small (narrow h).1));
      bad = λ h. elim (cases_lt l.lifted (2 ^ d)) [
        | inr g ↦ l.invariant.bad g
        | inl n ↦ so_far_bad right_of_side d i c.args.left.now c.args.side.now cur v l.lifted other there l.invariant.channel value n (bad (one_wide d l.lifted a h n))
      ];
    }
