use Rattle.std.proofs.Common.{◌≡◌, ◌^◌, ◌≤◌, ◌<◌, ℤ, pos, true, false, List, Option, inl, inr, length, get_or, arith, ap, sym, ◌∙◌}
use Rattle.std.specs.Prelude.{bit_or, unsigned_abs}
use Rattle.std.proofs.lemmas.Bool.{cases_lt}
use Rattle.flac_decode.proofs.RestoreLaws.{same_head}
use mir.Val.{SFits}
use mir.Syntax.{w64}
use Rattle.std.proofs.lemmas.Int.{to_z-of_z}
use Rattle.flac_definitions.specs.Stereo.{left_of_mid, right_of_mid, channel_by, channel_pair}
use Rattle.flac_definitions.specs.Prediction.{fits_depth}
use Rattle.flac_decode.proofs.FrameLaws.{small_here, small_plain, plain_value, pair_none}
use Rattle.flac_decode.proofs.StereoLaws.{so_far_next, so_far_bad, union_narrow, union_wide}
use Rattle.flac_decode.proofs.stereo.restore_both.Goals as goal

pub right_of_mid-right-requires-clause-mid : goal.right_of_mid-right-requires-clause-mid
right_of_mid-right-requires-clause-mid c =
    let l = c.loop-i in
    small_plain (get_or l.mid l.i (pos 0)) (small_here l.mid c.args.mid.now l.i (omega (arith, l.invariant.left.size, c.requires.same, c.loop-i-test.true)) (omega (arith, c.requires.same, c.loop-i-test.true)) l.invariant.left.rest c.requires.mid)

pub right_of_mid-right-requires-clause-side : goal.right_of_mid-right-requires-clause-side
right_of_mid-right-requires-clause-side c =
    let l = c.loop-i in
    small_plain (get_or l.side l.i (pos 0)) (small_here l.side c.args.side.now l.i (omega (arith, l.invariant.right.size, c.loop-i-test.true)) (omega (arith, c.loop-i-test.true)) l.invariant.right.rest c.requires.side)

pub left_of_mid-left-requires-clause-mid : goal.left_of_mid-left-requires-clause-mid
left_of_mid-left-requires-clause-mid c =
    let l = c.loop-i in
    small_plain (get_or l.mid l.i (pos 0)) (small_here l.mid c.args.mid.now l.i (omega (arith, l.invariant.left.size, c.requires.same, c.loop-i-test.true)) (omega (arith, c.requires.same, c.loop-i-test.true)) l.invariant.left.rest c.requires.mid)

pub left_of_mid-left-requires-clause-side : goal.left_of_mid-left-requires-clause-side
left_of_mid-left-requires-clause-side c =
    let l = c.loop-i in
    small_plain (get_or l.side l.i (pos 0)) (small_here l.side c.args.side.now l.i (omega (arith, l.invariant.right.size, c.loop-i-test.true)) (omega (arith, c.loop-i-test.true)) l.invariant.right.rest c.requires.side)

pub loop-i-preserved : goal.loop-i-preserved
loop-i-preserved c =
    let l = c.loop-i in
    let mid = l.mid in let side = l.side in let i = l.i in let d = c.args.depth in let v = c.left_of_mid-left.result in let w = c.right_of_mid-right.result in
    let mid0 = c.args.mid.now in let side0 = c.args.side.now in
    let m = get_or mid i (pos 0) in let s = get_or side i (pos 0) in
    let hm0 : i < length mid0 = omega (arith, c.requires.same, c.loop-i-test.true) in
    let hs0 : i < length side0 = c.loop-i-test.true in
    let hm : i < length mid = omega (arith, l.invariant.left.size, hm0) in
    let hs : i < length side = omega (arith, l.invariant.right.size, hs0) in
    let bm = small_here mid mid0 i hm hm0 l.invariant.left.rest c.requires.mid in
    let bs = small_here side side0 i hs hs0 l.invariant.right.rest c.requires.side in
    let em = same_head mid mid0 i hm hm0 l.invariant.left.rest in
    let es = same_head side side0 i hs hs0 l.invariant.right.rest in
    let fv : SFits w64 v = record { sfits = c.left_of_mid-left.type_inv } in
    let fw : SFits w64 w = record { sfits = c.right_of_mid-right.type_inv } in
    let lv = plain_value left_of_mid v s m bs bm c.left_of_mid-left.ensures.left ∙ ap (λ (z : ℤ). left_of_mid z m) es in
    let rv = plain_value right_of_mid w m s bm bs c.right_of_mid-right.ensures.right ∙ ap (λ (z : ℤ). right_of_mid z s) em in
    let a = c.lift.result in let b = c.lift-in-loop-i.result in
    let lg : a < 2 ^ d → fits_depth d v ≡ true = λ h. ap (λ (z : ℤ). fits_depth d z) (sym (to_z-of_z w64 v fv)) ∙ c.lift.ensures.fits h in
    let rg : b < 2 ^ d → fits_depth d w ≡ true = λ h. ap (λ (z : ℤ). fits_depth d z) (sym (to_z-of_z w64 w fw)) ∙ c.lift-in-loop-i.ensures.fits h in
    let ls : a < 2 ^ d → unsigned_abs v ≤ 2 ^ 32 = λ h. omega (arith, ap unsigned_abs (to_z-of_z w64 v fv), c.lift.ensures.small h) in
    let rs : b < 2 ^ d → unsigned_abs w ≤ 2 ^ 32 = λ h. omega (arith, ap unsigned_abs (to_z-of_z w64 w fw), c.lift-in-loop-i.ensures.small h) in
    let lb : 2 ^ d ≤ a → fits_depth d v ≡ false = λ h. ap (λ (z : ℤ). fits_depth d z) (sym (to_z-of_z w64 v fv)) ∙ c.lift.ensures.bad h in
    let rb : 2 ^ d ≤ b → fits_depth d w ≡ false = λ h. ap (λ (z : ℤ). fits_depth d z) (sym (to_z-of_z w64 w fw)) ∙ c.lift-in-loop-i.ensures.bad h in
    let narrow = union_narrow d l.lifted a b in
    let lefts = channel_by left_of_mid d side0 mid0 in
    let rights = channel_by right_of_mid d mid0 side0 in
    record {
      left = rw (to_z-of_z w64 v fv) (so_far_next left_of_mid d i side0 mid0 mid v l.lifted (bit_or l.lifted (bit_or a b)) hs0 hm0 l.invariant.left lv (λ h. (narrow h).0) (λ h. lg (narrow h).1) (λ h. ls (narrow h).1));
      right = rw (to_z-of_z w64 w fw) (so_far_next right_of_mid d i mid0 side0 side w l.lifted (bit_or l.lifted (bit_or a b)) hm0 hs0 l.invariant.right rv (λ h. (narrow h).0) (λ h. rg (narrow h).2) (λ h. rs (narrow h).2));
      bad = λ h. elim (cases_lt l.lifted (2 ^ d)) [
        | inr g ↦ l.invariant.bad g
        | inl n ↦ elim (union_wide d l.lifted a b h) [
          | inl g ↦ absurd (omega (arith, g, n))
          | inr (inl g) ↦ ap (λ (o : Option (List ℤ)). channel_pair o rights) (so_far_bad left_of_mid d i side0 mid0 mid v l.lifted hs0 hm0 l.invariant.left lv n (lb g))
          | inr (inr g) ↦ ap (λ (o : Option (List ℤ)). channel_pair lefts o) (so_far_bad right_of_mid d i mid0 side0 side w l.lifted hm0 hs0 l.invariant.right rv n (rb g)) ∙ pair_none lefts
        ]
      ];
    }
