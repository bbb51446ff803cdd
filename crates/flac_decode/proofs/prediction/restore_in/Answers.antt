use Rattle.std.proofs.lemmas.Grind.{get_or-set_at}
use Rattle.std.proofs.Common.{◌≡◌, ◌+◌, ◌-◌, ◌^◌, ◌<◌, ◌≤◌, ℕ, ℤ, pos, true, false, List, length, take, get_or, reverse, set, arith, rules, ap, sym, ◌∙◌, length-set}
use Rattle.std.specs.Prelude.{◌+ℤ◌, unsigned_abs}
use Rattle.std.specs.Int.{int_shr}
use Rattle.std.proofs.lemmas.Int.{to_z-of_z}
use Rattle.std.proofs.lemmas.List.{take-set-le, get_or-set_other}
use mir.Val.{to_z, of_z, SFits}
use mir.Syntax.{w64, w32}
use Rattle.flac_definitions.specs.Prediction.{sum_of_products, prediction, fits_depth}
use Rattle.flac_decode.proofs.ProductLaws.{fits_small}
use Rattle.flac_decode.proofs.RestoreLaws.{restore_next, restore_fails, small_more}
use Rattle.flac_decode.proofs.prediction.restore_in.Goals as goal

sample_is : (cs past : List ℤ) (shift : ℕ) (sum r s : ℤ) → sum ≡ sum_of_products cs past → unsigned_abs sum ≤ 2 ^ 51 → SFits w32 r → s ≡ int_shr (to_z w64 (of_z w64 sum)) shift +ℤ to_z w32 (of_z w32 r) → s ≡ prediction cs shift past +ℤ r
sample_is cs past shift sum r s e small f h =
    h ∙ ap (λ (x : ℤ). int_shr x shift +ℤ to_z w32 (of_z w32 r)) (to_z-of_z w64 sum (fits_small sum (omega arith)) ∙ e) ∙ ap (λ (x : ℤ). prediction cs shift past +ℤ x) (to_z-of_z w32 r f)

pub returns-then-lift-wide-clause-samples : goal.returns-then-lift-wide-clause-samples
returns-then-lift-wide-clause-samples g c =
    let n = g.row.N in let cs = c.args.coefficients.now in let samples = c.loop-i.samples in let i = c.loop-i.i in let residual = c.args.residual.now in
    let s = c.sample_of-sample.result in
    let r = get_or residual (i - n) (pos 0) in
    let fr : SFits w32 r = search rules in
    let fs : SFits w64 s = search rules in
    let is = sample_is cs (reverse (take i samples)) c.args.shift c.sum_of_products-sum.result r s c.sum_of_products-sum.ensures.sum c.sum_of_products-sum.ensures.small fr c.sample_of-sample.ensures.sample in
    let bad : fits_depth c.args.depth s ≡ false = ap (λ (x : ℤ). fits_depth c.args.depth x) (sym (to_z-of_z w64 s fs)) ∙ c.lift.ensures.bad (omega (arith, c.pow-wide.ensures, c.if-lift-wide.true)) in
    sym c.loop-i.invariant.read ∙ restore_fails cs c.args.shift c.args.depth n i samples residual s (omega arith) (omega (arith, c.requires.residual, c.loop-i.invariant.size)) is bad

pub loop-i-preserved : goal.loop-i-preserved
loop-i-preserved g c =
    let n = g.row.N in let cs = c.args.coefficients.now in let samples = c.loop-i.samples in let i = c.loop-i.i in let residual = c.args.residual.now in
    let s = c.sample_of-sample.result in
    let r = get_or residual (i - n) (pos 0) in
    let fr : SFits w32 r = search rules in
    let fs : SFits w64 s = search rules in
    let back = to_z-of_z w64 s fs in
    let is = sample_is cs (reverse (take i samples)) c.args.shift c.sum_of_products-sum.result r s c.sum_of_products-sum.ensures.sum c.sum_of_products-sum.ensures.small fr c.sample_of-sample.ensures.sample in
    let low : c.lift.result < 2 ^ c.args.depth = omega (arith, c.pow-wide.ensures, c.if-lift-wide.false) in
    let good : fits_depth c.args.depth s ≡ true = ap (λ (x : ℤ). fits_depth c.args.depth x) (sym back) ∙ c.lift.ensures.fits low in
    let hs : unsigned_abs s ≤ 2 ^ 32 = omega (arith, ap unsigned_abs back, c.lift.ensures.small low) in
    let hn : unsigned_abs s ≤ 2 ^ (c.args.depth - 1) = omega (arith, ap unsigned_abs back, c.lift.ensures.narrow low) in
    let there : i < length samples = omega (arith, c.loop-i.invariant.size) in
    record {
      size = length-set samples i (to_z w64 (of_z w64 s)) ∙ c.loop-i.invariant.size;
      kept = take-set-le n samples i (to_z w64 (of_z w64 s)) (omega arith) ∙ c.loop-i.invariant.kept;
      last = λ some. sym (get_or-set_at samples i (i + 1 - 1) (to_z w64 (of_z w64 s)) (pos 0) (omega arith) there);
      before = λ some.
          c.loop-i.invariant.last (omega arith)
          ∙ sym (get_or-set_other samples i (i - 1) (to_z w64 (of_z w64 s)) (pos 0) (λ e. omega (arith, e)))
          ∙ ap (λ k. get_or (set samples i (to_z w64 (of_z w64 s))) k (pos 0)) (let q : i - 1 ≡ i + 1 - 2 = omega arith in q);
      narrow = rw back (small_more (c.args.depth - 1) samples i s there c.loop-i.invariant.narrow hn);
      small = rw back (small_more 32 samples i s there c.loop-i.invariant.small hs);
      read = rw back (restore_next cs c.args.shift c.args.depth n i samples residual s (omega arith) there (omega (arith, c.requires.residual, c.loop-i.invariant.size)) is good ∙ c.loop-i.invariant.read);
    }
