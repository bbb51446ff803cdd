use Rattle.std.proofs.Common.{ℕ, pos, ◌<◌, ◌≤◌, ◌+◌, ◌*◌, ◌/◌, length, sym, subst, arith}
use Rattle.std.proofs.Math.Nat.{mul-le-mul_left, div-add-mod}
use Rattle.std.proofs.lemmas.List.FromFn.{fill_by_all}
use Rattle.flac_definitions.specs.FixedPredictors.{at}
use Rattle.flac_definitions.specs.SubframeWriting.{HasDepth}
use Rattle.flac_encode.proofs.block.fill_each.Goals as goal

pub returns : goal.returns
returns c =
    let a = c.args in
    let v = c.loop-i.invariant in
    let frames = length a.values.now / a.channels in
    let split = div-add-mod (length a.values.now) a.channels in
    record {
      value = fill_by_all (λ (i : ℕ). at a.values.now (i * a.channels + a.channel)) c.loop-i.out frames (pos 0) v.count (λ k l. v.values k (omega (arith, l, v.count)));
      fit = λ j l.
          let up : a.channels * (j + 1) ≤ a.channels * frames = mul-le-mul_left a.channels (omega (arith, l, v.count)) in
          let there : j * a.channels + a.channel < length a.values.now = omega (arith, up, split, c.requires.channel) in
          subst (HasDepth a.depth) (sym (v.values j (omega (arith, l, v.count)))) (c.requires.fit (j * a.channels + a.channel) there);
    }
