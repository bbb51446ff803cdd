use Rattle.std.proofs.Common.{ℕ, ℤ, pos, rules, ◌≡◌, ◌<◌, ◌≤◌, ◌+◌, ◌*◌, length, sym, subst, ◌∙◌, arith, to_z, of_z, w32}
use Rattle.std.proofs.Math.Nat.{mul-le-mul_left}
use Rattle.std.proofs.lemmas.List.FromFn.{fill_by_all}
use Rattle.flac_definitions.specs.SubframeWriting.{HasDepth}
use Rattle.flac_encode.specs.Runs.{run_value}
use Rattle.flac_encode.proofs.Filled.{set_each}
use Rattle.flac_encode.proofs.values.fill_run.Goals as goal

pub run_value-requires-clause-within : goal.run_value-requires-clause-within
run_value-requires-clause-within c =
    let a = c.args in
    let up : a.size * (c.loop-i.i + 1) ≤ a.size * length a.out.now = mul-le-mul_left a.size (omega (arith, c.loop-i-test.true, c.loop-i.invariant.count)) in
    omega (arith, up, c.requires.whole)

pub loop-i-preserved : goal.loop-i-preserved
loop-i-preserved c =
    let a = c.args in
    let v = c.loop-i.invariant in
    let r = c.run_value in
    let z = to_z w32 (of_z w32 r.result) in
    let kept : z ≡ r.result = search rules in
    let there : c.loop-i.i < length c.loop-i.out = omega (arith, c.loop-i-test.true, v.count) in
    record {
      count = search rules;
      values = set_each (λ (k : ℕ) (x : ℤ). x ≡ run_value a.size a.depth a.bytes.now k) c.loop-i.out c.loop-i.i z there v.values (kept ∙ r.ensures.value);
      fit = set_each (λ (k : ℕ) (x : ℤ). HasDepth a.depth x) c.loop-i.out c.loop-i.i z there v.fit (subst (HasDepth a.depth) (sym kept) r.ensures.fit);
    }

pub returns : goal.returns
returns c =
    let a = c.args in
    let v = c.loop-i.invariant in
    record {
      values = fill_by_all (run_value a.size a.depth a.bytes.now) c.loop-i.out (length a.out.now) (pos 0) v.count (λ k l. v.values k (omega (arith, l)));
      fit = λ j l. v.fit j (omega (arith, l, v.count));
    }
