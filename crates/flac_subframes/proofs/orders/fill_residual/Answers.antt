use Rattle.std.proofs.Common.{ℕ, pos, ◌≡◌, ◌≢◌, ◌<◌, ◌+◌, ◌-◌, length, refl, sym, arith, rules, below_more, get_or-set_other, get_or-set_same, to_z, of_z, w32}
use Rattle.std.proofs.lemmas.List.FromFn.{fill_by_all}
use Rattle.flac_definitions.specs.FixedPredictors.{residual_at}
use Rattle.flac_subframes.proofs.Ranges.{out_of_range, whole_range}
use Rattle.flac_subframes.proofs.orders.fill_residual.Goals as goal

pub returns-in-None-clause-range : goal.returns-in-None-clause-range
returns-in-None-clause-range c =
    let o = c.args.order in
    let xs = c.args.samples.now in
    let j = c.loop-j.j in
    sym (out_of_range o xs j (residual_at o xs (o + j)) (omega (arith, c.loop-j.invariant.count)) refl c.in-None.ensures.none)

pub loop-j-preserved : goal.loop-j-preserved
loop-j-preserved c =
    let v = c.loop-j.invariant in
    let o = c.args.order in
    let xs = c.args.samples.now in
    let j = c.loop-j.j in
    let is : to_z w32 (of_z w32 c.in-Some.value) ≡ residual_at o xs (o + j) = search rules in
    record {
      count = search rules;
      values = below_more _ _ (λ k h. let ne : k ≢ j = omega arith in rw get_or-set_other (v.values k h)) (let lt : j < length c.loop-j.out = omega arith in rw get_or-set_same is);
      range = below_more _ _ v.range c.in-Some.ensures.some;
    }

pub returns-clause-value : goal.returns-clause-value
returns-clause-value c = λ _.
    let v = c.loop-j.invariant in
    let o = c.args.order in
    let xs = c.args.samples.now in
    fill_by_all (λ (j : ℕ). residual_at o xs (o + j)) c.loop-j.out (length xs - o) (pos 0) (omega (arith, v.count)) (λ k l. v.values k (omega (arith, l, v.count)))

pub returns-clause-range : goal.returns-clause-range
returns-clause-range c =
    let v = c.loop-j.invariant in
    sym (whole_range c.args.order c.args.samples.now (λ k l. v.range k (omega (arith, l, v.count))))
