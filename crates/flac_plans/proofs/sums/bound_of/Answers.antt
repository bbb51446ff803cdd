use Rattle.std.proofs.Common.{refl, ◌∙◌, arith}
use Rattle.flac_plans.specs.Search.{bound_at}
use Rattle.flac_plans.proofs.Sizes.{first_below, first_value, next_below, next_value}
use Rattle.flac_plans.proofs.sums.bound_of.Goals as goal

pub loop-k-init : goal.loop-k-init
loop-k-init c = record {
  below = λ i l. first_below c.args.count c.args.twice i l;
  value = λ n e. first_value c.args.count c.args.twice n e;
  small = omega (arith, c.requires.twice);
}

pub loop-k-preserved : goal.loop-k-preserved
loop-k-preserved c =
    let v = c.loop-k.invariant in
    let f = bound_at c.args.count c.args.twice in
    let k = c.loop-k.k in
    record {
      below = λ i l. next_below c.args.count c.args.twice k c.loop-k.bound c.min-bound.result i v.below c.min-bound.ensures l;
      value = λ n e. c.min-bound.ensures ∙ next_value f k c.loop-k.bound (f k) n c.loop-k.auto.k v.value refl e;
      small = omega (arith, c.min-bound.ensures, v.small);
    }
