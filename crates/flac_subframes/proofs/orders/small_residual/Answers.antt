use Rattle.std.proofs.Common.{ℕ, ℤ, List, ◌*◌, ◌^◌, ◌≡◌, sym, subst, ◌∙◌, refl, arith, ap, true}
use Rattle.flac_definitions.specs.FixedPredictors.{are_in_range, residuals}
use Rattle.flac_subframes.specs.Search.{AreWithin}
use Rattle.flac_subframes.proofs.Ranges.{residual_none, bound_fits, bound_more, bound_at_end, within_range}
use Rattle.flac_subframes.proofs.orders.small_residual.Goals as goal

pub loop-o-init : goal.loop-o-init
loop-o-init c = record {
  current = c.in_ok-current.ensures.items ∙ residual_none c.args.samples.now;
  bound = refl;
  within = subst (λ (l : List ℤ). AreWithin (2 ^ 25) l) (sym c.in_ok-current.ensures.items) c.requires.within;
}

pub to_next_order-requires-clause-most : goal.to_next_order-requires-clause-most
to_next_order-requires-clause-most c = omega (arith, c.loop-o.invariant.bound, bound_fits c.loop-o.o (omega (arith, c.requires.order)))

pub overflow_mul-bound : goal.overflow_mul-bound
overflow_mul-bound c = omega (arith, c.loop-o.invariant.bound, bound_fits c.loop-o.o (omega (arith, c.requires.order)))

pub loop-o-preserved : goal.loop-o-preserved
loop-o-preserved c =
    let v = c.loop-o.invariant in
    let turned : 2 * c.loop-o.bound ≡ c.loop-o.bound * 2 = omega arith in
    record {
      current = c.to_next_order.ensures.value;
      bound = bound_more c.loop-o.o c.loop-o.bound v.bound;
      within = subst (λ (m : ℕ). AreWithin m c.to_next_order.new.residual.items) turned c.to_next_order.ensures.within;
    }

pub returns-clause-range : goal.returns-clause-range
returns-clause-range c =
    let v = c.loop-o.invariant in
    let xs = c.args.samples.now in
    let end : c.loop-o.o ≡ c.args.order = omega arith in
    let small = bound_at_end c.loop-o.o c.loop-o.bound (omega (arith, end, c.requires.order)) v.bound in
    let all : are_in_range c.loop-o.current.items ≡ true = within_range c.loop-o.bound c.loop-o.current.items small v.within in
    sym (ap (λ (l : List ℤ). are_in_range l) v.current ∙ ap (λ (o : ℕ). are_in_range (residuals o xs)) end) ∙ all
