use Rattle.std.proofs.Common.{ℕ, ◌≡◌, ◌+◌, ◌-◌, ◌*◌, sym, subst, ap, arith, ◌∙◌}
use Rattle.std.specs.List.{flat_map, range_with_len}
use Rattle.flac_subframes.specs.Search.{AreWithin}
use Rattle.flac_definitions.specs.Candidates.{IsChoice, candidate_bits, first_shortest, fixed_candidates}
use Rattle.flac_subframes.proofs.Ranges.{bound_fits, bound_more}
use Rattle.flac_subframes.proofs.Shortest.{own_choice, choice_as, shortest_none}
use Rattle.flac_subframes.proofs.Earlier.{choice_from, small_range}
use Rattle.flac_subframes.proofs.choice.with_later.Goals as goal

pub loop-order-init : goal.loop-order-init
loop-order-init c =
    let a = c.args in
    let xs = a.samples.now in
    let f = candidate_bits a.depth xs in
    let none : a.from - a.from ≡ 0 = omega arith in
    record {
      best = choice_as a.depth xs a.first.candidate (first_shortest f a.first.candidate (flat_map (fixed_candidates a.most xs) (range_with_len (a.from + 1) (a.from - a.from)))) a.first
          (sym (ap (λ (n : ℕ). first_shortest f a.first.candidate (flat_map (fixed_candidates a.most xs) (range_with_len (a.from + 1) n))) none ∙ shortest_none f a.first.candidate)) c.requires.first;
      residual = c.requires.residual;
      bound = c.requires.bound;
      within = c.requires.within;
    }

pub to_next_order-requires-clause-most : goal.to_next_order-requires-clause-most
to_next_order-requires-clause-most c = omega (arith, c.loop-order.invariant.bound, bound_fits c.loop-order.order (omega (arith, c.requires.last)))

pub overflow_mul-wide : goal.overflow_mul-wide
overflow_mul-wide c = omega (arith, c.loop-order.invariant.bound, bound_fits c.loop-order.order (omega (arith, c.requires.last)))

pub with_kept-requires-clause-range : goal.with_kept-requires-clause-range
with_kept-requires-clause-range c =
    let v = c.loop-order.invariant in
    let o = c.loop-order.order in
    let b = c.loop-order.wide in
    let turned : 2 * b ≡ b * 2 = omega arith in
    small_range (o + 1) (b * 2) c.args.samples.now c.to_next_order.new.residual.items (omega (arith, c.requires.last)) (bound_more o b v.bound) c.to_next_order.ensures.value
    (subst (λ (m : ℕ). AreWithin m c.to_next_order.new.residual.items) turned c.to_next_order.ensures.within)

pub with_kept-requires-clause-best : goal.with_kept-requires-clause-best
with_kept-requires-clause-best c = own_choice c.args.depth c.args.samples.now _ c.loop-order.best c.loop-order.invariant.best

pub loop-order-preserved : goal.loop-order-preserved
loop-order-preserved c =
    let a = c.args in
    let v = c.loop-order.invariant in
    let o = c.loop-order.order in
    let b = c.loop-order.wide in
    let turned : 2 * b ≡ b * 2 = omega arith in
    record {
      best = choice_from a.depth a.samples.now a.most (a.from + 1) (o - a.from) (o + 1) (o + 1 - a.from) a.first.candidate c.loop-order.best.candidate c.in_ok-best.best (omega arith) (omega arith) v.best.candidate_is c.in_ok-best.ensures;
      residual = c.to_next_order.ensures.value;
      bound = bound_more o b v.bound;
      within = subst (λ (m : ℕ). AreWithin m c.to_next_order.new.residual.items) turned c.to_next_order.ensures.within;
    }

pub returns : goal.returns
returns c =
    let a = c.args in
    let end : c.loop-order.order ≡ a.last = omega arith in
    subst (λ (n : ℕ). IsChoice a.depth a.samples.now (first_shortest (candidate_bits a.depth a.samples.now) a.first.candidate (flat_map (fixed_candidates a.most a.samples.now) (range_with_len (a.from + 1) (n - a.from)))) c.loop-order.best) end c.loop-order.invariant.best
