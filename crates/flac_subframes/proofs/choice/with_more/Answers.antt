use Rattle.std.proofs.Common.{ℕ, ◌≡◌, ◌+◌, ◌-◌, sym, subst, ap, arith, ◌∙◌}
use Rattle.std.specs.List.{flat_map, range_with_len}
use Rattle.flac_definitions.specs.Candidates.{IsChoice, candidate_bits, first_shortest, fixed_candidates}
use Rattle.flac_subframes.proofs.Shortest.{own_choice, choice_as, shortest_none}
use Rattle.flac_subframes.proofs.Earlier.{choice_from}
use Rattle.flac_subframes.proofs.choice.with_more.Goals as goal

pub loop-order-init : goal.loop-order-init
loop-order-init c =
    let a = c.args in
    let xs = a.samples.now in
    let f = candidate_bits a.depth xs in
    let none : a.from - a.from ≡ 0 = omega arith in
    choice_as a.depth xs a.first.candidate (first_shortest f a.first.candidate (flat_map (fixed_candidates a.most xs) (range_with_len (a.from + 1) (a.from - a.from)))) a.first
    (sym (ap (λ (n : ℕ). first_shortest f a.first.candidate (flat_map (fixed_candidates a.most xs) (range_with_len (a.from + 1) n))) none ∙ shortest_none f a.first.candidate)) c.requires.first

pub with_next-requires-clause-least : goal.with_next-requires-clause-least
with_next-requires-clause-least c = c.requires.lengths (c.loop-order.order + 1) (omega (arith, c.requires.last))

pub with_next-requires-clause-best : goal.with_next-requires-clause-best
with_next-requires-clause-best c = own_choice c.args.depth c.args.samples.now _ c.loop-order.best c.loop-order.invariant

pub loop-order-preserved : goal.loop-order-preserved
loop-order-preserved c =
    let a = c.args in
    let o = c.loop-order.order in
    choice_from a.depth a.samples.now a.most (a.from + 1) (o - a.from) (o + 1) (o + 1 - a.from) a.first.candidate c.loop-order.best.candidate c.in_ok-best.best (omega arith) (omega arith) c.loop-order.invariant.candidate_is c.in_ok-best.ensures

pub returns : goal.returns
returns c =
    let a = c.args in
    let end : c.loop-order.order ≡ a.last = omega arith in
    subst (λ (n : ℕ). IsChoice a.depth a.samples.now (first_shortest (candidate_bits a.depth a.samples.now) a.first.candidate (flat_map (fixed_candidates a.most a.samples.now) (range_with_len (a.from + 1) (n - a.from)))) c.loop-order.best) end c.loop-order.invariant
