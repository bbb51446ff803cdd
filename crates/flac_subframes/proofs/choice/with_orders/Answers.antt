use Rattle.std.proofs.Common.{refl, sym}
use Rattle.flac_definitions.specs.Candidates.{candidate_bits}
use Rattle.flac_subframes.proofs.Shortest.{choice_as, own_choice, shortest_none, next_choice}
use Rattle.flac_subframes.proofs.choice.with_orders.Goals as goal

pub loop-order-init : goal.loop-order-init
loop-order-init c =
    let a = c.args in
    let xs = a.samples.now in
    choice_as a.depth xs _ _ a.first (sym (shortest_none (candidate_bits a.depth xs) a.first.candidate)) c.requires.first

pub with_order-requires-clause-best : goal.with_order-requires-clause-best
with_order-requires-clause-best c = own_choice c.args.depth c.args.samples.now _ c.loop-order.best c.loop-order.invariant

pub loop-order-preserved : goal.loop-order-preserved
loop-order-preserved c =
    let a = c.args in
    next_choice a.depth a.samples.now a.most a.most c.loop-order.order a.first.candidate c.loop-order.best.candidate c.in_ok-best.best c.loop-order.invariant.candidate_is refl c.in_ok-best.ensures
