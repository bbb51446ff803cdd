use Rattle.std.proofs.Common.{ℕ, List, sym, ap, subst}
use Rattle.seat_lock.specs.Logs.{Has}
use Rattle.seat_lock.specs.Seats.{Sitting}
use Rattle.lock_tests.specs.declared.stock.Order.{Order}
use Rattle.lock_tests.proofs.Orders.{has_end, ends_in_spend, rests_mint, rests_less, rests_with}
use Rattle.lock_tests.proofs.stock.mint_and_spend.Goals as goal

pub spend-requires-clause-claim : goal.spend-requires-clause-claim
spend-requires-clause-claim g c =
    subst (λ (l : List ℕ). Has c.in-Some.claim l) (sym (ap (λ (m : Sitting _ Order). m.0.claims) c.hand_over.ensures.to.view)) (has_end c.in-Some.claim _)

pub returns-clause-spend : goal.returns-clause-spend
returns-clause-spend g c is = ends_in_spend c.in-Some.claim _ _ c.spend.ensures.passage

pub returns-clause-first : goal.returns-clause-first
returns-clause-first g c = rests_less c.in-Some.claim c.args.first.now c.mint.new.seat c.hand_over.new.from
    (rests_mint c.mint.result _ _ c.mint.ensures.same.0 c.mint.ensures.claim) c.hand_over.ensures.from.0.0 c.hand_over.ensures.from.1

pub returns-clause-second : goal.returns-clause-second
returns-clause-second g c = rests_with c.in-Some.claim c.mint.new.seat.me.0 _ c.args.second.now c.hand_over.new.to c.spend.new.seat
    c.hand_over.ensures.same.0 c.hand_over.ensures.to c.spend.ensures.same.0 c.spend.ensures.passage

pub returns-in_default-clause-first : goal.returns-in_default-clause-first
returns-in_default-clause-first g c = rests_mint c.mint.result _ _ c.mint.ensures.same.0 c.mint.ensures.claim
