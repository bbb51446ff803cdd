use Rattle.std.proofs.Common.{rules, ℕ, ◌+◌, ap, ◌∙◌}
use Rattle.seat_lock.specs.Own.{inside_of}
use Rattle.lock_tests.specs.declared.stock.Stock.{Stock}
use Rattle.lock_tests.proofs.Orders.{after_look, after_mint, mint_spends, mints_of}
use Rattle.lock_tests.proofs.stock.mint.Goals as goal

pub leave-requires-clause-log : goal.leave-requires-clause-log
leave-requires-clause-log g c =
    let e = c.enter-held.ensures.log in
    let same = ap (λ (s : Stock). s.minted) c.state-stock.ensures.value in
    record { log = e.log; inside = inside_of e.log _ _ e.goes_in; stands = same ∙ e.stands ∙ after_look e.log _; has_claim = tt }

pub leave-requires-2-clause-log : goal.leave-requires-2-clause-log
leave-requires-2-clause-log g c =
    let e = c.enter-held.ensures.log in
    let same = ap (λ (s : Stock). s.minted + 1) c.state-stock.ensures.value in
    record {
      log = e.log;
      inside = inside_of e.log _ _ e.goes_in;
      stands = same ∙ (ap (λ (n : ℕ). n + 1) e.stands ∙ after_mint e.log _ _ (search rules));
      has_claim = mint_spends e.log _ _ (search rules);
    }

pub returns-clause-claim : goal.returns-clause-claim
returns-clause-claim g c =
    mints_of _ _ c.args.seat.now c.enter-held.new.seat c.leave-2.new.seat _ _ c.of.ensures c.enter-held.ensures.log c.leave-2.ensures.log
    (ap (λ (s : Stock). s.minted) c.state-stock.ensures.value ∙ c.enter-held.ensures.log.stands)
