use Rattle.std.proofs.Common.{◌∙◌}
use Rattle.seat_lock.specs.Own.{inside_of}
use Rattle.lock_tests.proofs.Orders.{after_spend, spend_has}
use Rattle.lock_tests.proofs.stock.spend.Goals as goal

pub leave-requires-clause-log : goal.leave-requires-clause-log
leave-requires-clause-log g c =
    let e = c.enter-held.ensures.log in
    let is = c.of.ensures in
    record {
      log = e.log;
      inside = inside_of e.log _ _ e.goes_in;
      stands = e.stands ∙ after_spend e.log _ c.args.claim _ is;
      has_claim = spend_has e.log c.args.seat.now c.enter-held.new.seat c.args.claim _ is e.goes_in c.requires.claim;
    }
