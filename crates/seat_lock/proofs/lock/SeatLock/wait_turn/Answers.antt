use Rattle.std.proofs.Common.{rules, ◌≡◌, ap, sym, ◌∙◌, Option, Some, subst, arith, ◌<◌, ◌^◌}
use Rattle.std.specs.Option.{IsSome}
use Rattle.seat_lock.proofs.Passages.{draws, turns}
use Rattle.seat_lock.proofs.Ends.{enter_ends, slot_of_takes, says_same}
use Rattle.seat_lock.proofs.lock.SeatLock.wait_turn.Goals as goal
use Rattle.seat_lock.proofs.lock.SeatLock.wait_turn.Goals.{else-turn-ticket-via-then-turn-ticket+else-ticket-lt-TICKETS, else-turn-ticket-via-else-turn-ticket}
use Rattle.seat_lock.specs.Seats.{Lock, Sitting}
use Rattle.seat_lock.specs.Steps.{tells_by}

pub fetch_add-ticket-requires : goal.fetch_add-ticket-requires
fetch_add-ticket-requires g c = (search rules, search rules, draws _ _ _ _ _ _ _ _ c.requires.seat.1.0)

pub load-turn-requires : goal.load-turn-requires
load-turn-requires g c = (search rules, search rules, turns _ _ _ _ _ _ (says_same g.S.Told.tells c.self.inside.table.shared.key g.W.AboutPick.about (c.requires.about ∙ ap (λ (l : Lock g.row.S-About.Denot). Some l.about) (sym c.self.view_is))) _ _ c.fetch_add-ticket.result _ (ap (λ (m : Sitting g.row.S.Denot g.row.S-Entry.Denot). m.0.phase) c.loop.invariant.1))

pub exchange-requires : goal.exchange-requires
exchange-requires g c =
    let takes = (c.load-turn.ensures.2 c.fetch_add-ticket.result (ap (λ (m : Sitting g.row.S.Denot g.row.S-Entry.Denot). m.0.phase) c.loop.invariant.1)).0 c.if-turn-ticket.true c.if-ticket-lt-TICKETS.true in
    (search rules, (Some takes.value, slot_of_takes _ _ _ _ _ _ takes))

pub unwrap-state-requires : goal.unwrap-state-requires
unwrap-state-requires g c =
    let takes = (c.load-turn.ensures.2 c.fetch_add-ticket.result (ap (λ (m : Sitting g.row.S.Denot g.row.S-Entry.Denot). m.0.phase) c.loop.invariant.1)).0 c.if-turn-ticket.true c.if-ticket-lt-TICKETS.true in
    let e = enter_ends g.S.Told.mints g.S.Told.spends (tells_by g.S.Told.tells g.W.AboutPick.about) c.args.seat.now.me.0 c.fetch_add-ticket.result _ _ _ _ c.loop.invariant.1 takes c.exchange.ensures.2 c.exchange.ensures.3 in
    subst (λ (o : Option g.row.S.Denot). IsSome o) (sym e.0) (search rules)

pub returns-then-ticket-lt-TICKETS-clause-log : goal.returns-then-ticket-lt-TICKETS-clause-log
returns-then-ticket-lt-TICKETS-clause-log g c =
    let takes = (c.load-turn.ensures.2 c.fetch_add-ticket.result (ap (λ (m : Sitting g.row.S.Denot g.row.S-Entry.Denot). m.0.phase) c.loop.invariant.1)).0 c.if-turn-ticket.true c.if-ticket-lt-TICKETS.true in
    let e = enter_ends g.S.Told.mints g.S.Told.spends (tells_by g.S.Told.tells g.W.AboutPick.about) c.args.seat.now.me.0 c.fetch_add-ticket.result _ _ _ _ c.loop.invariant.1 takes c.exchange.ensures.2 c.exchange.ensures.3 in
    let same : Some takes.value ≡ Some c.unwrap-state.result = sym e.0 ∙ c.unwrap-state.ensures in
    let value : takes.value ≡ c.unwrap-state.result = cc in
    record {
      log = takes.log;
      goes_in = record { ticket = c.fetch_add-ticket.result; early = c.if-ticket-lt-TICKETS.true; me = e.1 };
      stands = subst (λ (x : g.row.S.Denot). g.S.Told.tells c.args.self.now.about x takes.log) value (e.2 c.args.self.now.about c.requires.about);
      continues = e.3;
      live = e.4;
      has_number = e.5;
    }

pub loop-preserved : goal.loop-preserved
loop-preserved g c =
    let t = c.load-turn.ensures.2 c.fetch_add-ticket.result (ap (λ (m : Sitting g.row.S.Denot g.row.S-Entry.Denot). m.0.phase) c.loop.invariant.1) in
    let not : ¬ ((c.load-turn.result ≡ c.fetch_add-ticket.result) × (c.fetch_add-ticket.result < 2 ^ 63)) =
    (λ h. elim c.else-turn-ticket.branch [ else-turn-ticket-via-then-turn-ticket+else-ticket-lt-TICKETS w ↦ (let a = h.1 in let b = w.if-ticket-lt-TICKETS.false in absurd (omega arith)) | else-turn-ticket-via-else-turn-ticket w ↦ absurd (w.if-turn-ticket.false h.0) ]) in
    (search rules, t.1 not ∙ c.loop.invariant.1)
