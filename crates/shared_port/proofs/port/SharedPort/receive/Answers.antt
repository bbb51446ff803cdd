use Rattle.std.proofs.Common.{◌<◌, ℕ, false, None, sym, ap, ◌∙◌, subst}
use Rattle.seat_lock.specs.Own.{view_of_passage}
use Rattle.seat_lock.specs.Seats.{Sitting}
use Rattle.seat_lock.specs.SinceLaws.{idle_after}
use Rattle.wc_base.specs.declared.seat.Passage.TheVariants.{Look}
use Rattle.shared_port.proofs.Mouths.{tells, stays}
use Rattle.shared_port.proofs.Rules.{receives, had_left}
use Rattle.shared_port.proofs.port.SharedPort.receive.Goals as goal
use Rattle.shared_port.specs.declared.rule.PortView.{PortView}
use Rattle.shared_port.specs.Mouths.{view_of}

pub pop_as-received-requires-clause-rule : goal.pop_as-received-requires-clause-rule
pop_as-received-requires-clause-rule g c =
    let t = c.take_mouth.ensures.taken in
    let parts = ap (λ (v : PortView g.row.M.Denot). v.parts) t.1 in
    (receives _ g.M.Carried.is_of _ _ (subst (λ (n : ℕ). 0 < n) (sym parts) c.requires.pass.has_parts) (ap (λ (v : PortView g.row.M.Denot). v.mouths) t.1), had_left _ g.M.Carried.is_of _ _)

pub returns-clause-received : goal.returns-clause-received
returns-clause-received g c = tells _ g.M.Carried.is_of _ _ _ _ _ _ c.take_mouth.ensures.taken.0 c.take_mouth.ensures.taken.1 c.pop_as-received.ensures.rule c.give_mouth.ensures.given

pub returns-clause-pass : goal.returns-clause-pass
returns-clause-pass g c =
    let told = tells _ g.M.Carried.is_of _ _ (view_of c.args.pass.now.line) _ _ (view_of c.give_mouth.new.pass) c.take_mouth.ensures.taken.0 c.take_mouth.ensures.taken.1 c.pop_as-received.ensures.rule c.give_mouth.ensures.given in
    let same = stays _ g.M.Carried.is_of _ _ _ told in
    let e = c.enter-held.ensures.log in
    let a = c.args.pass.now.seat in
    let b = c.leave.new.seat in
    let view = view_of_passage (λ _. false) (λ _ _. None) Look e.log a c.enter-held.new.seat b e.goes_in c.leave.ensures.log in
    record {
      line = c.give_mouth.ensures.pass;
      pool = same.1 ∙ c.requires.pass.pool;
      has_parts = subst (λ (n : ℕ). 0 < n) (sym same.0) c.requires.pass.has_parts;
      no_mouth = same.2;
      seat = (c.leave.ensures.same.0 ∙ (c.enter-held.ensures.seat.0 ∙ c.requires.pass.seat.0), idle_after (λ _. false) (λ _ _. None) a b e.log Look view);
      parts = ap (λ (m : Sitting _ _). m.0.parts) view ∙ (c.requires.pass.parts ∙ sym same.0);
    }
