use Rattle.std.proofs.Common.{ap, ◌∙◌}
use Rattle.wc_base.specs.declared.seat.Passage.TheVariants.{Look}
use Rattle.seat_lock.specs.Own.{view_of_passage}
use Rattle.seat_lock.specs.Seats.{Sitting}
use Rattle.lock_speed.specs.Passing.{mints_none, spends_none}
use Rattle.lock_speed.proofs.pass.Goals as goal

pub returns : goal.returns
returns g c =
    let enters = c.enter-held.ensures.log in
    let view = view_of_passage mints_none spends_none Look enters.log c.args.seat.now c.enter-held.new.seat c.leave.new.seat enters.goes_in c.leave.ensures.log in (
      (c.leave.ensures.same.0 ∙ c.enter-held.ensures.seat.0, (ap (λ (m : Sitting _ _). m.0.phase) view, ap (λ (m : Sitting _ _). m.1) view)),
      ap (λ (m : Sitting _ _). m.0.parts) view,
    )
