use Rattle.std.proofs.Common.{◌≡◌, arith}
use Rattle.codec_core.specs.{Owning.GoesBack, Job.stopped_box}
use Rattle.codec_core.specs.Codec.{state_at, closes_now}
use Rattle.codec_media.proofs.Holds.{turn_holds, box_if, with_box}
use Rattle.codec_media.proofs.codec.HoldingCore.turn.Goals as goal

pub invariant_of-self-2 : goal.invariant_of-self-2
invariant_of-self-2 g c =
    let i = c.self.inside in (
      turn_holds c.references_are_held.ensures.apart i.core c.turn.new.self c.turned.inside.removed _ _ i.working i.waiting.items c.with_media-removed.new.waiting.items
          (rw (← c.turned.view_is) at c.in_ok-turned.ensures.removed) c.in_ok-turned.ensures.some c.with_media-removed.ensures.left c.self.invariant.0,
      c.with_media-removed.ensures.freed,
      omega (arith, c.with_media-removed.ensures.freed_len, c.self.invariant.2),
      omega (arith, c.with_media-removed.ensures.capacity, c.with_media-removed.ensures.freed_len, c.self.invariant.2),
    )

pub returns-clause-coder : goal.returns-clause-coder
returns-clause-coder g c =
    let place = c.turned.inside.place in
    let box = stopped_box c.self.inside.core.slot in
    let is = rw (← c.turned.view_is) at c.in_ok-turned.ensures.removed in
    rw (← c.self.view_is) (with_box (λ at coder. (at ≡ place) × (coder ≡ box)) c.with_media-removed.result c.turned.inside.removed c.with_media-removed.ensures.boxes (rw is (box_if (closes_now (state_at c.self.inside.core).control) place box)))

pub returns-clause-lets : goal.returns-clause-lets
returns-clause-lets g c = with_box (GoesBack c.turn.new.self) c.with_media-removed.result c.turned.inside.removed c.with_media-removed.ensures.boxes (rw (← c.turned.view_is) at c.in_ok-turned.ensures.lets)
