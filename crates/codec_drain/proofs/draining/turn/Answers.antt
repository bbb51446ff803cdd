use Rattle.std.proofs.Common.{◌≡◌, ◌∙◌, ap, refl}
use Rattle.codec_core.specs.Codec.{state_at, closes_now}
use Rattle.codec_media.specs.Holding.{TurnedValue}
use Rattle.codec_model.specs.Held.{waiting_held}
use Rattle.codec_drain.specs.Drains.{box_in, pairs_in}
use Rattle.codec_drain.proofs.DrainLaws.{legal_of, stays_put, turned, turn_pairs, turn_box, gone_pairs, gone_box}
use Rattle.codec_drain.proofs.draining.turn.Goals as goal

pub returns-in_default-clause-moves : goal.returns-in_default-clause-moves
returns-in_default-clause-moves g c = stays_put c.args.codec c.args.moment c.args.core.now c.turn.new.self c.args.slots.now c.args.pool.now c.in_default.ensures.same (legal_of c.core.result.now c.args.core.now.codec c.core.ensures c.segments-segments.ensures.legal) c.requires.home

pub returns-clause-moves : goal.returns-clause-moves
returns-clause-moves g c =
    let old = c.args.core.now.codec in
    let closes = closes_now (state_at old).control in
    let removed = c.in-Some.turned.removed in
    let seen : c.turned.inside.removed ≡ removed = ap (λ (v : TurnedValue). v.removed) c.turned.view_is in
    turned c.references_are_held.ensures.all c.steps_leave_fewer.ensures c.args.codec c.args.moment old c.turn.new.self.codec c.args.slots.now c.let_go.new.slots c.args.pool.now c.let_go.new.pool _
    c.requires.saturation (legal_of c.core.result.now old c.core.ensures c.segments-segments.ensures.legal) c.in-Some.ensures.some c.requires.home
    (ap pairs_in seen ∙ turn_pairs closes removed (waiting_held (state_at old).control) c.in-Some.ensures.closes (gone_pairs c.args.core.now c.turn.new.self (state_at old) removed refl c.in-Some.ensures.gone))
    c.let_go.ensures.ends c.let_go.ensures.others c.turn.ensures.running.same_running c.turn.ensures.slot
    (λ none. c.let_go.ensures.slots (ap box_in seen ∙ (turn_box closes removed old.slot c.in-Some.ensures.closes (gone_box c.in-Some.turned.place old.slot removed c.in-Some.ensures.coder) ∙ none)))
