use Rattle.std.proofs.Common.{◌∙◌, ◌-◌, length, ap, subst}
use Rattle.codec_core.specs.Codec.{Codec, state_at}
use Rattle.codec_model.specs.Replay.{IsLegal}
use Rattle.codec_drain.proofs.DrainLaws.{going_start, going_on, grown, drained}
use Rattle.codec_drain.proofs.draining.drain.Goals as goal

pub loop-made-init : goal.loop-made-init
loop-made-init g c = going_start c.args.codec c.args.moment c.args.core.now.codec c.args.slots.now c.args.pool.now c.requires.saturation (subst (λ (x : Codec). IsLegal x.opening x.history) c.core.ensures c.segments-segments.ensures.legal) c.requires.home

pub loop-made-preserved : goal.loop-made-preserved
loop-made-preserved g c = going_on c.args.codec c.args.moment c.args.core.now.codec c.loop-made.core.codec c.step-made.new.core.codec c.loop-made.slots c.step-made.new.slots c.args.pool.now c.loop-made.pool c.step-made.new.pool c.loop-made.made c.step-made.result c.loop-made.invariant c.step-made.ensures.moves c.step-made.ensures.quiet

pub returns : goal.returns
returns g c =
    let old = c.args.core.now.codec in
    let new = c.loop-made.core.codec in
    let before = c.look-before.ensures.entries ∙ ap (λ (x : Codec). length x.history) c.core-2.ensures in
    let after = c.look-after.ensures.entries ∙ ap (λ (x : Codec). length x.history) c.core-3.ensures in
    drained c.args.codec c.args.moment old new c.loop-made.slots c.args.pool.now c.loop-made.pool c.loop-made.made (c.look-after.result.0 - c.look-before.result.0) c.loop-made.invariant c.loop-made-test.false
    (grown c.args.codec c.args.moment old new c.loop-made.slots c.args.pool.now c.loop-made.pool c.loop-made.made c.look-before.result.0 c.look-after.result.0 c.loop-made.invariant before after)
    (c.never_stuck.ensures.quiet new.opening new.history (state_at new) c.loop-made.invariant.some c.loop-made.invariant.moves.steps.legal)
