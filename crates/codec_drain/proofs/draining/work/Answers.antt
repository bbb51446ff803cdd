use Rattle.std.proofs.Common.{ℕ, ◌≡◌, ◌+◌, ◌∙◌, map, ap, subst}
use Rattle.std.specs.Prelude.{IfSome}
use Rattle.codec_core.specs.Codec.{state_at}
use Rattle.codec_media.specs.Holding.{EndedValue, pair_of}
use Rattle.codec_model.specs.Held.{in_order, running_pairs}
use Rattle.codec_drain.specs.Drains.{IsOwnBox}
use Rattle.codec_drain.proofs.DrainLaws.{legal_of, stays_put, work_live, worked}
use Rattle.codec_drain.proofs.draining.work.Goals as goal

pub returns-in_default-clause-moves : goal.returns-in_default-clause-moves
returns-in_default-clause-moves g c = stays_put c.args.codec c.args.moment c.args.core.now c.start.new.self c.args.slots.now c.args.pool.now c.in_default.ensures.same (legal_of c.core.result.now c.args.core.now.codec c.core.ensures c.segments-segments.ensures.legal) c.requires.home

pub end_one-requires : goal.end_one-requires
end_one-requires g c =
    let pairs_are : map pair_of (in_order c.ended.inside.media) ≡ running_pairs (state_at c.start.new.self.codec) = ap (λ (v : EndedValue). map pair_of (in_order v.media)) c.ended.view_is ∙ c.done-ended.ensures.gone in
    work_live c.references_are_held.ensures.all c.args.core.now.codec c.start.new.self.codec c.in-Some.job.epoch c.in-Some.job.number c.args.pool.now _ c.in-Some.ensures.some c.requires.home.live pairs_are

pub returns-clause-moves : goal.returns-clause-moves
returns-clause-moves g c =
    let pairs_are : map pair_of (in_order c.ended.inside.media) ≡ running_pairs (state_at c.start.new.self.codec) = ap (λ (v : EndedValue). map pair_of (in_order v.media)) c.ended.view_is ∙ c.done-ended.ensures.gone in
    worked c.references_are_held.ensures.all c.steps_leave_fewer.ensures c.args.codec c.args.moment c.args.core.now.codec c.start.new.self.codec c.done-ended.new.self.codec c.in-Some.job.epoch c.in-Some.job.number _ _ _ _ c.end_of-done.result.coder c.end_of-done.new.slots c.give.new.slots c.args.pool.now c.end_one.new.pool _
    c.requires.saturation (legal_of c.core.result.now c.args.core.now.codec c.core.ensures c.segments-segments.ensures.legal) c.in-Some.ensures.some c.done-ended.ensures.made
    pairs_are c.requires.home.live c.end_one.ensures.ends c.end_one.ensures.others c.done-ended.ensures.idle c.done-ended.ensures.slot
    (λ none. c.give.ensures (ap (λ (v : EndedValue). v.coder) c.ended.view_is ∙ (c.done-ended.ensures.back ∙ none)))
    (subst (λ (n : ℕ). IfSome c.end_of-done.result.coder (IsOwnBox c.args.codec (n + 1) c.end_of-done.new.slots)) c.in-Some.ensures.place c.end_of-done.ensures.coder)
