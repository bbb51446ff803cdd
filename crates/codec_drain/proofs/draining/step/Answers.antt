use Rattle.codec_drain.proofs.DrainLaws.{step_quiet, step_moves}
use Rattle.codec_drain.proofs.draining.step.Goals as goal

pub returns-clause-quiet : goal.returns-clause-quiet
returns-clause-quiet g c = λ none. step_quiet c.never_stuck.ensures.facts c.args.codec c.args.moment c.args.core.now.codec c.work-worked.new.core.codec c.work-worked.new.slots c.args.pool.now c.work-worked.new.pool c.work-worked.result c.requires.saturation c.if-worked-ne0.false c.work-worked.ensures.moves (c.work-worked.ensures.none c.if-worked-ne0.false) (c.turn.ensures.none none)

pub returns-clause-moves : goal.returns-clause-moves
returns-clause-moves g c = step_moves c.args.codec c.args.moment c.args.core.now.codec c.work-worked.new.core.codec c.turn.new.core.codec c.work-worked.new.slots c.turn.new.slots c.args.pool.now c.work-worked.new.pool c.turn.new.pool c.work-worked.result c.turn.result c.if-worked-ne0.false c.work-worked.ensures.moves c.turn.ensures.moves
