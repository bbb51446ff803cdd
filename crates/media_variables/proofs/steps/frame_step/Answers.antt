use Rattle.std.proofs.Common.{ap, sym, subst}
use Rattle.media_variables.specs.Held.{AreOf, seen_in}
use Rattle.media_variables.specs.Given.{DoesAll}
use Rattle.media_variables.proofs.OfLaws.{given_of, kept_of}
use Rattle.media_variables.proofs.StepLaws.{frame_acts, kept_seen, turned}
use Rattle.media_variables.proofs.steps.frame_step.Goals as goal

pub returns-clause-ok : goal.returns-clause-ok
returns-clause-ok g c =
    let x = c.in_ok-given.given in
    let was = c.args.variables.now.items in
    let old = c.args.pool.now in
    let new = c.make_frame.new.pool in
    frame_acts _ _ c.args.who (DoesAll g.P.RefPool.adds c.args.who old new) (turned g.P.RefPool.adds c.args.who old new) (seen_in was) _ c.args.init.now x _ c.in_ok-given.ensures.ok c.keep.ensures.answer
    (kept_seen c.args.who.step x.medium _ _ (seen_in was) c.keep.ensures.variables (ap seen_in c.make_room.ensures.same))

pub returns-clause-of : goal.returns-clause-of
returns-clause-of g c =
    let x = c.in_ok-given.given in
    let room = subst (AreOf (g.P.RefPool.is_of c.args.pool.now)) (sym c.make_room.ensures.same) c.requires in
    given_of _ c.args.who.step x.medium _ _ c.keep.ensures.variables (kept_of _ _ _ c.make_frame.ensures.kept room) c.in_ok-given.ensures.of
