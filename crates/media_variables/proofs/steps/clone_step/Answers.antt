use Rattle.std.proofs.Common.{◌∙◌, List, Option, ap, sym, subst}
use Rattle.media_variables.specs.Variables.{Medium, medium_at}
use Rattle.media_variables.specs.Held.{AreOf, seen_in}
use Rattle.media_variables.specs.Given.{DoesAll}
use Rattle.media_variables.proofs.Made.{clone_gives}
use Rattle.media_variables.proofs.OfLaws.{given_of}
use Rattle.media_variables.proofs.StepLaws.{clone_acts, kept_seen, turned}
use Rattle.media_variables.proofs.steps.clone_step.Goals as goal

pub clone_at-requires : goal.clone_at-requires
clone_at-requires g c = subst (AreOf (g.P.RefPool.is_of c.args.pool.now)) (sym c.make_room.ensures.same) c.requires

pub returns-clause-ok : goal.returns-clause-ok
returns-clause-ok g c =
    let x = c.in_ok-given.given in
    let was = c.args.variables.now.items in
    let room = ap seen_in c.make_room.ensures.same in
    let gave = clone_gives _ _ c.args.who _ _ x (ap (λ (l : List (Option Medium)). medium_at l c.args.of) room) c.in_ok-given.ensures.ok in
    let old = c.args.pool.now in
    let new = c.clone_at.new.pool in
    clone_acts _ _ c.args.who (DoesAll g.P.RefPool.adds c.args.who old new) (turned g.P.RefPool.adds c.args.who old new) (seen_in was) _ (medium_at (seen_in was) c.args.of) x _ gave c.keep.ensures.answer
    (kept_seen c.args.who.step x.medium _ _ (seen_in was) c.keep.ensures.variables (c.clone_at.ensures.same ∙ room))

pub returns-clause-of : goal.returns-clause-of
returns-clause-of g c =
    let x = c.in_ok-given.given in
    given_of _ c.args.who.step x.medium _ _ c.keep.ensures.variables c.clone_at.ensures.still c.in_ok-given.ensures.of
