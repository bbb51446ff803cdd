use Rattle.std.proofs.Common.{◌∙◌, List, Option, refl, ap}
use Rattle.media_variables.specs.Variables.{changed_at, medium_at}
use Rattle.media_variables.specs.Held.{WholeMedium, without_reference}
use Rattle.media_variables.specs.Given.{DoesAll, given_to, transferred_at}
use Rattle.media_variables.proofs.OfLaws.{transfer_of}
use Rattle.media_variables.proofs.StepLaws.{transfer_acts, turned}
use Rattle.media_variables.proofs.steps.transfer_step.Goals as goal

pub returns-clause-ok : goal.returns-clause-ok
returns-clause-ok g c =
    let x = c.transfer_at-given.result in
    let room = c.make_room.ensures.same in
    let given = c.transfer_at-given.ensures.given ∙ ap (λ (l : List (Option WholeMedium)). transferred_at (medium_at l c.args.of)) room in
    let kept = c.keep.ensures.variables ∙ ap (given_to c.args.who.step x.medium) (c.transfer_at-given.ensures.detached ∙ ap (changed_at without_reference c.args.of) room) in
    let pool = c.args.pool.now in
    transfer_acts (g.P.RefPool.adds pool pool) _ c.args.who (DoesAll g.P.RefPool.adds c.args.who pool pool) (turned g.P.RefPool.adds c.args.who pool pool) c.args.variables.now.items _ c.args.of x _ refl given c.keep.ensures.answer kept

pub returns-clause-of : goal.returns-clause-of
returns-clause-of g c =
    let x = c.transfer_at-given.result in
    let room = c.make_room.ensures.same in
    let given = c.transfer_at-given.ensures.given ∙ ap (λ (l : List (Option WholeMedium)). transferred_at (medium_at l c.args.of)) room in
    let kept = c.keep.ensures.variables ∙ ap (given_to c.args.who.step x.medium) (c.transfer_at-given.ensures.detached ∙ ap (changed_at without_reference c.args.of) room) in
    transfer_of _ c.args.who.step c.args.of c.args.variables.now.items _ x given kept c.requires
