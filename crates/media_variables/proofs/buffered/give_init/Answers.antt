use Rattle.std.proofs.Common.{ℕ, ◌≡◌, Option, None, Some, ap, refl, subst, sym, ◌∙◌}
use Rattle.report_text.specs.declared.result.StepResult.TheVariants as result
use Rattle.media_variables.specs.Variables.{buffer_at}
use Rattle.media_variables.specs.Held.{AreOf, WholeMedium, seen_in}
use Rattle.media_variables.specs.Given.{Gives, before_given, made_or_adopted}
use Rattle.media_variables.proofs.BufferLaws.{adopted_open}
use Rattle.media_variables.proofs.Made.{adopted_gives, given_of}
use Rattle.media_variables.proofs.OfLaws.{without_of}
use Rattle.media_variables.proofs.Places.{seen_without}
use Rattle.media_variables.proofs.buffered.give_init.Goals as goal

pub unreachable-requires : goal.unreachable-requires
unreachable-requires g c =
    adopted_open c.args.init.now c.args.adopted c.in-Some.step (seen_in c.args.variables.now.items) c.requires.adopted c.in-Some.is c.requires.may c.in-None-detach.ensures.given

pub returns-in-Some-detach-clause-ok : goal.returns-in-Some-detach-clause-ok
returns-in-Some-detach-clause-ok g c =
    let vs = seen_in c.args.variables.now.items in
    let pool = c.args.pool.now in
    let adds = g.P.RefPool.adds pool pool in
    let there = c.gives.ensures ∙ ap (λ (m : WholeMedium). given_of (result.Local None) (Some m)) c.adopt_medium.ensures in
    subst (λ (o : Option ℕ). Gives adds (pool ≡ pool) c.args.who (made_or_adopted c.args.init.now o vs) c.gives.result) (sym c.in-Some.is)
    (adopted_gives adds (pool ≡ pool) c.args.who c.args.init.now.shape c.in-Some-detach.held (buffer_at vs c.in-Some.step) c.gives.result c.in-Some-detach.ensures.given there refl)

pub returns-in-Some-detach-clause-variables : goal.returns-in-Some-detach-clause-variables
returns-in-Some-detach-clause-variables g c =
    let items = c.args.variables.now.items in
    ap seen_in c.in-Some-detach.ensures.detached ∙ (seen_without c.in-Some.step items ∙ ap (λ (o : Option ℕ). before_given o (seen_in items)) (sym c.in-Some.is))

pub returns-in-Some-detach-clause-held : goal.returns-in-Some-detach-clause-held
returns-in-Some-detach-clause-held g c =
    let is_of = g.P.RefPool.is_of c.args.pool.now in
    let items = c.args.variables.now.items in
    subst (AreOf is_of) (sym c.in-Some-detach.ensures.detached) (without_of is_of c.in-Some.step items (λ i other. c.requires.held.each i))
