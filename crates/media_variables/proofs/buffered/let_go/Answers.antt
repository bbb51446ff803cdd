use Rattle.std.proofs.Common.{Option, ap, refl, subst, sym, ◌∙◌}
use Rattle.std.specs.Prelude.{is_some}
use Rattle.media_variables.specs.Variables.{Reference, end_of}
use Rattle.media_variables.specs.Held.{AreOf, seen_in}
use Rattle.media_variables.specs.Given.{DoesAll, MayEnd}
use Rattle.media_variables.proofs.BufferLaws.{gone_variables, gone_does, gone_of, gone_apart, held_of, none_gone}
use Rattle.media_variables.proofs.buffered.let_go.Goals as goal

pub end-requires : goal.end-requires
end-requires g c =
    held_of (g.P.RefPool.is_of c.args.pool.now) c.args.variables.now.items c.args.step c.in-Some.held c.requires.held c.in-Some.ensures.of

pub returns-in-Some-clause-variables : goal.returns-in-Some-clause-variables
returns-in-Some-clause-variables g c =
    let items = c.args.variables.now.items in
    let found = c.in-Some.ensures in
    gone_variables g.P.RefPool.adds g.P.RefPool.is_of c.args.who c.args.pool.now c.end.new.self items c.detach.new.variables.items c.args.step c.in-Some.held (is_some c.end.result) found.given found.of found.detached c.end.ensures.ended

pub returns-in-Some-clause-does : goal.returns-in-Some-clause-does
returns-in-Some-clause-does g c =
    let items = c.args.variables.now.items in
    let found = c.in-Some.ensures in
    gone_does g.P.RefPool.adds g.P.RefPool.is_of c.args.who c.args.pool.now c.end.new.self items c.detach.new.variables.items c.args.step c.in-Some.held (is_some c.end.result) found.given found.of found.detached c.end.ensures.ended

pub returns-in-Some-clause-held : goal.returns-in-Some-clause-held
returns-in-Some-clause-held g c =
    let items = c.args.variables.now.items in
    let found = c.in-Some.ensures in
    gone_of g.P.RefPool.adds g.P.RefPool.is_of c.args.who c.args.pool.now c.end.new.self items c.detach.new.variables.items c.args.step c.in-Some.held (is_some c.end.result) found.given found.of found.detached c.end.ensures.ended c.requires.apart c.requires.held c.end.ensures.kept

pub returns-in-Some-clause-apart : goal.returns-in-Some-clause-apart
returns-in-Some-clause-apart g c =
    let items = c.args.variables.now.items in
    let found = c.in-Some.ensures in
    gone_apart g.P.RefPool.adds g.P.RefPool.is_of c.args.who c.args.pool.now c.end.new.self items c.detach.new.variables.items c.args.step c.in-Some.held (is_some c.end.result) found.given found.of found.detached c.end.ensures.ended c.requires.apart

pub returns-in-None-clause-variables : goal.returns-in-None-clause-variables
returns-in-None-clause-variables g c =
    let items = c.args.variables.now.items in
    ap seen_in (c.in-None.ensures.same refl) ∙ none_gone (seen_in items) c.args.step c.in-None.ensures.given

pub returns-in-None-clause-does : goal.returns-in-None-clause-does
returns-in-None-clause-does g c =
    let pool = c.args.pool.now in
    subst (λ (o : Option Reference). DoesAll g.P.RefPool.adds c.args.who pool pool (end_of o)) c.in-None.ensures.given refl

pub returns-in-None-clause-held : goal.returns-in-None-clause-held
returns-in-None-clause-held g c = subst (AreOf (g.P.RefPool.is_of c.args.pool.now)) (sym (c.in-None.ensures.same refl)) c.requires.held

pub returns-in-None-clause-apart : goal.returns-in-None-clause-apart
returns-in-None-clause-apart g c =
    subst (MayEnd g.P.RefPool.adds g.P.RefPool.is_of) (sym (ap seen_in (c.in-None.ensures.same refl))) c.requires.apart
