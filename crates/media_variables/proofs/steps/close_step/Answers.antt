use Rattle.std.proofs.Common.{◌≤◌, ◌<◌, None, length, refl, sym, arith}
use Rattle.media_variables.specs.Held.{without_reference}
use Rattle.media_variables.specs.Given.{DoesAll}
use Rattle.media_variables.proofs.OfLaws.{read_of, closed_stay, same_stay}
use Rattle.media_variables.proofs.Places.{medium_past, medium_read, changed_there, changed_past}
use Rattle.media_variables.proofs.StepLaws.{not_there, close_acts, turned}
use Rattle.media_variables.proofs.steps.close_step.Goals as goal

pub close_variable-requires : goal.close_variable-requires
close_variable-requires g c =
    let vs = c.args.variables.now in
    let there = c.in-Some.ensures in
    let lt : c.args.of < length vs.items = omega (arith, vs.ok.0, there.variant.0 refl) in
    read_of _ vs.items c.args.of _ lt there.value c.requires

pub returns-in-Some-clause-acts : goal.returns-in-Some-clause-acts
returns-in-Some-clause-acts g c =
    let vs = c.args.variables.now in
    let there = c.in-Some.ensures in
    let closed = c.close_variable.ensures in
    let lt : c.args.of < length vs.items = omega (arith, vs.ok.0, there.variant.0 refl) in
    let old = c.args.pool.now in
    let new = c.close_variable.new.pool in
    close_acts (g.P.RefPool.adds old new) _ c.args.who (DoesAll g.P.RefPool.adds c.args.who old new) (turned g.P.RefPool.adds c.args.who old new) vs.items _ c.args.of c.in-Some.variable.now _ (medium_read vs.items c.args.of _ lt there.value) closed.answer (changed_there without_reference vs.items c.args.of _ _ lt there.value closed.detached) closed.does

pub returns-in-Some-clause-of : goal.returns-in-Some-clause-of
returns-in-Some-clause-of g c =
    let vs = c.args.variables.now in
    let there = c.in-Some.ensures in
    let closed = c.close_variable.ensures in
    let lt : c.args.of < length vs.items = omega (arith, vs.ok.0, there.variant.0 refl) in
    closed_stay _ _ vs.items _ c.args.of _ (medium_read vs.items c.args.of _ lt there.value) (changed_there without_reference vs.items c.args.of _ _ lt there.value closed.detached) c.requires closed.kept

pub returns-in-None-clause-acts : goal.returns-in-None-clause-acts
returns-in-None-clause-acts g c =
    let vs = c.args.variables.now in
    let past : length vs.items ≤ c.args.of = omega (arith, vs.ok.0, not_there _ _ c.in-None.ensures.variant.1) in
    let pool = c.args.pool.now in
    close_acts (g.P.RefPool.adds pool pool) _ c.args.who (DoesAll g.P.RefPool.adds c.args.who pool pool) (turned g.P.RefPool.adds c.args.who pool pool) vs.items vs.items c.args.of None _ (medium_past vs.items c.args.of past) refl (sym (changed_past without_reference vs.items c.args.of past)) refl

pub returns-in-None-clause-of : goal.returns-in-None-clause-of
returns-in-None-clause-of g c = same_stay _ _ c.args.variables.now.items c.requires
