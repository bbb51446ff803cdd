use Rattle.std.proofs.Common.{◌≤◌, ◌<◌, ◌∙◌, length, refl, sym, ap, arith}
use Rattle.media_variables.specs.Held.{without_reference}
use Rattle.media_variables.specs.Given.{transferred_at}
use Rattle.media_variables.proofs.Places.{medium_past, medium_read, changed_there, changed_past}
use Rattle.media_variables.proofs.StepLaws.{not_there}
use Rattle.media_variables.proofs.steps.transfer_at.Goals as goal

pub returns-in-Some-clause-given : goal.returns-in-Some-clause-given
returns-in-Some-clause-given c =
    let vs = c.args.variables.now in
    let there = c.in-Some.ensures in
    let lt : c.args.of < length vs.items = omega (arith, vs.ok.0, there.variant.0 refl) in
    c.transfer_variable.ensures.given ∙ ap transferred_at (sym (medium_read vs.items c.args.of _ lt there.value))

pub returns-in-Some-clause-detached : goal.returns-in-Some-clause-detached
returns-in-Some-clause-detached c =
    let vs = c.args.variables.now in
    let there = c.in-Some.ensures in
    let lt : c.args.of < length vs.items = omega (arith, vs.ok.0, there.variant.0 refl) in
    changed_there without_reference vs.items c.args.of _ _ lt there.value c.transfer_variable.ensures.detached

pub returns-in-None-clause-given : goal.returns-in-None-clause-given
returns-in-None-clause-given c =
    let vs = c.args.variables.now in
    let past : length vs.items ≤ c.args.of = omega (arith, vs.ok.0, not_there _ _ c.in-None.ensures.variant.1) in
    c.absent.ensures ∙ ap transferred_at (sym (medium_past vs.items c.args.of past))

pub returns-in-None-clause-detached : goal.returns-in-None-clause-detached
returns-in-None-clause-detached c =
    let vs = c.args.variables.now in
    let past : length vs.items ≤ c.args.of = omega (arith, vs.ok.0, not_there _ _ c.in-None.ensures.variant.1) in
    sym (changed_past without_reference vs.items c.args.of past)
