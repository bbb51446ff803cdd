use Rattle.std.proofs.Common.{◌≤◌, ◌<◌, length, refl, ap, sym, ◌∙◌, arith}
use Rattle.std.specs.Prelude.{option_and_then, option_map}
use Rattle.media_variables.specs.Variables.{buffer_in}
use Rattle.media_variables.specs.Held.{seen}
use Rattle.media_variables.proofs.BufferLaws.{detached_there}
use Rattle.media_variables.proofs.Places.{medium_past, seen_at}
use Rattle.media_variables.proofs.StepLaws.{not_there}
use Rattle.media_variables.proofs.buffered.detach.Goals as goal

pub returns-in-Some-clause-detached : goal.returns-in-Some-clause-detached
returns-in-Some-clause-detached c =
    let vs = c.args.variables.now in
    let there = c.in-Some.ensures in
    let lt : c.args.step < length vs.items = omega (arith, vs.ok.0, there.variant.0 refl) in
    detached_there _ vs.items c.args.step _ _ lt there.value c.detach_variable.ensures.detached

pub returns-in-None-clause-given : goal.returns-in-None-clause-given
returns-in-None-clause-given c =
    let vs = c.args.variables.now in
    let past : length vs.items ≤ c.args.step = omega (arith, vs.ok.0, not_there _ _ c.in-None.ensures.variant.1) in
    sym (ap (option_and_then buffer_in) (seen_at vs.items c.args.step ∙ ap (option_map seen) (medium_past vs.items c.args.step past)))
