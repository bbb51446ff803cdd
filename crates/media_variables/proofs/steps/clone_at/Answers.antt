use Rattle.std.proofs.Common.{◌≤◌, ◌<◌, length, refl, sym, ap, ◌∙◌, arith}
use Rattle.std.specs.Prelude.{option_map}
use Rattle.media_variables.specs.Held.{seen}
use Rattle.media_variables.proofs.Made.{absent_gives, clone_if}
use Rattle.media_variables.proofs.OfLaws.{kept_of, put_of, read_of}
use Rattle.media_variables.proofs.Places.{medium_past, medium_read, seen_at, seen_there}
use Rattle.media_variables.proofs.StepLaws.{not_there}
use Rattle.media_variables.proofs.steps.clone_at.Goals as goal

pub clone_variable-requires : goal.clone_variable-requires
clone_variable-requires g c =
    let vs = c.args.variables.now in
    let there = c.in-Some.ensures in
    let lt : c.args.of < length vs.items = omega (arith, vs.ok.0, there.variant.0 refl) in
    read_of _ vs.items c.args.of _ lt there.value c.requires

pub returns-in-Some-clause-same : goal.returns-in-Some-clause-same
returns-in-Some-clause-same g c =
    let vs = c.args.variables.now in
    let there = c.in-Some.ensures in
    let lt : c.args.of < length vs.items = omega (arith, vs.ok.0, there.variant.0 refl) in
    seen_there vs.items c.args.of _ _ lt there.value c.clone_variable.ensures.same

pub returns-in-Some-clause-still : goal.returns-in-Some-clause-still
returns-in-Some-clause-still g c = put_of _ c.args.variables.now.items c.args.of _ (kept_of _ _ _ c.clone_variable.ensures.kept c.requires) c.clone_variable.ensures.still

pub returns-in-Some-clause-ok : goal.returns-in-Some-clause-ok
returns-in-Some-clause-ok g c =
    let vs = c.args.variables.now in
    let there = c.in-Some.ensures in
    let lt : c.args.of < length vs.items = omega (arith, vs.ok.0, there.variant.0 refl) in
    let is = seen_at vs.items c.args.of ∙ ap (option_map seen) (medium_read vs.items c.args.of _ lt there.value) in
    clone_if _ _ c.args.who _ _ c.clone_variable.result (sym is) c.clone_variable.ensures.ok

pub returns-in-None-clause-ok : goal.returns-in-None-clause-ok
returns-in-None-clause-ok g c =
    let vs = c.args.variables.now in
    let past : length vs.items ≤ c.args.of = omega (arith, vs.ok.0, not_there _ _ c.in-None.ensures.variant.1) in
    absent_gives _ _ c.args.who _ _ (seen_at vs.items c.args.of ∙ ap (option_map seen) (medium_past vs.items c.args.of past)) c.absent.ensures refl
