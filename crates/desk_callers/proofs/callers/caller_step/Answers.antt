use Rattle.std.proofs.Common.{length, sym, subst}
use Rattle.std.specs.Prelude.{IfOk}
use Rattle.codec_desk.specs.TallyLaws.{clocked_rest}
use Rattle.script_types.specs.declared.steps.Step.{Step}
use Rattle.media_variables.specs.Held.{seen_in}
use Rattle.desk_callers.specs.Acts.{DidAtPorts, NamesWithin}
use Rattle.desk_callers.specs.PortActs.{PortsWithin}
use Rattle.desk_callers.proofs.Asked.{no_media}
use Rattle.desk_callers.proofs.PortActs.{did_nowhere}
use Rattle.desk_callers.proofs.PortSteps.{keep_same, plain_posts, plain_receives}
use Rattle.desk_callers.proofs.callers.caller_step.Goals as goal

pub step_on_media-requires-clause-names : goal.step_on_media-requires-clause-names
step_on_media-requires-clause-names g c κs within = subst (NamesWithin (length c.args.desk.now.codecs.items)) c.in-Media.is c.requires.names

pub returns-in-Media-clause-did : goal.returns-in-Media-clause-did
returns-in-Media-clause-did g c =
    let vs = seen_in c.args.variables.now in
    let after = seen_in c.step_on_media.new.variables in
    subst (λ (x : Step). IfOk c.step_on_media.result (DidAtPorts c.args.script.now c.args.media.now c.args.desk.now c.args.who x c.args.results.now c.args.seats.now c.step_on_media.new.seats vs after c.args.passes.now.items c.step_on_media.new.passes.items c.args.time.now c.step_on_media.new.time)) (sym c.in-Media.is) c.step_on_media.ensures.did

pub step_on_media-requires-clause-ports : goal.step_on_media-requires-clause-ports
step_on_media-requires-clause-ports g c κs within = subst (PortsWithin (length c.args.ports.now)) c.in-Media.is c.requires.ports

pub returns-in_default-clause-parts : goal.returns-in_default-clause-parts
returns-in_default-clause-parts g c = keep_same c.args.passes.now.items

pub returns-in_default-clause-did : goal.returns-in_default-clause-did
returns-in_default-clause-did g c =
    let vs = seen_in c.args.variables.now in
    let plain = no_media c.args.asked.now c.in_default.not-Media in
    did_nowhere c.args.script.now c.args.media.now c.args.desk.now c.args.results.now c.args.seats.now c.plain_step.new.seats vs vs c.args.who c.args.asked.now c.args.time.now c.plain_step.result c.args.passes.now.items (plain_posts c.args.asked.now plain) (plain_receives c.args.asked.now plain) c.plain_step.ensures.did

pub plain_step-requires-clause-plain : goal.plain_step-requires-clause-plain
plain_step-requires-clause-plain g c κs within = no_media c.args.asked.now c.in_default.not-Media

pub returns-in-Media-clause-timed : goal.returns-in-Media-clause-timed
returns-in-Media-clause-timed g c = clocked_rest c.args.desk.now c.args.seats.now c.step_on_media.new.seats (g.K.Clock.told c.args.clock.now) c.step_on_media.ensures.ends
