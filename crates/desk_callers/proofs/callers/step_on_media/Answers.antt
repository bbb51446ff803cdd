use Rattle.std.proofs.Common.{length, ap, sym, subst}
use Rattle.std.specs.Prelude.{IfOk}
use Rattle.script_types.specs.declared.steps.MediaStep.{MediaStep}
use Rattle.script_types.specs.declared.steps.Step.{Step}
use Rattle.script_types.specs.Names.{names_codec}
use Rattle.media_variables.specs.Held.{seen_in}
use Rattle.run_model.specs.Fits.{port_posted, port_received}
use Rattle.desk_callers.specs.Acts.{Did, DidAtPorts}
use Rattle.desk_callers.proofs.Asked.{named_at, no_call, no_port, no_take, port_there}
use Rattle.desk_callers.proofs.Ends.{no_ends}
use Rattle.desk_callers.proofs.PortActs.{did_nowhere}
use Rattle.desk_callers.proofs.PortSteps.{keep_same, own_posts, own_receives}
use Rattle.desk_callers.proofs.Staying.{stay_none}
use Rattle.desk_callers.proofs.callers.step_on_media.Goals as goal

pub encode_step-requires-clause-codec : goal.encode_step-requires-clause-codec
encode_step-requires-clause-codec g c κs within =
    named_at (length c.args.desk.now.codecs.items) (Step.Media c.args.asked.now) c.in-Encode.on (ap (λ (x : MediaStep). names_codec (Step.Media x)) c.in-Encode.is) c.requires.names

pub returns-in-Encode-clause-did : goal.returns-in-Encode-clause-did
returns-in-Encode-clause-did g c =
    let vs = seen_in c.args.variables.now in
    let after = seen_in c.encode_step.new.variables in
    did_nowhere c.args.script.now c.args.media.now c.args.desk.now c.args.results.now c.args.seats.now c.encode_step.new.seats vs after c.args.who (Step.Media c.args.asked.now) c.args.time.now c.encode_step.result c.args.passes.now.items
    (ap (λ (x : MediaStep). port_posted (Step.Media x)) c.in-Encode.is) (ap (λ (x : MediaStep). port_received (Step.Media x)) c.in-Encode.is)
    (subst (λ (x : MediaStep). IfOk c.encode_step.result (Did c.args.script.now c.args.media.now c.args.desk.now c.args.who (Step.Media x) c.args.results.now c.args.seats.now c.encode_step.new.seats vs after)) (sym c.in-Encode.is)
    (subst (λ w. IfOk c.encode_step.result (Did c.args.script.now c.args.media.now c.args.desk.now c.args.who (Step.Media (MediaStep.Encode c.in-Encode.on c.in-Encode.content)) c.args.results.now c.args.seats.now c.encode_step.new.seats vs w)) (sym c.encode_step.ensures.same) c.encode_step.ensures.did))

pub returns-in-Encode-clause-parts : goal.returns-in-Encode-clause-parts
returns-in-Encode-clause-parts g c = keep_same c.args.passes.now.items

pub take_step-requires-clause-codec : goal.take_step-requires-clause-codec
take_step-requires-clause-codec g c κs within =
    named_at (length c.args.desk.now.codecs.items) (Step.Media c.args.asked.now) c.in-Take.on (ap (λ (x : MediaStep). names_codec (Step.Media x)) c.in-Take.is) c.requires.names

pub returns-in-Take-clause-did : goal.returns-in-Take-clause-did
returns-in-Take-clause-did g c =
    let vs = seen_in c.args.variables.now in
    let after = seen_in c.take_step.new.variables in
    did_nowhere c.args.script.now c.args.media.now c.args.desk.now c.args.results.now c.args.seats.now c.take_step.new.seats vs after c.args.who (Step.Media c.args.asked.now) c.args.time.now c.take_step.result c.args.passes.now.items
    (ap (λ (x : MediaStep). port_posted (Step.Media x)) c.in-Take.is) (ap (λ (x : MediaStep). port_received (Step.Media x)) c.in-Take.is)
    (subst (λ (x : MediaStep). IfOk c.take_step.result (Did c.args.script.now c.args.media.now c.args.desk.now c.args.who (Step.Media x) c.args.results.now c.args.seats.now c.take_step.new.seats vs after)) (sym c.in-Take.is) c.take_step.ensures.did)

pub returns-in-Take-clause-parts : goal.returns-in-Take-clause-parts
returns-in-Take-clause-parts g c = keep_same c.args.passes.now.items

pub post_step-requires-clause-port : goal.post_step-requires-clause-port
post_step-requires-clause-port g c κs within =
    port_there (length c.args.ports.now) (port_posted (Step.Media c.args.asked.now)) c.in-Post.to (ap (λ (x : MediaStep). port_posted (Step.Media x)) c.in-Post.is) c.requires.ports.posts

pub returns-in-Post-clause-did : goal.returns-in-Post-clause-did
returns-in-Post-clause-did g c =
    let vs = seen_in c.args.variables.now in
    let after = seen_in c.post_step.new.variables in
    subst (λ (x : MediaStep). IfOk c.post_step.result (DidAtPorts c.args.script.now c.args.media.now c.args.desk.now c.args.who (Step.Media x) c.args.results.now c.args.seats.now c.args.seats.now vs after c.args.passes.now.items c.post_step.new.passes.items c.args.time.now c.args.time.now)) (sym c.in-Post.is) c.post_step.ensures.did

pub returns-in-Post-clause-ends : goal.returns-in-Post-clause-ends
returns-in-Post-clause-ends g c = no_ends c.args.desk.now c.args.seats.now c.requires.sits

pub returns-in-Post-clause-stay : goal.returns-in-Post-clause-stay
returns-in-Post-clause-stay g c = stay_none c.args.desk.now c.args.seats.now c.requires.sits

pub receive_step-requires-clause-port : goal.receive_step-requires-clause-port
receive_step-requires-clause-port g c κs within =
    port_there (length c.args.ports.now) (port_received (Step.Media c.args.asked.now)) c.in-Receive.from (ap (λ (x : MediaStep). port_received (Step.Media x)) c.in-Receive.is) c.requires.ports.receives

pub returns-in-Receive-clause-did : goal.returns-in-Receive-clause-did
returns-in-Receive-clause-did g c =
    let vs = seen_in c.args.variables.now in
    let after = seen_in c.receive_step.new.variables in
    subst (λ (x : MediaStep). IfOk c.receive_step.result (DidAtPorts c.args.script.now c.args.media.now c.args.desk.now c.args.who (Step.Media x) c.args.results.now c.args.seats.now c.args.seats.now vs after c.args.passes.now.items c.receive_step.new.passes.items c.args.time.now c.receive_step.new.time)) (sym c.in-Receive.is) c.receive_step.ensures.did

pub returns-in-Receive-clause-ends : goal.returns-in-Receive-clause-ends
returns-in-Receive-clause-ends g c = no_ends c.args.desk.now c.args.seats.now c.requires.sits

pub returns-in-Receive-clause-stay : goal.returns-in-Receive-clause-stay
returns-in-Receive-clause-stay g c = stay_none c.args.desk.now c.args.seats.now c.requires.sits

pub media_step-requires-clause-ports : goal.media_step-requires-clause-ports
media_step-requires-clause-ports g c κs within = no_port c.args.asked.now c.in_default.not-Post c.in_default.not-Receive

pub returns-in_default-clause-parts : goal.returns-in_default-clause-parts
returns-in_default-clause-parts g c = keep_same c.args.passes.now.items

pub returns-in_default-clause-did : goal.returns-in_default-clause-did
returns-in_default-clause-did g c =
    let vs = seen_in c.args.variables.now in
    let after = seen_in c.media_step.new.variables in
    let none = no_port c.args.asked.now c.in_default.not-Post c.in_default.not-Receive in
    did_nowhere c.args.script.now c.args.media.now c.args.desk.now c.args.results.now c.args.seats.now c.media_step.new.seats vs after c.args.who (Step.Media c.args.asked.now) c.args.time.now c.media_step.result c.args.passes.now.items (own_posts c.args.asked.now none) (own_receives c.args.asked.now none) c.media_step.ensures.did

pub media_step-requires-clause-takes : goal.media_step-requires-clause-takes
media_step-requires-clause-takes g c κs within = no_take c.args.asked.now c.in_default.not-Take

pub media_step-requires-clause-calls : goal.media_step-requires-clause-calls
media_step-requires-clause-calls g c κs within = no_call c.args.asked.now c.in_default.not-Encode
