use Rattle.std.proofs.Common.{length, ap, sym, subst}
use Rattle.codec_accounts.specs.ListLaws.{get_some}
use Rattle.codec_desk.specs.TallyLaws.{clocked_none, clocked_rest}
use Rattle.report_text.specs.declared.result.StepResult.{StepResult}
use Rattle.script_types.specs.declared.steps.Step.{Step}
use Rattle.script_types.specs.Names.{looked_at, names_codec}
use Rattle.media_variables.specs.Held.{seen_in}
use Rattle.desk_callers.specs.Acts.{Did, IsPromised}
use Rattle.desk_callers.proofs.Acting.{chunk_acted, state_acted}
use Rattle.desk_callers.proofs.Asked.{named_at}
use Rattle.desk_callers.proofs.Staying.{stay_none, stay_helped}
use Rattle.desk_callers.proofs.steps.plain_step.Goals as goal

pub returns-in_err-copy-in-Configure-clause-stay : goal.returns-in_err-copy-in-Configure-clause-stay
returns-in_err-copy-in-Configure-clause-stay g c = stay_none c.args.desk.now c.args.seats.now c.requires.sits

pub decode_step-requires-clause-codec : goal.decode_step-requires-clause-codec
decode_step-requires-clause-codec g c κs within = named_at (length c.args.desk.now.codecs.items) c.args.asked.now c.in-Decode.on (ap names_codec c.in-Decode.is) c.requires.names

pub returns-in-Chunk-clause-stay : goal.returns-in-Chunk-clause-stay
returns-in-Chunk-clause-stay g c = stay_none c.args.desk.now c.args.seats.now c.requires.sits

pub returns-in-Chunk-clause-did : goal.returns-in-Chunk-clause-did
returns-in-Chunk-clause-did g c =
    let vs = seen_in c.args.variables.now in
    subst (λ (z : Step × StepResult). Did c.args.script.now c.args.media.now c.args.desk.now c.args.who z.0 c.args.results.now c.args.seats.now c.args.seats.now vs vs z.1) (λ i. (sym c.in-Chunk.is i, sym c.chunk_result.ensures i))
    (chunk_acted c.args.script.now c.args.media.now c.args.desk.now c.args.results.now c.args.seats.now vs c.args.who c.in-Chunk.bind c.in-Chunk.source c.requires.sits)

pub poll_step-requires-clause-promised : goal.poll_step-requires-clause-promised
poll_step-requires-clause-promised g c κs within = subst (IsPromised (length c.args.desk.now.codecs.items) c.args.results.now) (ap looked_at c.in-Poll.is) c.requires.promised

pub returns-in-Poll-clause-did : goal.returns-in-Poll-clause-did
returns-in-Poll-clause-did g c =
    let vs = seen_in c.args.variables.now in
    subst (λ (x : Step). Did c.args.script.now c.args.media.now c.args.desk.now c.args.who x c.args.results.now c.args.seats.now c.poll_step.new.seats vs vs c.poll_step.result) (sym c.in-Poll.is) c.poll_step.ensures.did

pub await_step-requires-clause-promised : goal.await_step-requires-clause-promised
await_step-requires-clause-promised g c κs within = subst (IsPromised (length c.args.desk.now.codecs.items) c.args.results.now) (ap looked_at c.in-Await.is) c.requires.promised

pub returns-in-Await-clause-did : goal.returns-in-Await-clause-did
returns-in-Await-clause-did g c =
    let vs = seen_in c.args.variables.now in
    subst (λ (x : Step). Did c.args.script.now c.args.media.now c.args.desk.now c.args.who x c.args.results.now c.args.seats.now c.await_step.new.seats vs vs c.await_step.result) (sym c.in-Await.is) c.await_step.ensures.did

pub state_result-requires-clause-codec : goal.state_result-requires-clause-codec
state_result-requires-clause-codec g c κs within = named_at (length c.args.desk.now.codecs.items) c.args.asked.now c.in-State.on (ap names_codec c.in-State.is) c.requires.names

pub returns-in-State-clause-stay : goal.returns-in-State-clause-stay
returns-in-State-clause-stay g c = stay_helped c.args.desk.now c.args.seats.now c.state_result.new.seats c.state_result.ensures.helped

pub returns-in-State-clause-did : goal.returns-in-State-clause-did
returns-in-State-clause-did g c =
    let vs = seen_in c.args.variables.now in
    let lt = named_at (length c.args.desk.now.codecs.items) c.args.asked.now c.in-State.on (ap names_codec c.in-State.is) c.requires.names in
    let there = get_some c.args.desk.now.codecs.items c.in-State.on lt in
    subst (λ (x : Step). Did c.args.script.now c.args.media.now c.args.desk.now c.args.who x c.args.results.now c.args.seats.now c.state_result.new.seats vs vs c.state_result.result) (sym c.in-State.is)
    (state_acted c.args.script.now c.args.media.now c.args.desk.now c.args.results.now c.args.seats.now c.state_result.new.seats vs c.args.who c.in-State.on c.state_result.result there.0 there.1 c.requires.opened c.state_result.ensures.helped c.state_result.ensures.saw)

pub returns-in_err-copy-in-Configure-clause-timed : goal.returns-in_err-copy-in-Configure-clause-timed
returns-in_err-copy-in-Configure-clause-timed g c = clocked_none c.args.desk.now c.args.seats.now (g.K.Clock.told c.args.clock.now) c.requires.sits

pub returns-in-Decode-clause-timed : goal.returns-in-Decode-clause-timed
returns-in-Decode-clause-timed g c = clocked_rest c.args.desk.now c.args.seats.now c.decode_step.new.seats (g.K.Clock.told c.args.clock.now) c.decode_step.ensures.ends

pub returns-in-Chunk-clause-timed : goal.returns-in-Chunk-clause-timed
returns-in-Chunk-clause-timed g c = clocked_none c.args.desk.now c.args.seats.now (g.K.Clock.told c.args.clock.now) c.requires.sits

pub returns-in-Poll-clause-timed : goal.returns-in-Poll-clause-timed
returns-in-Poll-clause-timed g c = clocked_rest c.args.desk.now c.args.seats.now c.poll_step.new.seats (g.K.Clock.told c.args.clock.now) c.poll_step.ensures.ends

pub returns-in-State-clause-timed : goal.returns-in-State-clause-timed
returns-in-State-clause-timed g c = clocked_rest c.args.desk.now c.args.seats.now c.state_result.new.seats (g.K.Clock.told c.args.clock.now) c.state_result.ensures.ends

pub returns-clause-timed : goal.returns-clause-timed
returns-clause-timed g c = clocked_rest c.args.desk.now c.args.seats.now c.called_step.new.seats (g.K.Clock.told c.args.clock.now) c.called_step.ensures.ends
