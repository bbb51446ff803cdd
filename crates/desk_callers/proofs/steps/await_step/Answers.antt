use Rattle.std.proofs.Common.{refl}
use Rattle.codec_accounts.specs.ListLaws.{get_some}
use Rattle.script_types.specs.declared.steps.Step.{Step}
use Rattle.media_variables.specs.Held.{seen_in}
use Rattle.std.specs.Prelude.{length}
use Rattle.desk_callers.proofs.Acting.{promise_acted}
use Rattle.desk_callers.proofs.Looking.{flushed, flushed_within}
use Rattle.desk_callers.proofs.Staying.{stay_helped}
use Rattle.desk_callers.proofs.steps.await_step.Goals as goal

pub flush_at-codec-requires : goal.flush_at-codec-requires
flush_at-codec-requires g c = flushed (length c.args.desk.now.codecs.items) c.args.results.now c.args.promise.now c.requires.promised

pub await_result-requires-clause-codec : goal.await_result-requires-clause-codec
await_result-requires-clause-codec g c κs within =
    flushed_within (length c.args.desk.now.codecs.items) c.args.results.now c.args.promise.now c.flush_at-codec.result.0 c.flush_at-codec.result.1 c.requires.promised c.flush_at-codec.ensures

pub returns-clause-stay : goal.returns-clause-stay
returns-clause-stay g c = stay_helped c.args.desk.now c.args.seats.now c.await_result.new.seats c.await_result.ensures.helped

pub returns-clause-did : goal.returns-clause-did
returns-clause-did g c =
    let k = c.flush_at-codec.result.0 in
    let p = c.flush_at-codec.result.1 in
    let lt = flushed_within (length c.args.desk.now.codecs.items) c.args.results.now c.args.promise.now k p c.requires.promised c.flush_at-codec.ensures in
    let there = get_some c.args.desk.now.codecs.items k lt in
    promise_acted c.args.script.now c.args.media.now c.args.desk.now c.args.results.now c.args.seats.now c.await_result.new.seats (seen_in c.args.variables.now) c.args.who (Step.Await c.args.promise.now) c.args.promise.now k p c.flush_at-codec.ensures.0
    c.await_result.result there.0 refl c.flush_at-codec.ensures.1 there.1 c.requires.opened c.await_result.ensures.helped c.await_result.ensures.saw c.await_result.ensures.ended
