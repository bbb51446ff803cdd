use Rattle.std.proofs.Common.{None}
use Rattle.media_variables.specs.Held.{seen_in}
use Rattle.media_variables.specs.Variables.{Brought, media_came}
use Rattle.shared_variables.specs.Since.{DidSince}
use Rattle.desk_callers.proofs.MediaActs.{keeps_made, copied_acted, has_answered}
use Rattle.desk_callers.proofs.Own.{stay_pool}
use Rattle.desk_callers.proofs.Staying.{stay_none}
use Rattle.desk_callers.proofs.Ends.{no_ends}
use Rattle.desk_callers.proofs.media.media_step.Goals as goal

pub returns-in_err-chunk-clause-stay : goal.returns-in_err-chunk-clause-stay
returns-in_err-chunk-clause-stay g c = stay_none c.args.desk.now c.args.seats.now c.requires.sits

pub step_at-requires-clause-seat : goal.step_at-requires-clause-seat
step_at-requires-clause-seat g c = c.requires.sits.pool

pub returns-in_err-answer-clause-stay : goal.returns-in_err-answer-clause-stay
returns-in_err-answer-clause-stay g c =
    let b : Brought = record { chunk = c.in_ok-chunk.chunk; taken = None; received = None } in
    stay_pool c.args.desk.now c.args.seats.now c.step_at.new.seat c.requires.sits
    (keeps_made c.args.desk.now c.args.seats.now.pool c.step_at.new.seat c.args.who (λ n. media_came n c.args.who b c.args.asked.now (seen_in c.args.variables.now)) (seen_in c.args.variables.now) (seen_in c.step_at.new.variables) c.step_at.result
    c.step_at.ensures.seat c.step_at.ensures.free c.step_at.ensures.acts c.step_at.ensures.err)

pub returns-in_err-answer-clause-sits : goal.returns-in_err-answer-clause-sits
returns-in_err-answer-clause-sits g c = record { codecs = c.requires.sits.codecs; pool = c.step_at.ensures.free; slots = c.requires.sits.slots }

pub returns-clause-stay : goal.returns-clause-stay
returns-clause-stay g c =
    let b : Brought = record { chunk = c.in_ok-chunk.chunk; taken = None; received = None } in
    stay_pool c.args.desk.now c.args.seats.now c.step_at.new.seat c.requires.sits
    (keeps_made c.args.desk.now c.args.seats.now.pool c.step_at.new.seat c.args.who (λ n. media_came n c.args.who b c.args.asked.now (seen_in c.args.variables.now)) (seen_in c.args.variables.now) (seen_in c.step_at.new.variables) c.step_at.result
    c.step_at.ensures.seat c.step_at.ensures.free c.step_at.ensures.acts c.step_at.ensures.err)

pub returns-clause-sits : goal.returns-clause-sits
returns-clause-sits g c = record { codecs = c.requires.sits.codecs; pool = c.step_at.ensures.free; slots = c.requires.sits.slots }

pub returns-clause-did : goal.returns-clause-did
returns-clause-did g c =
    let b : Brought = record { chunk = c.in_ok-chunk.chunk; taken = None; received = None } in
    let kept = keeps_made c.args.desk.now c.args.seats.now.pool c.step_at.new.seat c.args.who (λ n. media_came n c.args.who b c.args.asked.now (seen_in c.args.variables.now)) (seen_in c.args.variables.now) (seen_in c.step_at.new.variables) c.step_at.result
    c.step_at.ensures.seat c.step_at.ensures.free c.step_at.ensures.acts c.step_at.ensures.err in
    copied_acted c.args.script.now c.args.media.now c.args.desk.now c.args.results.now c.args.seats.now c.step_at.new.seat (seen_in c.args.variables.now) (seen_in c.step_at.new.variables) c.args.who c.args.asked.now c.in_ok-answer.answer c.in-Some.answer c.args.steps.now c.in_ok-chunk.chunk
    c.requires.sits kept c.requires.takes c.requires.calls c.requires.steps c.in_ok-chunk.ensures c.in-Some.is c.in_ok-answer.ensures.acts

pub unreachable-requires : goal.unreachable-requires
unreachable-requires g c =
    let b : Brought = record { chunk = c.in_ok-chunk.chunk; taken = None; received = None } in
    has_answered (DidSince c.args.who c.args.seats.now.pool.me.0 c.step_at.new.seat.me.0) c.args.who b c.args.asked.now (seen_in c.args.variables.now) (seen_in c.step_at.new.variables) c.in_ok-answer.answer c.requires.takes c.requires.calls c.in-None.is c.in_ok-answer.ensures.acts

pub returns-in_err-chunk-clause-ends : goal.returns-in_err-chunk-clause-ends
returns-in_err-chunk-clause-ends g c = no_ends c.args.desk.now c.args.seats.now c.requires.sits

pub returns-in_err-answer-clause-ends : goal.returns-in_err-answer-clause-ends
returns-in_err-answer-clause-ends g c = no_ends c.args.desk.now c.args.seats.now c.requires.sits

pub returns-clause-ends : goal.returns-clause-ends
returns-clause-ends g c = no_ends c.args.desk.now c.args.seats.now c.requires.sits
