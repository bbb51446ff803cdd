use Rattle.std.proofs.Common.{sym, subst, []}
use Rattle.codec_model.specs.declared.entry.PromiseState.{PromiseState}
use Rattle.codec_desk.specs.DeskLaws.{settled_then}
use Rattle.codec_desk.specs.NamedLaws.{calls_then}
use Rattle.codec_desk.specs.TallyLaws.{clocked_rest, clocked_then}
use Rattle.report_text.specs.declared.result.StepResult.TheVariants as result
use Rattle.desk_callers.specs.Deeds.{HasEnded}
use Rattle.desk_callers.proofs.Seen.{saw_promise, saw_since, saw_ended, has_ended}
use Rattle.desk_callers.proofs.awaits.await_result.Goals as goal

pub returns-clause-helped : goal.returns-clause-helped
returns-clause-helped g c = record {
  settled = settled_then c.args.desk.now c.args.seats.now c.await_helping.new.seats c.look_at_promise-length.new.seats c.await_helping.ensures.settled c.look_at_promise-length.ensures.helped.settled;
  calls = calls_then c.args.desk.now c.args.seats.now c.await_helping.new.seats c.look_at_promise-length.new.seats [] [] c.await_helping.ensures.calls c.look_at_promise-length.ensures.helped.calls;
}

pub returns-clause-saw : goal.returns-clause-saw
returns-clause-saw g c =
    saw_since c.args.desk.now c.args.codec c.args.place _ c.args.seats.now c.await_helping.new.seats c.look_at_promise-length.new.seats c.await_helping.ensures.settled.seats
    (saw_promise c.args.desk.now c.args.codec c.args.place c.look_at_promise-length.result c.await_helping.new.seats c.look_at_promise-length.new.seats c.look_at_promise-length.ensures.looked c.look_at_promise-length.ensures.helped.settled.seats)

pub returns-clause-ended : goal.returns-clause-ended
returns-clause-ended g c =
    subst (λ (end : PromiseState). HasEnded (result.Look c.args.codec c.look_at_promise-length.result.0 end))
    (sym (saw_ended c.args.desk.now c.args.codec c.args.place c.look_at_promise-length.result c.await_helping.result c.args.seats.now c.await_helping.new.seats c.look_at_promise-length.new.seats c.await_helping.ensures.ended c.look_at_promise-length.ensures.looked c.look_at_promise-length.ensures.helped.settled.seats))
    (has_ended c.args.codec c.look_at_promise-length.result.0 c.await_helping.result)

pub returns-clause-timed : goal.returns-clause-timed
returns-clause-timed g c =
    let desk = c.args.desk.now in
    let last = g.K.Clock.told c.await_helping.new.clock in
    clocked_then desk c.args.seats.now c.await_helping.new.seats c.look_at_promise-length.new.seats (g.K.Clock.told c.args.clock.now) last last c.await_helping.ensures.timed
    (clocked_rest desk c.await_helping.new.seats c.look_at_promise-length.new.seats last c.look_at_promise-length.ensures.ends)
