use Rattle.std.proofs.Common.{◌∙◌, [], ap, sym}
use Rattle.flush_promise.specs.Ends.{state_of}
use Rattle.codec_desk.specs.DeskLaws.{settled_none, settled_then}
use Rattle.codec_desk.specs.TallyLaws.{clocked_none, clocked_then, clocked_rest}
use Rattle.codec_desk.specs.NamedLaws.{calls_none, calls_then}
use Rattle.codec_desk.proofs.Going.{saw_earlier, look_ends}
use Rattle.codec_desk.proofs.helping.await_helping.Goals as goal

pub loop-init : goal.loop-init
loop-init g c = (tt, tt, c.requires.sits, settled_none c.args.desk.now c.args.seats.now c.requires.sits, λ none. none, clocked_none c.args.desk.now c.args.seats.now (g.K.Clock.told c.args.clock.now) c.requires.sits, calls_none c.args.desk.now c.args.seats.now)

pub look_at_promise-entries-requires-clause-sits : goal.look_at_promise-entries-requires-clause-sits
look_at_promise-entries-requires-clause-sits g c κs within = c.loop.invariant.2

pub help_if-found-requires-clause-sits : goal.help_if-found-requires-clause-sits
help_if-found-requires-clause-sits g c κs within = c.look_at_promise-entries.ensures.sits

pub loop-preserved : goal.loop-preserved
loop-preserved g c =
    let desk = c.args.desk.now in (
      tt,
      tt,
      c.help_if-found.ensures.sits,
      settled_then desk c.args.seats.now c.look_at_promise-entries.new.seats c.help_if-found.new.seats
          (settled_then desk c.args.seats.now c.loop.seats c.look_at_promise-entries.new.seats c.loop.invariant.3 c.look_at_promise-entries.ensures.settled)
          c.help_if-found.ensures.settled,
      λ none. c.help_if-found.ensures.runs (c.look_at_promise-entries.ensures.runs (c.loop.invariant.4 none)),
      clocked_then desk c.args.seats.now c.look_at_promise-entries.new.seats c.help_if-found.new.seats (g.K.Clock.told c.args.clock.now) (g.K.Clock.told c.loop.clock) (g.K.Clock.told c.help_if-found.new.clock)
          (clocked_then desk c.args.seats.now c.loop.seats c.look_at_promise-entries.new.seats (g.K.Clock.told c.args.clock.now) (g.K.Clock.told c.loop.clock) (g.K.Clock.told c.loop.clock) c.loop.invariant.5
          (clocked_rest c.args.desk.now c.loop.seats c.look_at_promise-entries.new.seats (g.K.Clock.told c.loop.clock) (look_ends c.args.desk.now.pool c.args.desk.now.slots.id c.args.codec c.args.promise c.look_at_promise-entries.result c.args.desk.now.codecs.items c.loop.seats.codecs.items c.look_at_promise-entries.new.seats.codecs.items c.loop.invariant.2.codecs c.look_at_promise-entries.ensures.looked)))
          c.help_if-found.ensures.timed,
      calls_then desk c.args.seats.now c.look_at_promise-entries.new.seats c.help_if-found.new.seats [] []
          (calls_then desk c.args.seats.now c.loop.seats c.look_at_promise-entries.new.seats [] [] c.loop.invariant.6 c.look_at_promise-entries.ensures.calls) c.help_if-found.ensures.calls,
    )

pub returns-in-Some-of-clause-sits : goal.returns-in-Some-of-clause-sits
returns-in-Some-of-clause-sits g c = c.look_at_promise-entries.ensures.sits

pub returns-in-Some-of-clause-settled : goal.returns-in-Some-of-clause-settled
returns-in-Some-of-clause-settled g c = settled_then c.args.desk.now c.args.seats.now c.loop.seats c.look_at_promise-entries.new.seats c.loop.invariant.3 c.look_at_promise-entries.ensures.settled

pub returns-in-Some-of-clause-ended : goal.returns-in-Some-of-clause-ended
returns-in-Some-of-clause-ended g c =
    saw_earlier c.args.codec c.args.promise c.look_at_promise-entries.result c.in-Some-of.end c.args.desk.now.codecs.items c.args.seats.now.codecs.items c.loop.seats.codecs.items c.look_at_promise-entries.new.seats.codecs.items
    (sym (ap state_of c.in-Some-of.is) ∙ c.of.ensures) c.loop.invariant.3.seats c.look_at_promise-entries.ensures.looked

pub returns-in-Some-of-clause-runs : goal.returns-in-Some-of-clause-runs
returns-in-Some-of-clause-runs g c none = c.look_at_promise-entries.ensures.runs (c.loop.invariant.4 none)

pub returns-in-Some-of-clause-timed : goal.returns-in-Some-of-clause-timed
returns-in-Some-of-clause-timed g c =
    clocked_then c.args.desk.now c.args.seats.now c.loop.seats c.look_at_promise-entries.new.seats (g.K.Clock.told c.args.clock.now) (g.K.Clock.told c.loop.clock) (g.K.Clock.told c.loop.clock) c.loop.invariant.5
    (clocked_rest c.args.desk.now c.loop.seats c.look_at_promise-entries.new.seats (g.K.Clock.told c.loop.clock) (look_ends c.args.desk.now.pool c.args.desk.now.slots.id c.args.codec c.args.promise c.look_at_promise-entries.result c.args.desk.now.codecs.items c.loop.seats.codecs.items c.look_at_promise-entries.new.seats.codecs.items c.loop.invariant.2.codecs c.look_at_promise-entries.ensures.looked))

pub returns-in-Some-of-clause-calls : goal.returns-in-Some-of-clause-calls
returns-in-Some-of-clause-calls g c = calls_then c.args.desk.now c.args.seats.now c.loop.seats c.look_at_promise-entries.new.seats [] [] c.loop.invariant.6 c.look_at_promise-entries.ensures.calls
