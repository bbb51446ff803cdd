use Rattle.std.proofs.Common.{[]}
use Rattle.codec_desk.specs.TallyLaws.{clocked_none, clocked_rest, clocked_then}
use Rattle.codec_desk.specs.DeskLaws.{settled_none, settled_then}
use Rattle.codec_desk.specs.NamedLaws.{calls_none, calls_then}
use Rattle.desk_threads.proofs.Resting.{items_rested, tasks_rested}
use Rattle.desk_threads.proofs.settling.settle_desk.Goals as goal

pub loop-init : goal.loop-init
loop-init g c = (tt, tt, c.requires, settled_none c.args.desk.now c.args.seats.now c.requires, λ none. none, calls_none c.args.desk.now c.args.seats.now, clocked_none c.args.desk.now c.args.seats.now (g.K.Clock.told c.args.clock.now) c.requires)

pub item_round-worked-requires-after_bounds : goal.item_round-worked-requires-after_bounds
item_round-worked-requires-after_bounds g c κs within = c.loop.invariant.2

pub turn_round-turned-requires-after_bounds : goal.turn_round-turned-requires-after_bounds
turn_round-turned-requires-after_bounds g c κs within = c.item_round-worked.ensures.sits

pub loop-preserved : goal.loop-preserved
loop-preserved g c =
    let desk = c.args.desk.now in
    let a = c.args.seats.now in
    let w = c.item_round-worked.new.seats in
    let b = c.turn_round-turned.new.seats in
    let t = g.K.Clock.told c.args.clock.now in
    let u = g.K.Clock.told c.item_round-worked.new.clock in (
      tt,
      tt,
      c.turn_round-turned.ensures.sits,
      settled_then desk a c.item_round-worked.new.seats c.turn_round-turned.new.seats
          (settled_then desk a c.loop.seats c.item_round-worked.new.seats c.loop.invariant.3 c.item_round-worked.ensures.settled) c.turn_round-turned.ensures.settled,
      λ none. c.turn_round-turned.ensures.runs (c.item_round-worked.ensures.runs (c.loop.invariant.4 none)),
      calls_then desk a c.item_round-worked.new.seats c.turn_round-turned.new.seats [] []
          (calls_then desk a c.loop.seats c.item_round-worked.new.seats [] [] c.loop.invariant.5 c.item_round-worked.ensures.calls) c.turn_round-turned.ensures.calls,
      clocked_then desk a w b t u u
          (clocked_then desk a c.loop.seats w t (g.K.Clock.told c.loop.clock) u c.loop.invariant.6 c.item_round-worked.ensures.timed)
          (clocked_rest desk w b u c.turn_round-turned.ensures.ends),
    )

pub returns-then-not-either-clause-sits : goal.returns-then-not-either-clause-sits
returns-then-not-either-clause-sits g c = c.turn_round-turned.ensures.sits

pub returns-then-not-either-clause-settled : goal.returns-then-not-either-clause-settled
returns-then-not-either-clause-settled g c =
    let desk = c.args.desk.now in
    let a = c.args.seats.now in
    settled_then desk a c.item_round-worked.new.seats c.turn_round-turned.new.seats
    (settled_then desk a c.loop.seats c.item_round-worked.new.seats c.loop.invariant.3 c.item_round-worked.ensures.settled) c.turn_round-turned.ensures.settled

pub returns-then-not-either-clause-rested : goal.returns-then-not-either-clause-rested
returns-then-not-either-clause-rested g c =
    let desk = c.args.desk.now in
    let m = c.loop.seats in
    let w = c.item_round-worked.new.seats in
    let b = c.turn_round-turned.new.seats in
    let none = c.either.ensures c.if-not-either.true in
    let items = c.item_round-worked.ensures.rested none.0 in
    let tasks = c.turn_round-turned.ensures.rested none.1 in
    let one = c.item_round-worked.ensures.settled in
    let two = c.turn_round-turned.ensures.settled in
    record {
      middle = m;
      before = c.loop.invariant.3;
      after = settled_then desk m w b one two;
      items = items_rested desk.codecs.items m.codecs.items w.codecs.items b.codecs.items one.seats items two.seats tasks;
      tasks = tasks_rested desk.codecs.items m.codecs.items w.codecs.items b.codecs.items one.seats items two.seats tasks;
    }

pub returns-then-not-either-clause-runs : goal.returns-then-not-either-clause-runs
returns-then-not-either-clause-runs g c none = c.turn_round-turned.ensures.runs (c.item_round-worked.ensures.runs (c.loop.invariant.4 none))

pub returns-then-not-either-clause-calls : goal.returns-then-not-either-clause-calls
returns-then-not-either-clause-calls g c =
    let desk = c.args.desk.now in
    let a = c.args.seats.now in
    calls_then desk a c.item_round-worked.new.seats c.turn_round-turned.new.seats [] []
    (calls_then desk a c.loop.seats c.item_round-worked.new.seats [] [] c.loop.invariant.5 c.item_round-worked.ensures.calls) c.turn_round-turned.ensures.calls

pub returns-then-not-either-clause-timed : goal.returns-then-not-either-clause-timed
returns-then-not-either-clause-timed g c =
    let desk = c.args.desk.now in
    let a = c.args.seats.now in
    let w = c.item_round-worked.new.seats in
    let b = c.turn_round-turned.new.seats in
    let t = g.K.Clock.told c.args.clock.now in
    let u = g.K.Clock.told c.item_round-worked.new.clock in
    clocked_then desk a w b t u u
    (clocked_then desk a c.loop.seats w t (g.K.Clock.told c.loop.clock) u c.loop.invariant.6 c.item_round-worked.ensures.timed)
    (clocked_rest desk w b u c.turn_round-turned.ensures.ends)
