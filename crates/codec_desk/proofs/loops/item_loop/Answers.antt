use Rattle.std.proofs.Common.{[]}
use Rattle.codec_desk.specs.TallyLaws.{clocked_none, clocked_then}
use Rattle.codec_desk.specs.DeskLaws.{settled_none, settled_then}
use Rattle.codec_desk.specs.NamedLaws.{calls_none, calls_then}
use Rattle.codec_desk.specs.Rests.{NoItem}
use Rattle.codec_desk.proofs.Going.{looked_each}
use Rattle.codec_desk.proofs.loops.item_loop.Goals as goal

pub loop-init : goal.loop-init
loop-init g c = (tt, tt, c.requires, settled_none c.args.desk.now c.args.seats.now c.requires, λ none. none, clocked_none c.args.desk.now c.args.seats.now (g.K.Clock.told c.args.clock.now) c.requires, calls_none c.args.desk.now c.args.seats.now)

pub item_round-found-requires-after_bounds : goal.item_round-found-requires-after_bounds
item_round-found-requires-after_bounds g c κs within = c.loop.invariant.2

pub loop-preserved : goal.loop-preserved
loop-preserved g c = (tt, tt, c.item_round-found.ensures.sits, settled_then c.args.desk.now c.args.seats.now c.loop.seats c.item_round-found.new.seats c.loop.invariant.3 c.item_round-found.ensures.settled, λ none. c.item_round-found.ensures.runs (c.loop.invariant.4 none), clocked_then c.args.desk.now c.args.seats.now c.loop.seats c.item_round-found.new.seats (g.K.Clock.told c.args.clock.now) (g.K.Clock.told c.loop.clock) (g.K.Clock.told c.item_round-found.new.clock) c.loop.invariant.5 c.item_round-found.ensures.timed, calls_then c.args.desk.now c.args.seats.now c.loop.seats c.item_round-found.new.seats [] [] c.loop.invariant.6 c.item_round-found.ensures.calls)

pub returns-then-not-found-clause-sits : goal.returns-then-not-found-clause-sits
returns-then-not-found-clause-sits g c = c.item_round-found.ensures.sits

pub returns-then-not-found-clause-settled : goal.returns-then-not-found-clause-settled
returns-then-not-found-clause-settled g c = settled_then c.args.desk.now c.args.seats.now c.loop.seats c.item_round-found.new.seats c.loop.invariant.3 c.item_round-found.ensures.settled

pub returns-then-not-found-clause-looked : goal.returns-then-not-found-clause-looked
returns-then-not-found-clause-looked g c =
    looked_each NoItem c.args.desk.now.codecs.items c.args.seats.now.codecs.items c.loop.seats.codecs.items c.item_round-found.new.seats.codecs.items c.loop.invariant.3.seats (c.item_round-found.ensures.rested c.if-not-found.true)

pub returns-then-not-found-clause-runs : goal.returns-then-not-found-clause-runs
returns-then-not-found-clause-runs g c none = c.item_round-found.ensures.runs (c.loop.invariant.4 none)

pub returns-then-not-found-clause-timed : goal.returns-then-not-found-clause-timed
returns-then-not-found-clause-timed g c = clocked_then c.args.desk.now c.args.seats.now c.loop.seats c.item_round-found.new.seats (g.K.Clock.told c.args.clock.now) (g.K.Clock.told c.loop.clock) (g.K.Clock.told c.item_round-found.new.clock) c.loop.invariant.5 c.item_round-found.ensures.timed

pub returns-then-not-found-clause-calls : goal.returns-then-not-found-clause-calls
returns-then-not-found-clause-calls g c = calls_then c.args.desk.now c.args.seats.now c.loop.seats c.item_round-found.new.seats [] [] c.loop.invariant.6 c.item_round-found.ensures.calls
