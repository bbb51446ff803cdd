use Rattle.std.proofs.Common.{[]}
use Rattle.codec_desk.specs.Clocks.{EndsAt}
use Rattle.codec_desk.specs.ClockLaws.{ends_none}
use Rattle.codec_desk.specs.Desks.{SitsAt}
use Rattle.codec_desk.specs.EachLaws.{each_same}
use Rattle.codec_desk.specs.DeskLaws.{settled_none, settled_then}
use Rattle.codec_desk.specs.NamedLaws.{calls_none, calls_then}
use Rattle.codec_desk.specs.Rests.{NoTask}
use Rattle.codec_desk.proofs.Going.{looked_each, ends_more}
use Rattle.codec_desk.proofs.loops.turn_loop.Goals as goal

pub loop-init : goal.loop-init
loop-init g c = (tt, tt, c.requires, settled_none c.args.desk.now c.args.seats.now c.requires, λ none. none, each_same (SitsAt c.args.desk.now.pool c.args.desk.now.slots.id) (EndsAt []) (λ n s u h. ends_none [] s u) 0 c.args.desk.now.codecs.items c.args.seats.now.codecs.items c.requires.codecs, calls_none c.args.desk.now c.args.seats.now)

pub turn_round-turned-requires-after_bounds : goal.turn_round-turned-requires-after_bounds
turn_round-turned-requires-after_bounds g c κs within = c.loop.invariant.2

pub loop-preserved : goal.loop-preserved
loop-preserved g c = (tt, tt, c.turn_round-turned.ensures.sits, settled_then c.args.desk.now c.args.seats.now c.loop.seats c.turn_round-turned.new.seats c.loop.invariant.3 c.turn_round-turned.ensures.settled, λ none. c.turn_round-turned.ensures.runs (c.loop.invariant.4 none), ends_more c.args.desk.now.codecs.items c.args.seats.now.codecs.items c.loop.seats.codecs.items c.turn_round-turned.new.seats.codecs.items c.loop.invariant.5 c.turn_round-turned.ensures.ends, calls_then c.args.desk.now c.args.seats.now c.loop.seats c.turn_round-turned.new.seats [] [] c.loop.invariant.6 c.turn_round-turned.ensures.calls)

pub returns-then-not-turned-clause-sits : goal.returns-then-not-turned-clause-sits
returns-then-not-turned-clause-sits g c = c.turn_round-turned.ensures.sits

pub returns-then-not-turned-clause-settled : goal.returns-then-not-turned-clause-settled
returns-then-not-turned-clause-settled g c = settled_then c.args.desk.now c.args.seats.now c.loop.seats c.turn_round-turned.new.seats c.loop.invariant.3 c.turn_round-turned.ensures.settled

pub returns-then-not-turned-clause-looked : goal.returns-then-not-turned-clause-looked
returns-then-not-turned-clause-looked g c =
    looked_each NoTask c.args.desk.now.codecs.items c.args.seats.now.codecs.items c.loop.seats.codecs.items c.turn_round-turned.new.seats.codecs.items c.loop.invariant.3.seats (c.turn_round-turned.ensures.rested c.if-not-turned.true)

pub returns-then-not-turned-clause-runs : goal.returns-then-not-turned-clause-runs
returns-then-not-turned-clause-runs g c none = c.turn_round-turned.ensures.runs (c.loop.invariant.4 none)

pub returns-then-not-turned-clause-ends : goal.returns-then-not-turned-clause-ends
returns-then-not-turned-clause-ends g c = ends_more c.args.desk.now.codecs.items c.args.seats.now.codecs.items c.loop.seats.codecs.items c.turn_round-turned.new.seats.codecs.items c.loop.invariant.5 c.turn_round-turned.ensures.ends

pub returns-then-not-turned-clause-calls : goal.returns-then-not-turned-clause-calls
returns-then-not-turned-clause-calls g c = calls_then c.args.desk.now c.args.seats.now c.loop.seats c.turn_round-turned.new.seats [] [] c.loop.invariant.6 c.turn_round-turned.ensures.calls
