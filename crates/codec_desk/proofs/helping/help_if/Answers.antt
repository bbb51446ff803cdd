use Rattle.std.proofs.Common.{[]}
use Rattle.codec_desk.specs.TallyLaws.{clocked_none, clocked_then, clocked_rest}
use Rattle.codec_desk.specs.DeskLaws.{settled_none, settled_then}
use Rattle.codec_desk.specs.NamedLaws.{calls_none, calls_then}
use Rattle.codec_desk.proofs.Going.{turn_ends}
use Rattle.codec_desk.proofs.helping.help_if.Goals as goal

pub turn_once-turned-requires-clause-sits : goal.turn_once-turned-requires-clause-sits
turn_once-turned-requires-clause-sits g c κs within = c.work_item-worked.ensures.sits

pub returns-clause-sits : goal.returns-clause-sits
returns-clause-sits g c = c.turn_once-turned.ensures.sits

pub returns-clause-settled : goal.returns-clause-settled
returns-clause-settled g c = settled_then c.args.desk.now c.args.seats.now c.work_item-worked.new.seats c.turn_once-turned.new.seats c.work_item-worked.ensures.settled c.turn_once-turned.ensures.settled

pub returns-clause-runs : goal.returns-clause-runs
returns-clause-runs g c none = c.turn_once-turned.ensures.runs (c.work_item-worked.ensures.runs none)

pub returns-clause-timed : goal.returns-clause-timed
returns-clause-timed g c =
    let desk = c.args.desk.now in
    clocked_then desk c.args.seats.now c.work_item-worked.new.seats c.turn_once-turned.new.seats (g.K.Clock.told c.args.clock.now) (g.K.Clock.told c.work_item-worked.new.clock) (g.K.Clock.told c.work_item-worked.new.clock) c.work_item-worked.ensures.timed
    (clocked_rest desk c.work_item-worked.new.seats c.turn_once-turned.new.seats (g.K.Clock.told c.work_item-worked.new.clock) (turn_ends desk.pool desk.slots.id c.args.codec c.turn_once-turned.result desk.codecs.items c.work_item-worked.new.seats.codecs.items c.turn_once-turned.new.seats.codecs.items c.work_item-worked.ensures.sits.codecs c.turn_once-turned.ensures.turned))

pub returns-clause-calls : goal.returns-clause-calls
returns-clause-calls g c = calls_then c.args.desk.now c.args.seats.now c.work_item-worked.new.seats c.turn_once-turned.new.seats [] [] c.work_item-worked.ensures.calls c.turn_once-turned.ensures.calls

pub returns-then-not-over-clause-settled : goal.returns-then-not-over-clause-settled
returns-then-not-over-clause-settled g c = settled_none c.args.desk.now c.args.seats.now c.requires.sits

pub returns-then-not-over-clause-timed : goal.returns-then-not-over-clause-timed
returns-then-not-over-clause-timed g c = clocked_none c.args.desk.now c.args.seats.now (g.K.Clock.told c.args.clock.now) c.requires.sits

pub returns-then-not-over-clause-calls : goal.returns-then-not-over-clause-calls
returns-then-not-over-clause-calls g c = calls_none c.args.desk.now c.args.seats.now
