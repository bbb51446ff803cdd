use Rattle.std.proofs.Common.{[]}
use Rattle.codec_desk.specs.Clocks.{Clocked}
use Rattle.codec_desk.specs.Desks.{SitAt, Settled}
use Rattle.codec_desk.specs.Named.{Calls}
use Rattle.codec_desk.specs.Runs.{EachRunsNone}
use Rattle.desk_threads.proofs.settling.settle_desk.Given as goal

abbrev pub invariant-loop : goal.invariant-loop
invariant-loop g l = (goal.iterator-loop g).can_next l.iterator' × (goal.iterator-loop g).is_finite l.iterator' × SitAt l.fn.desk l.seats × Settled l.fn.desk l.fn.seats l.seats × (EachRunsNone l.fn.desk.codecs.items l.fn.seats.codecs.items → EachRunsNone l.fn.desk.codecs.items l.seats.codecs.items) × Calls l.fn.desk [] l.fn.seats l.seats × Clocked l.fn.desk l.fn.seats l.seats (g.K.Clock.told l.fn.clock) (g.K.Clock.told l.clock)
