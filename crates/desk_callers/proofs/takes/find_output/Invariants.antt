use Rattle.std.proofs.Common.{[]}
use Rattle.codec_desk.specs.Clocks.{EndsAt}
use Rattle.codec_desk.specs.Desks.{SitAt}
use Rattle.codec_desk.specs.Each.{Each}
use Rattle.codec_desk.specs.Runs.{EachRunsNone}
use Rattle.desk_callers.specs.Acts.{Helped}
use Rattle.desk_callers.proofs.takes.find_output.Given as goal

abbrev pub invariant-loop : goal.invariant-loop
invariant-loop g l = (goal.iterator-loop g).can_next l.iterator' × (goal.iterator-loop g).is_finite l.iterator' × SitAt l.fn.desk l.seats × Helped l.fn.desk l.fn.seats l.seats × (EachRunsNone l.fn.desk.codecs.items l.fn.seats.codecs.items → EachRunsNone l.fn.desk.codecs.items l.seats.codecs.items) × Each (EndsAt []) l.fn.desk.codecs.items l.fn.seats.codecs.items l.seats.codecs.items
