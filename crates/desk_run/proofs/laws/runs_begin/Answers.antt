use Rattle.codec_desk.specs.Desks.{SitsAt}
use Rattle.desk_run.proofs.FirstSeats.{none_at_work}
use Rattle.desk_run.proofs.laws.runs_begin.Goals as goal

pub returns : goal.returns
returns g c desk a at none = none_at_work (SitsAt desk.pool desk.slots.id) 0 desk.codecs.items a.codecs.items at.codecs none.codecs
