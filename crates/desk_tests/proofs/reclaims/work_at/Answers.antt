use Rattle.desk_tests.proofs.Keeping.{kept_none}
use Rattle.desk_tests.proofs.reclaims.work_at.Goals as goal

pub returns-in_err-moments : goal.returns-in_err-moments
returns-in_err-moments g c = kept_none c.args.desk.now c.args.seats.now c.requires.sits
