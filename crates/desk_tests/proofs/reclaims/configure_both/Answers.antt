use Rattle.desk_tests.proofs.Keeping.{kept_then}
use Rattle.desk_tests.proofs.reclaims.configure_both.Goals as goal

pub returns : goal.returns
returns g c = kept_then c.args.desk.now c.args.seats.now c.configure_at.new.seats c.configure_at-2.new.seats c.configure_at.ensures c.configure_at-2.ensures
