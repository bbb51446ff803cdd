use Rattle.desk_tests.proofs.Keeping.{kept_none, kept_then}
use Rattle.desk_tests.proofs.desks.call_all.Goals as goal

pub loop-step-init : goal.loop-step-init
loop-step-init g c = record { kept = kept_none c.args.desk.now c.args.seats.now c.requires }

pub loop-step-preserved : goal.loop-step-preserved
loop-step-preserved g c = record { kept = kept_then c.args.desk.now c.args.seats.now c.loop-step.seats c.call_each.new.seats c.loop-step.invariant.kept c.call_each.ensures }

pub returns-in_err-call_each : goal.returns-in_err-call_each
returns-in_err-call_each g c = kept_then c.args.desk.now c.args.seats.now c.loop-step.seats c.call_each.new.seats c.loop-step.invariant.kept c.call_each.ensures
