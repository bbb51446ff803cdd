use Rattle.desk_callers.proofs.Staying.{stay_settled}
use Rattle.desk_callers.proofs.Taking.{tried_by}
use Rattle.desk_callers.proofs.takes.take_found.Goals as goal

pub returns-in-Ok-clause-stay : goal.returns-in-Ok-clause-stay
returns-in-Ok-clause-stay g c = stay_settled c.args.desk.now c.args.seats.now c.take_output.new.seats c.take_output.ensures.settled

pub returns-in-Ok-clause-tried : goal.returns-in-Ok-clause-tried
returns-in-Ok-clause-tried g c =
    tried_by c.args.desk.now c.args.who c.args.codec c.in-Ok.taken c.args.next c.found_by.result c.args.seats.now c.take_output.new.seats c.requires.sits c.requires.sighted c.in-Ok.ensures.settled c.in-Ok.ensures.calls c.in-Ok.ensures.taken c.found_by.ensures

pub returns-in-Err-clause-stay : goal.returns-in-Err-clause-stay
returns-in-Err-clause-stay g c = stay_settled c.args.desk.now c.args.seats.now c.take_output.new.seats c.take_output.ensures.settled
