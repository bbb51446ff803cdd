use Rattle.desk_callers.proofs.Growing.{stay_then}
use Rattle.desk_callers.proofs.Staying.{stay_helped}
use Rattle.desk_callers.proofs.Taking.{if_tried_since, none_found, some_found}
use Rattle.desk_callers.proofs.Ends.{ends_more}
use Rattle.desk_callers.proofs.takes.try_output.Goals as goal

pub returns-in-Err-clause-stay : goal.returns-in-Err-clause-stay
returns-in-Err-clause-stay g c = stay_helped c.args.desk.now c.args.seats.now c.look_for_output.new.seats c.look_for_output.ensures.helped

pub take_found-requires-clause-sighted : goal.take_found-requires-clause-sighted
take_found-requires-clause-sighted g c κs within =
    some_found c.args.desk.now c.args.codec c.in-Ok.seen c.in-Some.next c.args.seats.now c.look_for_output.new.seats c.in-Ok.ensures.looked c.in-Some.is

pub returns-in-Some-clause-stay : goal.returns-in-Some-clause-stay
returns-in-Some-clause-stay g c =
    stay_then c.args.desk.now c.args.seats.now c.look_for_output.new.seats c.take_found.new.seats (stay_helped c.args.desk.now c.args.seats.now c.look_for_output.new.seats c.look_for_output.ensures.helped) c.take_found.ensures.stay

pub returns-in-Some-clause-tried : goal.returns-in-Some-clause-tried
returns-in-Some-clause-tried g c =
    if_tried_since c.args.desk.now c.args.who c.args.codec c.take_found.result c.args.seats.now c.look_for_output.new.seats c.take_found.new.seats c.look_for_output.ensures.helped c.take_found.ensures.tried

pub returns-in-None-clause-stay : goal.returns-in-None-clause-stay
returns-in-None-clause-stay g c = stay_helped c.args.desk.now c.args.seats.now c.look_for_output.new.seats c.look_for_output.ensures.helped

pub returns-in-None-clause-tried : goal.returns-in-None-clause-tried
returns-in-None-clause-tried g c =
    none_found c.args.desk.now c.args.codec c.in-Ok.seen c.args.seats.now c.look_for_output.new.seats c.look_for_output.ensures.helped c.in-Ok.ensures.looked c.in-None.is

pub returns-in-Some-clause-ends : goal.returns-in-Some-clause-ends
returns-in-Some-clause-ends g c = ends_more c.args.desk.now c.args.seats.now c.look_for_output.new.seats c.take_found.new.seats c.look_for_output.ensures.ends c.take_found.ensures.ends
