use Rattle.desk_tests.proofs.Keeping.{kept_none}
use Rattle.desk_tests.proofs.desks.call_one.Goals as goal

pub returns-in_err-call : goal.returns-in_err-call
returns-in_err-call g c = kept_none c.args.desk.now c.args.seats.now c.requires.sits

pub returns-in-Ok : goal.returns-in-Ok
returns-in-Ok g c =
    let e = c.call_once.ensures in
    record { sits = e.sits; settled = e.settled; runs = λ none. e.runs none }

pub returns-in-Err : goal.returns-in-Err
returns-in-Err g c =
    let e = c.call_once.ensures in
    record { sits = e.sits; settled = e.settled; runs = λ none. e.runs none }
