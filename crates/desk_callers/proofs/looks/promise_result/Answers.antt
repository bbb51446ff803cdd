use Rattle.desk_callers.proofs.Seen.{saw_promise}
use Rattle.desk_callers.proofs.looks.promise_result.Goals as goal

pub returns-clause-saw : goal.returns-clause-saw
returns-clause-saw g c = saw_promise c.args.desk.now c.args.codec c.args.place c.look_at_promise-length.result c.args.seats.now c.look_at_promise-length.new.seats c.look_at_promise-length.ensures.looked c.look_at_promise-length.ensures.helped.settled.seats
