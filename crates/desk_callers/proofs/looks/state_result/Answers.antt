use Rattle.desk_callers.proofs.Seen.{saw_state}
use Rattle.desk_callers.proofs.looks.state_result.Goals as goal

pub returns-clause-saw : goal.returns-clause-saw
returns-clause-saw g c = saw_state c.args.desk.now c.args.codec c.look_codec-length.result c.args.seats.now c.look_codec-length.new.seats c.look_codec-length.ensures.looked c.look_codec-length.ensures.helped.settled.seats
