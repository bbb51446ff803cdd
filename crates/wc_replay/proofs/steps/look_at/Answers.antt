use Rattle.std.proofs.Common.{length, refl}
use Rattle.std.proofs.lemmas.Option.{slice_get_read, slice_get_past}
use Rattle.wc_replay.proofs.steps.look_at.Goals as goal

pub returns-in-Some : goal.returns-in-Some
returns-in-Some g c =
    let read = c.in-Some.ensures.lookup in
    rw (c.look-length.ensures.entries, c.end_of-end.ensures, slice_get_read c.args.desks.now (length c.args.desks.now) c.args.codec c.in-Some.desk.now refl read.3.0 read.1) refl

pub returns-in-None : goal.returns-in-None
returns-in-None g c = rw (slice_get_past c.args.desks.now c.args.codec c.in-None.ensures.lookup.3) refl
