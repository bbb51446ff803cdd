use Rattle.std.proofs.Common.{map, length}
use Rattle.desk_run.proofs.FirstSeats.{sits_opened, parts_opened, all_opened}
use Rattle.desk_run.proofs.opening.open_desk.Goals as goal

pub finish_desk-requires-clause-sits : goal.finish_desk-requires-clause-sits
finish_desk-requires-clause-sits g c κs within =
    let e = c.open_codecs.ensures in
    sits_opened c.args.openings.now c.args.calls (map g.C.Coder.coder c.args.coders.items) (length c.args.openings.now) c.in_ok-desk.desk c.open_codecs.new.desk c.in_ok-desk.seats c.open_codecs.new.seats c.in_ok-desk.ensures e.pool e.slots e.opened

pub finish_desk-requires-clause-parts : goal.finish_desk-requires-clause-parts
finish_desk-requires-clause-parts g c κs within =
    let e = c.open_codecs.ensures in
    parts_opened c.args.openings.now c.args.calls (map g.C.Coder.coder c.args.coders.items) (length c.args.openings.now) c.in_ok-desk.desk c.open_codecs.new.desk c.in_ok-desk.seats c.open_codecs.new.seats c.in_ok-desk.ensures e.pool e.slots e.opened

pub returns-in-Ok : goal.returns-in-Ok
returns-in-Ok g c =
    let e = c.open_codecs.ensures in
    all_opened c.args.openings.now c.args.calls (map g.C.Coder.coder c.args.coders.items) (length c.args.openings.now) c.in_ok-desk.desk c.open_codecs.new.desk c.in_ok-desk.seats c.open_codecs.new.seats c.in_ok-desk.ensures e.pool e.slots e.opened c.in-Ok.ensures.all
