use Rattle.std.proofs.Common.{◌^◌}
use Rattle.desk_threads.specs.PartLaws.{parts_after}
use Rattle.desk_tests.proofs.desks.call_and_complete.Goals as goal

pub complete_desk-left-requires-clause-sits : goal.complete_desk-left-requires-clause-sits
complete_desk-left-requires-clause-sits g c κs within = c.call_all-called.ensures.sits

pub complete_desk-left-requires-clause-parts : goal.complete_desk-left-requires-clause-parts
complete_desk-left-requires-clause-parts g c κs within = parts_after c.args.desk (2 ^ 32) c.args.seats c.call_all-called.new.seats c.requires.parts c.call_all-called.ensures.settled

pub complete_desk-left-requires-clause-balanced : goal.complete_desk-left-requires-clause-balanced
complete_desk-left-requires-clause-balanced g c κs within =
    let e = c.accounts_are_kept.ensures in
    e.kept c.args.desk c.args.seats c.call_all-called.new.seats c.call_all-called.ensures.settled (e.first c.args.desk c.args.seats c.requires.none)

pub complete_desk-left-requires-clause-order : goal.complete_desk-left-requires-clause-order
complete_desk-left-requires-clause-order g c κs within =
    let e = c.order_stands.ensures in
    e.kept c.args.desk c.args.seats c.call_all-called.new.seats c.call_all-called.ensures.settled (e.first c.args.desk c.args.seats c.requires.sits c.requires.none)

pub complete_desk-left-requires-clause-runs : goal.complete_desk-left-requires-clause-runs
complete_desk-left-requires-clause-runs g c κs within = c.call_all-called.ensures.runs (c.runs_begin.ensures c.args.desk c.args.seats c.requires.sits c.requires.none)
