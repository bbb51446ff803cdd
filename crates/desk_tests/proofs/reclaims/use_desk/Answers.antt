use Rattle.std.proofs.Common.{◌^◌}
use Rattle.desk_threads.specs.PartLaws.{parts_after}
use Rattle.desk_tests.proofs.reclaims.use_desk.Goals as goal

pub finish_desk-left-requires-clause-parts : goal.finish_desk-left-requires-clause-parts
finish_desk-left-requires-clause-parts g c κs within = parts_after c.args.desk (2 ^ 32) c.args.seats c.configure_both-used.new.seats c.requires.parts c.configure_both-used.ensures.settled
