use Rattle.std.proofs.Common.{arith}
use Rattle.flac_definitions.specs.FixedPredictors.{folded_residual}
use Rattle.flac_definitions.specs.Plans.{part_of}
use Rattle.flac_subframes.proofs.LeastLaws.{part_below, least_more}
use Rattle.flac_subframes.proofs.leasts.with_least.Goals as goal

pub returns : goal.returns
returns c =
    let a = c.args in
    let xs = a.samples.now in
    let b = c.bound_of in
    least_more xs a.size a.order a.j a.sum b.result c.requires.so_far
    (c.no_plan_is_below_leasts.ensures.parts b.result (part_of a.size a.order (folded_residual a.order xs) a.j)
    (part_below a.order a.size a.j _ a.part b.result xs c.requires.order c.requires.size c.requires.there (omega arith) c.requires.part b.ensures.below)) b.ensures.small
