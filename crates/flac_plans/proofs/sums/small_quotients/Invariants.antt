use Rattle.std.proofs.Common.{◌≡◌, take}
use Rattle.flac_plans.specs.Search.{quotients}
use Rattle.flac_plans.proofs.sums.small_quotients.Given as goal

abbrev pub invariant-loop-z : goal.invariant-loop-z
invariant-loop-z l = l.sum ≡ quotients l.k (take l.z-index l.zs)
