use Rattle.std.proofs.Common.{◌≡◌, ◌+◌, ◌-◌}
use Rattle.flac_definitions.specs.Plans.{cost}
use Rattle.flac_plans.specs.Search.{IsFirstLeast}
use Rattle.flac_plans.proofs.sums.choose.Given as goal

abbrev pub invariant-loop-c : goal.invariant-loop-c
invariant-loop-c l = record {
  best : IsFirstLeast (λ k. cost k l.zs) l.low (l.low + l.c - 1) l.best;
  bits : l.bits ≡ cost l.best l.zs;
}
