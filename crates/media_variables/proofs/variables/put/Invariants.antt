use Rattle.std.proofs.Common.{◌≡◌, ◌≤◌, ◌+◌, ◌-◌, vec_capacity, vec_len}
use Rattle.media_variables.specs.Variables.{with_medium}
use Rattle.media_variables.proofs.variables.put.Given as goal

abbrev pub invariant-loop-variables : goal.invariant-loop-variables
invariant-loop-variables l =
    record { same : with_medium l.step l.medium l.variables.items ≡ with_medium l.step l.medium l.initial.variables.items; room : l.step + 1 ≤ vec_capacity l.variables }

abbrev pub decreases-loop-variables : goal.decreases-loop-variables
decreases-loop-variables l = l.step + 1 - vec_len l.variables
