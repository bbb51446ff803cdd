use Rattle.std.proofs.Common.{◌≡◌, length}
use Rattle.media_variables.specs.Variables.{all_but, steps_in}
use Rattle.media_variables.specs.Held.{AreOf, seen_in}
use Rattle.media_variables.specs.Given.{MayEnd}
use Rattle.media_variables.proofs.BufferLaws.{IsGone, letting}
use Rattle.media_variables.proofs.buffered.let_all_go.Given as goal

-- what was let go, with what is left, is all
abbrev pub invariant-loop-left : goal.invariant-loop-left
invariant-loop-left g l =
    let js = all_but l.adopted (steps_in l.left) in
    let whole = letting (all_but l.fn.adopted (steps_in l.fn.list)) (seen_in l.fn.variables.items) in
    record {
      held : AreOf (g.P.RefPool.is_of l.pool) l.variables.items;
      apart : MayEnd g.P.RefPool.adds g.P.RefPool.is_of (seen_in l.variables.items);
      variables : (letting js (seen_in l.variables.items)).variables ≡ whole.variables;
      does : IsGone g.P.RefPool.adds l.who l.fn.pool l.pool js (seen_in l.variables.items) whole;
    }

abbrev pub decreases-loop-left : goal.decreases-loop-left
decreases-loop-left g l = length l.left
