use Rattle.std.proofs.Common.{List, ◌-◌, ap, drop, length, subst, sym, take, ◌∙◌}
use Rattle.script_types.specs.declared.steps.Variable.{Variable}
use Rattle.media_variables.specs.Variables.{all_but, steps_in}
use Rattle.media_variables.specs.Held.{seen_in}
use Rattle.media_variables.proofs.BufferLaws.{IsGone, by_first, first_variables, gone_first, letting}
use Rattle.media_variables.proofs.buffered.let_all_go.Goals as goal

pub loop-left-preserved : goal.loop-left-preserved
loop-left-preserved g c =
    let left = c.loop-left.left.now in
    let first = c.first-item.result in
    let rest = take (length left - 1) (drop 1 left) in
    let is = by_first left first c.in-len1-up.len_at_least c.first-item.is in
    let vs = seen_in c.loop-left.variables.items in
    let ws = seen_in c.let_other_go.new.variables.items in
    let went = c.let_other_go.ensures in
    let whole = letting (all_but c.args.adopted (steps_in c.args.list.now)) (seen_in c.args.variables.now.items) in
    let had = c.loop-left.invariant in
    record {
      held = went.held;
      apart = went.apart;
      variables = first_variables c.args.adopted first.step (steps_in rest) vs ws went.variables ∙ (ap (λ (l : List Variable). (letting (all_but c.args.adopted (steps_in l)) vs).variables) (sym is) ∙ had.variables);
      does = gone_first g.P.RefPool.adds c.args.who c.args.pool.now c.loop-left.pool c.let_other_go.new.pool c.args.adopted first.step (steps_in rest) vs ws whole went.variables went.does
          (subst (λ (l : List Variable). IsGone g.P.RefPool.adds c.args.who c.args.pool.now c.loop-left.pool (all_but c.args.adopted (steps_in l)) vs whole) is had.does);
    }
