use Rattle.std.proofs.Common.{sym, subst}
use Rattle.crossbeam_queue.specs.Fifo.{Forks}
use Rattle.shared_port.proofs.Rules.{opens}
use Rattle.shared_port.proofs.port.give_pool.Goals as goal
use Rattle.shared_port.specs.declared.rule.PortView.{PortView}
use Rattle.shared_port.specs.Rule.{PortRule}
use Rattle.shared_port.specs.Views.{opened, mouth_view}

pub another-requires-clause-rule : goal.another-requires-clause-rule
another-requires-clause-rule g c =
    subst (λ (v : PortView g.row.M.Denot). Forks (PortRule g.M.Carried.is_of) c.args.pass.now.id v (opened g.W.PoolPick.pool v) (mouth_view v.got)) (sym c.requires.pass.1)
    (opens _ g.M.Carried.is_of _ g.W.PoolPick.pool)
