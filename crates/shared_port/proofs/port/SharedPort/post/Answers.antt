use Rattle.std.proofs.Common.{Option, sym, subst}
use Rattle.atomic_table.specs.Seated.{TableId}
use Rattle.shared_port.proofs.Rules.{posts}
use Rattle.shared_port.proofs.port.SharedPort.post.Goals as goal
use Rattle.shared_port.specs.Rule.{IsCarried}

pub push_as-requires-clause-rule : goal.push_as-requires-clause-rule
push_as-requires-clause-rule g c n =
    posts _ g.M.Carried.is_of n _ _ _ c.requires.pass.has_parts (subst (λ (o : Option TableId). IsCarried g.M.Carried.is_of o c.args.medium) (sym c.requires.pass.pool) c.requires.of)
