use Rattle.std.proofs.Common.{arith}
use Rattle.shared_port.proofs.Rules.{receives, had_left}
use Rattle.shared_port.proofs.rest.PortRest.next.Goals as goal

pub pop_as-requires-clause-rule : goal.pop_as-requires-clause-rule
pop_as-requires-clause-rule g c = let all = c.self.invariant.1 in (receives _ g.M.Carried.is_of _ _ (omega arith) c.self.invariant.2, had_left _ g.M.Carried.is_of _ _)
