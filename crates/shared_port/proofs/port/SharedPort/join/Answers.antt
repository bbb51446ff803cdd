use Rattle.shared_port.proofs.Rules.{joins}
use Rattle.shared_port.proofs.port.SharedPort.join.Goals as goal

pub absorb-requires-clause-rule : goal.absorb-requires-clause-rule
absorb-requires-clause-rule g c = joins _ g.M.Carried.is_of _ _ _ _ c.requires.into.has_parts c.requires.from.no_mouth
