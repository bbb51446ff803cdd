use Rattle.shared_port.proofs.Rules.{splits}
use Rattle.shared_port.proofs.port.SharedPort.split.Goals as goal

pub another-line-requires-clause-rule : goal.another-line-requires-clause-rule
another-line-requires-clause-rule g c = splits _ g.M.Carried.is_of _ _ c.requires.parts
