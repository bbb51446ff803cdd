use Rattle.shared_port.proofs.Rules.{gives}
use Rattle.shared_port.proofs.port.SharedPort.give_mouth.Goals as goal

pub another-mouth-requires-clause-rule : goal.another-mouth-requires-clause-rule
another-mouth-requires-clause-rule g c = gives _ g.M.Carried.is_of _ _ c.requires.pass.1
