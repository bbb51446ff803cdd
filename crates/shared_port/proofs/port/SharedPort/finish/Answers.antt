use Rattle.std.proofs.Common.{sym, ◌∙◌}
use Rattle.shared_port.proofs.Mouths.{mouth_is}
use Rattle.shared_port.proofs.Rules.{takes, had_left}
use Rattle.shared_port.proofs.port.SharedPort.finish.Goals as goal

pub absorb-requires-clause-rule : goal.absorb-requires-clause-rule
absorb-requires-clause-rule g c =
    let m = c.close-pass.ensures.stands in
    takes _ g.M.Carried.is_of _ _ _ _ m.got c.requires.pass.no_mouth (mouth_is _ m.pass c.unwrap.result m.got (sym c.unwrap.ensures ∙ m.here) m.view)

pub len_as-requires-clause-rule : goal.len_as-requires-clause-rule
len_as-requires-clause-rule g c = had_left _ g.M.Carried.is_of _ _
