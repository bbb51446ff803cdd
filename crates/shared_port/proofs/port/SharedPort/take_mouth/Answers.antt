use Rattle.std.proofs.Common.{◌≡◌, sym, ap, ◌∙◌}
use Rattle.shared_port.proofs.Mouths.{mouth_is}
use Rattle.shared_port.proofs.Rules.{takes}
use Rattle.shared_port.proofs.port.SharedPort.take_mouth.Goals as goal
use Rattle.shared_port.specs.declared.mouth.Mouth.{Mouth}
use Rattle.shared_port.specs.declared.rule.PortView.{PortView}
use Rattle.shared_port.specs.Mouths.{view_of}
use Rattle.shared_port.specs.Views.{mouth_view, with_mouth}

pub absorb-requires-clause-rule : goal.absorb-requires-clause-rule
absorb-requires-clause-rule g c =
    let m = c.requires.mouth in
    takes _ g.M.Carried.is_of _ _ _ _ m.got c.requires.pass.1
    (mouth_is _ m.pass c.in-Some.mouth m.got (sym c.in-Some.is ∙ (c.take.ensures.value ∙ (ap (λ (x : Mouth g.row.M.Denot). x.pass) c.state.ensures.value ∙ m.here))) m.view)

pub returns-clause-taken : goal.returns-clause-taken
returns-clause-taken g c =
    let m = c.requires.mouth in
    let is : view_of c.in-Some.mouth ≡ mouth_view m.got =
    mouth_is _ m.pass c.in-Some.mouth m.got (sym c.in-Some.is ∙ (c.take.ensures.value ∙ (ap (λ (x : Mouth g.row.M.Denot). x.pass) c.state.ensures.value ∙ m.here))) m.view in
    (m.got, c.absorb.ensures.rule ∙ ap (λ (v : PortView g.row.M.Denot). with_mouth (view_of c.args.pass.now) v) is)
