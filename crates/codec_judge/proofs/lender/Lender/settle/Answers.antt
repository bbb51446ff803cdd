use Rattle.std.proofs.Common.{◌≡◌, subst, Option, Some}
use Rattle.std.specs.Prelude.{IfSome}
use Rattle.coder_api.specs.Lent.{Lent}
use Rattle.codec_judge.specs.declared.lender.Away.{Away}
use Rattle.codec_judge.proofs.Lending.{seen, settled_again}
use Rattle.codec_judge.proofs.lender.Lender.settle.Goals as goal

pub returns : goal.returns
returns g c =
    let l = c.self.inside in
    let was = c.args.self.now in
    rw c.in-Some.is (settled_again g.C.Coder.coder c.in-Some-away.away l.coders.items c.put_back.new.coders.items c.into_coder.result c.in-Some.back was
    (subst (λ (a : Option Away). seen g.C.Coder.coder a l.coders.items ≡ was) c.in-Some-away.is c.self.view_is)
    (subst (λ (o : Option Lent). IfSome o (λ b. was.out ≡ Some b.id)) c.in-Some.is c.requires) c.into_coder.ensures.id c.in_ok-put_back.ensures.items)
