use Rattle.std.proofs.Common.{◌∙◌, ap, sym, map}
use Rattle.std.specs.Prelude.{slice_get}
use Rattle.codec_judge.specs.Lawful.{has_coder}
use Rattle.codec_judge.proofs.Lending.{for_none, none_home, has_home, lent_out}
use Rattle.codec_judge.proofs.lender.Lender.lend.Goals as goal

pub returns-in_err-place-clause-none : goal.returns-in_err-place-clause-none
returns-in_err-place-clause-none g c =
    let l = c.self.inside in
    for_none _ _ (none_home g.C.Coder.coder l.away l.coders.items c.args.self.now c.self.view_is c.requires c.args.id
    (ap (λ xs. has_coder c.args.id (map g.C.Coder.coder xs)) (sym c.deref.ensures.value) ∙ c.in_err-place.ensures.none))

pub returns-clause-some : goal.returns-clause-some
returns-clause-some g c =
    let l = c.self.inside in
    has_home g.C.Coder.coder l.away l.coders.items c.args.self.now c.self.view_is c.requires c.in_ok-place.place c.args.id
    (ap (λ xs. slice_get (map g.C.Coder.coder xs) c.in_ok-place.place) (sym c.deref.ensures.value) ∙ c.in_ok-place.ensures.some)

pub returns-clause-lent : goal.returns-clause-lent
returns-clause-lent g c =
    let l = c.self.inside in
    lent_out g.C.Coder.coder l.away l.coders.items c.args.self.now c.self.view_is c.requires c.in_ok-place.place c.args.id c.remove-coder.new.self.items
    (ap (λ xs. slice_get (map g.C.Coder.coder xs) c.in_ok-place.place) (sym c.deref.ensures.value) ∙ c.in_ok-place.ensures.some) c.remove-coder.ensures.items
