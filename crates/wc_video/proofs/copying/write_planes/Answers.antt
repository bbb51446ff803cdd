use Rattle.std.proofs.Common.{◌≡◌, ◌∙◌, ◌∷◌, true, ap, sym, subst}
use Rattle.std.specs.Prelude.{Option}
use Rattle.std.specs.List.{list_all}
use Rattle.picture_planes.specs.Planes.{maybe_one}
use Rattle.wc_video.specs.declared.layout.PlaneCopy.{PlaneCopy}
use Rattle.wc_video.specs.Layouts.{is_fit, are_apart}
use Rattle.wc_video.specs.Copies.{copy_of}
use Rattle.wc_video.proofs.CopyLaws.{two_planes, three_planes}
use Rattle.wc_video.proofs.copying.write_planes.Goals as goal

pub returns-in-Some : goal.returns-in-Some
returns-in-Some c =
    let p = c.args.p.now in
    let bytes = c.args.bytes.now in
    let old = c.args.to.now in
    let fit = subst (λ (o : Option PlaneCopy). list_all is_fit (p.first ∷ p.second ∷ maybe_one o) ≡ true) c.in-Some.is c.requires.laid.fit in
    let apart = subst (λ (o : Option PlaneCopy). are_apart (p.first ∷ p.second ∷ maybe_one o) ≡ true) c.in-Some.is c.requires.apart in
    three_planes p.first p.second c.in-Some.c bytes old c.copy_plane.new.to c.copy_plane-2.new.to c.copy_plane-in-Some.new.to fit apart c.copy_plane.ensures c.copy_plane-2.ensures c.copy_plane-in-Some.ensures
    ∙ ap (λ (o : Option PlaneCopy). copy_of (p.first ∷ p.second ∷ maybe_one o) bytes old) (sym c.in-Some.is)

pub returns-in-None : goal.returns-in-None
returns-in-None c =
    let p = c.args.p.now in
    let bytes = c.args.bytes.now in
    let old = c.args.to.now in
    two_planes p.first p.second (maybe_one p.third) bytes old c.copy_plane.new.to c.copy_plane-2.new.to c.requires.laid.fit c.requires.apart c.copy_plane.ensures c.copy_plane-2.ensures
    ∙ ap (λ (o : Option PlaneCopy). copy_of (p.first ∷ p.second ∷ maybe_one o) bytes old) (sym c.in-None.is)
