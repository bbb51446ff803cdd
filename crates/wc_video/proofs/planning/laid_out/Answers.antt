use Rattle.std.proofs.Common.{◌≡◌, List, length, arith, ap, subst, sym, ◌∙◌}
use Rattle.std.specs.Prelude.{◌&&◌, IfSome, is_some, Bool}
use Rattle.std.specs.List.{list_all}
use Rattle.std.proofs.lemmas.Bool.{eq-eqb}
use Rattle.picture_planes.specs.Planes.{planes_in}
use Rattle.wc_video.specs.declared.layout.PlaneLayout.{PlaneLayout}
use Rattle.wc_video.specs.Layouts.{copies_from, copies_in, is_fit}
use Rattle.wc_video.proofs.PlanLaws.{laid_items}
use Rattle.wc_video.proofs.planning.laid_out.Goals as goal

pub returns-clause-some : goal.returns-clause-some
returns-clause-some c =
    let same = laid_items c.args.planes.now c.args.layouts.now c.placement-first.result c.placement-second.result c.placement-third.result c.count-count.result c.count-count.ensures (omega (arith, c.if-layouts-count.false)) c.placement-first.ensures c.placement-second.ensures c.placement-third.ensures in
    subst (λ (ls : List PlaneLayout). IfSome c.plan_at.result (λ p. copies_in p ≡ copies_from 0 c.args.shape.now c.args.r.now (planes_in c.args.planes.now) ls)) same c.plan_at.ensures.some

pub returns-clause-fit : goal.returns-clause-fit
returns-clause-fit c =
    let same = laid_items c.args.planes.now c.args.layouts.now c.placement-first.result c.placement-second.result c.placement-third.result c.count-count.result c.count-count.ensures (omega (arith, c.if-layouts-count.false)) c.placement-first.ensures c.placement-second.ensures c.placement-third.ensures in
    let fits = subst (λ (ls : List PlaneLayout). is_some c.plan_at.result ≡ list_all is_fit (copies_from 0 c.args.shape.now c.args.r.now (planes_in c.args.planes.now) ls)) same c.plan_at.ensures.fit in
    let long : length c.args.layouts.now ≡ length (planes_in c.args.planes.now) = omega (arith, c.if-layouts-count.false, c.count-count.ensures) in
    fits ∙ sym (ap (λ (b : Bool). b && list_all is_fit (copies_from 0 c.args.shape.now c.args.r.now (planes_in c.args.planes.now) c.args.layouts.now)) (eq-eqb (length c.args.layouts.now) (length (planes_in c.args.planes.now)) long))
