use Rattle.std.proofs.Common.{ℕ, ◌≡◌, ◌+◌, List, [], ◌∷◌, arith, subst, ap, ◌∙◌}
use Rattle.std.specs.Prelude.{is_some}
use Rattle.std.specs.List.{list_all}
use Rattle.picture_planes.specs.declared.plane.Plane.{Plane}
use Rattle.picture_planes.specs.Planes.{planes_in}
use Rattle.wc_video.specs.declared.layout.PlaneLayout.{PlaneLayout}
use Rattle.wc_video.specs.Layouts.{copies_from, tight_from, is_fit}
use Rattle.wc_video.proofs.PlanLaws.{first_within, tight_items}
use Rattle.wc_video.proofs.planning.tight.Goals as goal

pub overflow_add-after : goal.overflow_add-after
overflow_add-after c =
    let few = first_within c.args.planes.now c.args.shape.now c.args.r.now c.requires.planes c.requires.inside in
    omega (arith, few, c.requires.room, c.size-after.ensures, c.size.ensures)

pub returns-clause-fit : goal.returns-clause-fit
returns-clause-fit c =
    let r = c.args.r.now in
    let after : ℕ = c.size-after.result + c.size.result in
    let third = c.tight_plane-third.ensures ∙ ap (λ (p : Plane). tight_from after r (p ∷ [])) c.unwrap_or.ensures in
    let same = tight_items c.args.planes.now r c.tight_plane-first.result c.tight_plane-second.result c.tight_plane-third.result c.size-after.result after c.tight_plane-first.ensures c.tight_plane-second.ensures c.size-after.ensures third (ap (λ (k : ℕ). c.size-after.result + k) c.size.ensures) in
    subst (λ (ls : List PlaneLayout). is_some c.plan_at.result ≡ list_all is_fit (copies_from 0 c.args.shape.now r (planes_in c.args.planes.now) ls)) same c.plan_at.ensures.fit
