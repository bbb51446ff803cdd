use Rattle.std.proofs.Common.{◌≡◌, ◌+◌, true, refl, arith}
use Rattle.std.proofs.lemmas.Bool.{and_from}
use Rattle.picture_planes.specs.Planes.{picture_size, plane_size}
use Rattle.wc_video.specs.Layouts.{is_fit}
use Rattle.wc_video.proofs.PlanLaws.{there_more, fits_so, first_sizes, last_sizes}
use Rattle.wc_video.proofs.planning.plan_at.Goals as goal

pub returns-in_default-clause-laid : goal.returns-in_default-clause-laid
returns-in_default-clause-laid c =
    let shape = c.args.shape.now in
    let sizes = first_sizes c.args.planes.now shape c.requires.planes in
    let y : is_fit c.in_ok-y.y ≡ true = fits_so c.in_ok-y.y _ c.in_ok-y.ensures.some c.in_ok-y.ensures.fit in
    let u : is_fit c.in_ok-u.u ≡ true = fits_so c.in_ok-u.u _ c.in_ok-u.ensures.some c.in_ok-u.ensures.fit in
    record {
      first = there_more (0 + plane_size c.args.planes.now.first shape.width shape.height) (picture_size shape) c.in_ok-y.y (omega (arith, sizes)) c.in_ok-y.ensures.there;
      second = there_more (c.size-after.result + plane_size c.args.planes.now.second shape.width shape.height) (picture_size shape) c.in_ok-u.u (omega (arith, sizes, c.size-after.ensures)) c.in_ok-u.ensures.there;
      third = tt;
      fit = and_from (is_fit c.in_ok-y.y) _ y (and_from (is_fit c.in_ok-u.u) true u refl);
    }

pub returns-clause-laid : goal.returns-clause-laid
returns-clause-laid c =
    let shape = c.args.shape.now in
    let planes = c.args.planes.now in
    let sizes = last_sizes planes shape c.in-Some.last c.requires.planes c.in-Some.is in
    let y : is_fit c.in_ok-y.y ≡ true = fits_so c.in_ok-y.y _ c.in_ok-y.ensures.some c.in_ok-y.ensures.fit in
    let u : is_fit c.in_ok-u.u ≡ true = fits_so c.in_ok-u.u _ c.in_ok-u.ensures.some c.in_ok-u.ensures.fit in
    let v : is_fit c.in_ok-v.v ≡ true = fits_so c.in_ok-v.v _ c.in_ok-v.ensures.some c.in_ok-v.ensures.fit in
    record {
      first = there_more (0 + plane_size planes.first shape.width shape.height) (picture_size shape) c.in_ok-y.y (omega (arith, sizes)) c.in_ok-y.ensures.there;
      second = there_more (c.size-after.result + plane_size planes.second shape.width shape.height) (picture_size shape) c.in_ok-u.u (omega (arith, sizes, c.size-after.ensures)) c.in_ok-u.ensures.there;
      third = there_more (c.size-after.result + c.size.result + plane_size c.in-Some.last shape.width shape.height) (picture_size shape) c.in_ok-v.v (omega (arith, sizes, c.size-after.ensures, c.size.ensures)) c.in_ok-v.ensures.there;
      fit = and_from (is_fit c.in_ok-y.y) _ y (and_from (is_fit c.in_ok-u.u) _ u (and_from (is_fit c.in_ok-v.v) true v refl));
    }
