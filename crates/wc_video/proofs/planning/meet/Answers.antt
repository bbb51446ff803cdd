use Rattle.std.proofs.Common.{ℕ, ◌*◌, ap, ◌∙◌, min}
use Rattle.wc_video.specs.Layouts.{end_of}
use Rattle.wc_video.proofs.PlanLaws.{meets_so}
use Rattle.wc_video.proofs.planning.meet.Goals as goal

pub returns : goal.returns
returns c =
    let a = c.args.c.now in
    let b = c.args.d.now in
    meets_so a.layout.offset (a.layout.stride * a.rows) b.layout.offset (end_of b) c.max.result c.min.result c.max.ensures
    (c.min.ensures ∙ (ap (λ (k : ℕ). min k c.end_of-2.result) c.end_of.ensures ∙ ap (min (end_of a)) c.end_of-2.ensures))
