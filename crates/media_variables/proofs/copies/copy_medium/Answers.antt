use Rattle.std.proofs.Common.{◌∙◌, sym, ap}
use Rattle.std.proofs.lemmas.Result.{IfOk-weaker}
use Rattle.media_variables.specs.Held.{whole_of}
use Rattle.media_variables.proofs.CopyLaws.{frame_by}
use Rattle.media_variables.proofs.copies.copy_medium.Goals as goal

pub returns-in-Frame : goal.returns-in-Frame
returns-in-Frame c =
    let seen = sym (ap whole_of c.in-Frame.is) ∙ c.kind.ensures in
    IfOk-weaker c.copy_frame.result _ _ (λ r e. e ∙ frame_by c.in-Frame.frame c.args.medium.now c.args.options.now c.args.size seen) c.copy_frame.ensures
