use Rattle.std.proofs.Common.{◌≡◌, ◌∙◌, ℕ, List, [], sym, ap, arith}
use Rattle.std.proofs.lemmas.Grind.{common_steps}
use Rattle.std.specs.Option.{option_copied}
use Rattle.std.specs.Option.{unwrap_or}
use Rattle.wc_video.specs.Frames.{content_of}
use Rattle.wc_video.specs.Copies.{copied_frame, plan_for}
use Rattle.report_text.specs.declared.result.StepResult.TheVariants as result
use Rattle.media_variables.proofs.CopyLaws.{size_refused, copy_refused, copy_made}
use Rattle.media_variables.proofs.copies.copy_planes.Goals as goal

pub returns-in-Err : goal.returns-in-Err
returns-in-Err c = c.refused.ensures ∙ size_refused _ _ _ _ (sym c.allocation_size.ensures ∙ c.in-Err.is)

pub returns-in_ok-shared-in-Ok-copy_to : goal.returns-in_ok-shared-in-Ok-copy_to
returns-in_ok-shared-in-Ok-copy_to c =
    let bytes : c.in_ok-shared-in-Ok-copy_to.field-0 ≡ c.copy_to.new.dst = grind (arith, common_steps) in
    let old = ap (λ (o : List ℕ). copied_frame c.args.frame.now o c.args.rect (option_copied c.args.layout)) (sym c.as_mut_slice.ensures.value) in
    ap (λ (b : List ℕ). result.CopiedFrame c.in-Ok.count c.in-Ok-copy_to.layouts b) bytes ∙ copy_made (unwrap_or (content_of c.args.frame.now) []) c.args.bytes.items _ (plan_for c.args.frame.now c.args.rect (option_copied c.args.layout)) _ _ (sym c.allocation_size.ensures ∙ c.in-Ok.is) c.in-Ok-copy_to.ensures.layouts (old ∙ c.in-Ok-copy_to.ensures.ok)

pub returns-in-Err-copy_to : goal.returns-in-Err-copy_to
returns-in-Err-copy_to c =
    let old = ap (λ (o : List ℕ). copied_frame c.args.frame.now o c.args.rect (option_copied c.args.layout)) (sym c.as_mut_slice.ensures.value) in
    c.refused-in-Err-copy_to.ensures ∙ copy_refused (unwrap_or (content_of c.args.frame.now) []) c.args.bytes.items (plan_for c.args.frame.now c.args.rect (option_copied c.args.layout)) _ (old ∙ c.in-Err-copy_to.ensures.err)
