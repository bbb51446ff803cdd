use Rattle.std.proofs.Common.{refl, rules, codes}
use Rattle.std.specs.Fmt.{signed_decimal}
use Rattle.std.proofs.lemmas.Result.{IfOk-weaker}
use Rattle.report_text.specs.Text as spec
use Rattle.report_text.proofs.events.push_picture.Goals as goal
use Rattle.report_text.proofs.Hex.{output_line}

pub returns : goal.returns
returns c =
    IfOk-weaker c.push_content.result _ _ (λ _ is. output_line (codes " ") (codes "\n") _ _ (spec.picture_text c.args.picture.now.shape) _ (signed_decimal c.args.picture.now.shape.timestamp) _ (spec.number_or_dash c.args.picture.now.shape.duration) _ _ _ _ _ _ refl c.as_slice.ensures c.in_ok-push_text.ensures c.in_ok-push_picture_shape.ensures is (search rules) (search rules)) c.push_content.ensures
