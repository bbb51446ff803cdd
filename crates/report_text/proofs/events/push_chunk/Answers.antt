use Rattle.std.proofs.Common.{rules, codes}
use Rattle.std.specs.Fmt.{signed_decimal}
use Rattle.std.proofs.lemmas.Result.{IfOk-weaker}
use Rattle.report_text.specs.Text as spec
use Rattle.report_text.proofs.events.push_chunk.Goals as goal
use Rattle.report_text.proofs.Hex.{output_line}

pub returns : goal.returns
returns c =
    IfOk-weaker c.push_content.result _ _ (λ _ is. output_line (codes " ") (codes "\n") _ _ _ _ (signed_decimal c.args.chunk.now.timestamp) _ (spec.number_or_dash c.args.chunk.now.duration) _ _ _ _ _ _ c.chunk_type_text.ensures c.as_slice.ensures c.in_ok-push_text.ensures c.in_ok-push_text-2.ensures is (search rules) (search rules)) c.push_content.ensures
