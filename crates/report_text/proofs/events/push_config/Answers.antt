use Rattle.std.proofs.Common.{codes, decimal}
use Rattle.std.proofs.lemmas.Result.{IfOk-weaker}
use Rattle.report_text.proofs.events.push_config.Goals as goal
use Rattle.report_text.proofs.Hex.{config_line}

pub returns : goal.returns
returns c =
    IfOk-weaker c.push_text.result _ _ (λ _ is. config_line _ (codes "  config ") c.args.codec.now (decimal c.args.rate) (decimal c.args.channels) _ _ _ _ c.in_ok-push_config_head.ensures c.in_ok-push_hex_or_dash.ensures is) c.push_text.ensures
