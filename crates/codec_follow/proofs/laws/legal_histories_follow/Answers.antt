use Rattle.codec_follow.proofs.Erased.{legal_follows, legal_fills, units_in_order}
use Rattle.codec_follow.proofs.laws.legal_histories_follow.Goals as goal

pub returns : goal.returns
returns c = record {
  follows = legal_follows;
  fills = legal_fills;
  order = units_in_order;
}
