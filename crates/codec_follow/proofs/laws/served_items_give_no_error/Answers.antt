use Rattle.codec_follow.proofs.ErrorLaws.{served_give_no_error}
use Rattle.codec_follow.proofs.laws.served_items_give_no_error.Goals as goal

pub returns : goal.returns
returns c = served_give_no_error
