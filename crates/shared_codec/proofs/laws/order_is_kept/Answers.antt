use Rattle.shared_codec.proofs.Ordering.{media_order, slot_order}
use Rattle.shared_codec.proofs.laws.order_is_kept.Goals as goal

pub returns-clause-slots : goal.returns-clause-slots
returns-clause-slots c = slot_order

pub returns-clause-media : goal.returns-clause-media
returns-clause-media c = media_order
