use Rattle.shared_slots.proofs.Out.{out_now}
use Rattle.shared_slots.proofs.laws.live_claims_are_boxes_out.Goals as goal

pub returns : goal.returns
returns c = out_now
