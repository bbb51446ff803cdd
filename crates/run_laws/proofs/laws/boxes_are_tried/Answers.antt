use Rattle.run_laws.proofs.Together.{boxes_are_tried}
use Rattle.run_laws.proofs.laws.boxes_are_tried.Goals as goal

pub returns : goal.returns
returns c = boxes_are_tried
