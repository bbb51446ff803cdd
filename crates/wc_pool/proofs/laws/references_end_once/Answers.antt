use Rattle.wc_pool.proofs.Once.{ends_once}
use Rattle.wc_pool.proofs.laws.references_end_once.Goals as goal

pub returns : goal.returns
returns c = λ h m n d e f legal left right a b. ends_once h legal m n d e f left right a b
