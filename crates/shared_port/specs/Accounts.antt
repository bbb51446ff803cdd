-- The account of a port, once one pass has all parts.
use Rattle.std.specs.Prelude.{◌≡◌, ◌^◌, ◌≤◌, List, ◌++◌, length}
use Rattle.codec_accounts.specs.Bags.{SameBag}
use Rattle.shared_port.specs.declared.rule.PortView.{PortView}
use Rattle.shared_port.specs.Steps.{Stood}
use Rattle.shared_port.specs.Views.{Posted, placed_from}

module _ {M : Type 0} where
  -- What was posted is what was received and what is left, each with its place, and each once. What was received has the first
  -- places.
  pub record IsAccount (v : PortView M) (got left : List (Posted M)) : Type 0 where
    pub posted : SameBag v.posted (placed_from 0 (got ++ left))
    pub received : SameBag v.received (placed_from 0 got)
    pub balanced : SameBag v.posted (v.received ++ placed_from (length got) left)
    pub known : v.known ≤ length got

abbrev pub LastPassesAccount : Type 0 → Type 0
LastPassesAccount M = (v : PortView M) (got left : List (Posted M)) → Stood v got left → v.parts ≡ 2 ^ 32 → IsAccount v got left
