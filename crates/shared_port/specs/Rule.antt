-- The rule that a port keeps between any two steps.
use Rattle.std.specs.Prelude.{◌≡◌, ℕ, ◌^◌, ◌<◌, ◌≤◌, List, [], ◌∷◌, ◌++◌, length, Option, Some, None}
use Rattle.std.specs.List.{sum_by}
use mathlib.Core.Option.{some}
use lib.ListN.{get_elem?}
use Rattle.atomic_table.specs.Seated.{TableId}
use Rattle.seat_lock.specs.Rule.{total}
use Rattle.shared_port.specs.declared.rule.PortView.{PortView}
use Rattle.shared_port.specs.Views.{Posted, Placed, placed_from, AreBefore}

module _ {M : Type 0} where
  -- what is summed over all passes: their parts, their mouths, and how what they posted and received weighs
  abbrev pub parts_of : PortView M → ℕ
  parts_of v = v.parts

  abbrev pub mouths_of : PortView M → ℕ
  mouths_of v = v.mouths

  abbrev pub posted_weight : (Placed M → ℕ) → PortView M → ℕ
  posted_weight t v = sum_by t v.posted

  abbrev pub received_weight : (Placed M → ℕ) → PortView M → ℕ
  received_weight t v = sum_by t v.received

  -- what a pass knows is so, where the port has this pool, had so many posts, and all this was received
  pub record IsView (pool : Option TableId) (posts : ℕ) (all : List (Posted M)) (v : PortView M) : Type 0 where
    pub pool_is : 0 < v.parts → v.pool ≡ pool
    pub spent : v.parts ≡ 0 → (v.posted ≡ []) × (v.received ≡ [])
    pub posted : AreBefore posts v.posted
    pub received : AreBefore (length all) v.received
    pub known : v.known ≤ length all
    pub mouth : v.mouths ≡ 1 → v.got ≡ all

  module _ (is_of : TableId → M → Type 0) where
    -- it is of the pool, if there is one
    abbrev pub IsCarried : Option TableId → M → Type 0
    IsCarried None m = ⊥
    IsCarried (Some pool) m = is_of pool m

    abbrev pub AreCarried : Option TableId → List (Posted M) → Type 0
    AreCarried pool [] = Unit {0}
    AreCarried pool (x ∷ xs) = IsCarried pool x.1 × AreCarried pool xs

    -- The port's line is what was received, and behind it what is left. Weighed in any way, what all passes posted weighs what
    -- the line does, and what they received weighs what its received part does.
    pub record PortRule (left : List (Posted M)) (views : List (PortView M)) : Type 0 where
      pub pool : Option TableId
      pub got : List (Posted M)
      pub parts_sum : total parts_of views ≡ 2 ^ 32
      pub mouths_sum : total mouths_of views ≡ 1
      pub posts : (t : Placed M → ℕ) → total (posted_weight t) views ≡ sum_by t (placed_from 0 (got ++ left))
      pub receipts : (t : Placed M → ℕ) → total (received_weight t) views ≡ sum_by t (placed_from 0 got)
      pub carried : AreCarried pool left
      pub each : (j : ℕ) (v : PortView M) → get_elem? views j ≡ some v → IsView pool (length (got ++ left)) got v
