-- Numbers in rising order.
use Rattle.std.specs.Prelude.{ℕ, ◌+◌, ◌≤◌, List, [], ◌∷◌}

-- from the first bound on and below the second, each more than the one before it
abbrev pub RisesFrom : ℕ → List ℕ → ℕ → Type 0
RisesFrom low [] high = low ≤ high
RisesFrom low (n ∷ ns) high = (low ≤ n) × RisesFrom (n + 1) ns high

-- in rising order, and below this number
pub record IsRising (ns : List ℕ) (high : ℕ) : Type 0 where
  pub rises : RisesFrom 0 ns high
