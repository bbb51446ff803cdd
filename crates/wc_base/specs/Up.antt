-- Counts of a u64 that stand still at its greatest value.
use Rattle.std.specs.Prelude.{ℕ, ◌+◌, ◌-◌, ◌^◌, min}

-- so many more, up to the greatest value
abbrev pub up_by : ℕ → ℕ → ℕ
up_by more n = min (n + more) (2 ^ 64 - 1)

-- one more, up to the greatest value
abbrev pub up : ℕ → ℕ
up n = up_by 1 n
