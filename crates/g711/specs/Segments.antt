-- The intervals of both laws, where an exponent stands for a power of two.
use Rattle.std.specs.Prelude.{ℕ, ◌+◌, ◌*◌, ◌^◌, ◌≤◌, ◌<◌}

-- 16 intervals of width `8 * 2 ^ e` each, from `128 * 2 ^ e` on
pub record IsInSegment (e m n : ℕ) : Type 0 where
  pub low : (8 * m + 128) * 2 ^ e ≤ n
  pub high : n < (8 * m + 136) * 2 ^ e
