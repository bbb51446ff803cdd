-- How far numbers are from 0.
use Rattle.std.specs.Prelude.{ℕ, ℤ, pos, unsigned_abs, ◌≤◌, ◌^◌, List, slice_index_or as get_or}

-- numbers of a magnitude of at most 2 ^ n
abbrev pub AreSmall : ℕ → List ℤ → Type 0
AreSmall n xs = (i : ℕ) → unsigned_abs (get_or xs i (pos 0)) ≤ 2 ^ n
