-- Parts of a file, one after another.
use Rattle.std.specs.Prelude.{ℕ, zero, suc, ◌+◌, ◌-◌, List, [], ◌∷◌}

-- a part: its place in the file, and the bytes of the file from there on
pub record Part : Type 0 where
  pub at : ℕ
  pub bytes : List ℕ

-- The parts that stand in bytes, of which the first comes after so many bytes and the bytes begin at a place of their file.
-- `size` says how many bytes a part takes, at least one, by the bytes from its first on; the last part may be cut.
abbrev pub parts_in : (List ℕ → ℕ) → ℕ → ℕ → List ℕ → List Part
parts_in size skipped at [] = []
parts_in size (suc n) at (b ∷ bs) = parts_in size n (at + 1) bs
parts_in size zero at (b ∷ bs) = record { at = at; bytes = b ∷ bs } ∷ parts_in size (size (b ∷ bs) - 1) (at + 1) bs
