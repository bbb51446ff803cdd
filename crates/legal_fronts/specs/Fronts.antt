-- How much of a history is legal (our choice).
use Rattle.std.specs.Prelude.{ℕ, ◌+◌, Bool, List, [], ◌∷◌, ◌++◌, if◌then◌else◌}

-- how many of the entries that follow others stand before the first that is not legal next
abbrev pub legal_after : {E : Type 0} → (List E → E → Bool) → List E → List E → ℕ
legal_after is_next before [] = 0
legal_after is_next before (e ∷ rest) = if is_next before e then legal_after is_next (before ++ e ∷ []) rest + 1 else 0

-- how many entries of a history stand before the first that is not legal after those before it
abbrev pub legal_entries : {E : Type 0} → (List E → E → Bool) → List E → ℕ
legal_entries is_next history = legal_after is_next [] history
