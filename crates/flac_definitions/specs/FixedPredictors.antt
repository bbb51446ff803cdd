-- Fixed predictors and their residuals (RFC 9639, section 9.2.5).
use Rattle.std.specs.Prelude.{ℕ, zero, suc, ℤ, pos, ◌+◌, ◌-◌, ◌^◌, ◌+ℤ◌, ◌-ℤ◌, ◌*ℤ◌, nat_lt, Bool, true, false, List, [], ◌∷◌, length, map, get_or, if◌then◌else◌}
use Rattle.std.specs.List.{range_with_len}
use Rattle.flac_definitions.specs.ResidualSpelling.{folded_value}

abbrev pub at : List ℤ → ℕ → ℤ
at xs i = get_or xs i (pos 0)

-- the prediction of order 0 to 4 for sample `i`, from those before it
abbrev pub predicted : ℕ → List ℤ → ℕ → ℤ
predicted zero xs i = pos 0
predicted (suc zero) xs i = at xs (i - 1)
predicted (suc (suc zero)) xs i = (pos 2 *ℤ at xs (i - 1)) -ℤ at xs (i - 2)
predicted (suc (suc (suc zero))) xs i = ((pos 3 *ℤ at xs (i - 1)) -ℤ (pos 3 *ℤ at xs (i - 2))) +ℤ at xs (i - 3)
predicted (suc (suc (suc (suc o)))) xs i = (((pos 4 *ℤ at xs (i - 1)) -ℤ (pos 6 *ℤ at xs (i - 2))) +ℤ (pos 4 *ℤ at xs (i - 3))) -ℤ at xs (i - 4)

abbrev pub residual_at : ℕ → List ℤ → ℕ → ℤ
residual_at o xs i = at xs i -ℤ predicted o xs i

-- the residual: a value for each sample behind the first `o`
abbrev pub residuals : ℕ → List ℤ → List ℤ
residuals o xs = map (λ j. residual_at o xs (o + j)) (range_with_len 0 (length xs - o))

abbrev pub folded_residual : ℕ → List ℤ → List ℕ
folded_residual o xs = map folded_value (residuals o xs)

-- whether each value is from -2 ^ 31 + 1 to 2 ^ 31 - 1 (section 9.2.7.3)
abbrev pub is_in_range : ℤ → Bool
is_in_range v = nat_lt (folded_value v) (2 ^ 32 - 1)

abbrev pub are_in_range : List ℤ → Bool
are_in_range [] = true
are_in_range (v ∷ vs) = if is_in_range v then are_in_range vs else false
