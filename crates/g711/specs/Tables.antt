-- The place of a number's top bit.
use Rattle.std.specs.Prelude.{ℕ, ◌+◌, ◌*◌, ◌^◌, ◌==◌, ◌&&◌, ◌||◌, nat_le, nat_lt, Bool, true, List, [], ◌∷◌}

-- bit `top` is the top bit of a number, or the number is 0
abbrev pub is_top_bit : ℕ → ℕ → Bool
is_top_bit n top = (n == 0) || (nat_le (2 ^ top) n && nat_lt n (2 * 2 ^ top))

-- these are the places of the top bits of `n` and the numbers after it
abbrev pub are_top_bits : ℕ → List ℕ → Bool
are_top_bits n [] = true
are_top_bits n (top ∷ tops) = is_top_bit n top && are_top_bits (n + 1) tops
