-- Bytes that are drawn from a state of 64 bits, each by a step of a linear congruential generator (our choice; Knuth's MMIX).
use Rattle.std.specs.Prelude.{ℕ, zero, suc, ◌+◌, ◌*◌, ◌/◌, ◌%◌, ◌^◌, List, [], ◌∷◌}

-- the state after one draw
unfoldable pub drawn : ℕ → ℕ
drawn x = (x * 6364136223846793005 + 1442695040888963407) % 2 ^ 64

-- the byte of a draw that came to this state: its top 8 bits
unfoldable pub top_byte : ℕ → ℕ
top_byte x = x / 2 ^ 56

-- the state after so many draws
unfoldable pub state_after : ℕ → ℕ → ℕ
state_after zero x = x
state_after (suc n) x = state_after n (drawn x)

-- the bytes of so many draws
unfoldable pub bytes_drawn : ℕ → ℕ → List ℕ
bytes_drawn zero x = []
bytes_drawn (suc n) x = top_byte (drawn x) ∷ bytes_drawn n (drawn x)
