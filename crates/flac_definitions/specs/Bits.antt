-- Bits in order, the most significant of each byte first (RFC 9639, section 5), and where a reader of bits stands.
use Rattle.std.specs.Prelude.{ℕ, zero, suc, ◌≡◌, ◌+◌, ◌-◌, ◌*◌, ◌/◌, ◌%◌, ◌^◌, ◌==◌, nat_lt, Bool, true, false, List, [], ◌∷◌, ◌++◌, length, take, drop, Option, Some, None, if◌then◌else◌}
use Rattle.std.specs.List.{flat_map}

-- the `size` binary digits of a number, the most significant first
unfoldable pub bits_of : ℕ → ℕ → List Bool
bits_of zero n = []
bits_of (suc size) n = (n / 2 ^ size % 2 == 1) ∷ bits_of size n

-- the number that bits spell
unfoldable pub number_of : List Bool → ℕ
number_of [] = 0
number_of (b ∷ bs) = (if b then 2 ^ length bs else 0) + number_of bs

-- the bits of bytes
unfoldable pub bits_in : List ℕ → List Bool
bits_in bytes = flat_map (bits_of 8) bytes

-- how many bits lack to a byte
abbrev pub bits_to_byte : ℕ → ℕ
bits_to_byte n = (8 - n % 8) % 8

-- where a reader stands: bits up to `at` were read
pub record Place : Type 0 where
  pub bytes : List ℕ
  pub at : ℕ

-- the bits that were not read yet
abbrev pub ahead : Place → List Bool
ahead p = drop p.at (bits_in p.bytes)

-- how many they are
abbrev pub left : Place → ℕ
left p = 8 * length p.bytes - p.at

abbrev pub forward : ℕ → Place → Place
forward n p = record { bytes = p.bytes; at = p.at + n }

-- the number of the next `n` bits, and the place behind them; none where fewer are left
abbrev pub number_at : ℕ → Place → Option (ℕ × Place)
number_at n p = if nat_lt (left p) n then None else Some (number_of (take n (ahead p)), forward n p)

-- the number of zeros before the first 1
unfoldable pub zeros_before : List Bool → Option ℕ
zeros_before [] = None
zeros_before (true ∷ bs) = Some 0
zeros_before (false ∷ bs) = elim (zeros_before bs) [ None ↦ None | Some n ↦ Some (n + 1) ]

abbrev pub behind_one : Place → Option ℕ → Option (ℕ × Place)
behind_one p None = None
behind_one p (Some n) = Some (n, forward (n + 1) p)

-- the number of zeros before the next 1, and the place behind it; none where no 1 is left
abbrev pub zeros_at : Place → Option (ℕ × Place)
zeros_at p = behind_one p (zeros_before (ahead p))

-- bits that come next
pub record Begins (p : Place) (bits : List Bool) : Type 0 where
  pub rest : List Bool
  pub whole : ahead p ≡ bits ++ rest

-- before the first bit of some bytes
abbrev pub start_of : List ℕ → Place
start_of bytes = record { bytes = bytes; at = 0 }
