-- Numbers and bytes, with the mark that ends each (our choice: decimal with leading zeros allowed, hex in either case, and
-- `-` for what is absent and for no bytes).
use Rattle.std.specs.Prelude.{ℕ, ◌-◌, ◌^◌, List, [], ◌∷◌, length, codes, Option, Some, None, nat_lt, nat_le, ◌==◌, if◌then◌else◌, ◌&&◌, bytes_eq, ℤ, pos, negsuc, Result, Ok, Err}
use Rattle.std.specs.List.{list_all}
use Rattle.std.specs.Char.{is_ascii_digit}
use Rattle.std.specs.Str.Parse.{digits_value}
use Rattle.hex.specs.Hex.{decode_of}
use Rattle.hex.specs.declared.error.FromHexError.{FromHexError}
use Rattle.report_lines.specs.Words.{◌>>=◌, upto}

-- Words of one field.

-- the number that some digits write, below 2 ^ 64
abbrev pub value_of : List ℕ → Option ℕ
value_of digits = if nat_lt 0 (length digits) && nat_lt (digits_value 10 digits) (2 ^ 64) then Some (digits_value 10 digits) else None

unfoldable pub number_of : List ℕ → Option ℕ
number_of word = if list_all is_ascii_digit word then value_of word else None

abbrev pub short : ℕ → Option ℕ
short n = if nat_lt n (2 ^ 32) then Some n else None

abbrev pub below_zero : ℕ → Option ℤ
below_zero n = if nat_lt 0 n && nat_le n (2 ^ 63) then Some (negsuc (n - 1)) else None

abbrev pub from_zero : ℕ → Option ℤ
from_zero n = if nat_lt n (2 ^ 63) then Some (pos n) else None

abbrev pub signed_of : List ℕ → Option ℤ
signed_of [] = None
signed_of (b ∷ bs) = if b == 45 then number_of bs >>= below_zero else number_of (b ∷ bs) >>= from_zero

abbrev pub number_or_dash_of : List ℕ → Option (Option ℕ)
number_or_dash_of word = if bytes_eq word (codes "-") then Some None else (number_of word >>= λ n. Some (Some n))

abbrev pub decoded : Result (List ℕ) FromHexError → Option (List ℕ)
decoded (Ok bytes) = Some bytes
decoded (Err e) = None

abbrev pub bytes_of : List ℕ → Option (List ℕ)
bytes_of [] = None
bytes_of (b ∷ bs) = if bytes_eq (b ∷ bs) (codes "-") then Some [] else decoded (decode_of (b ∷ bs))

-- Fields, with their mark.

unfoldable pub number_upto : ℕ → List ℕ → Option (ℕ × List ℕ)
number_upto mark bs = do
  word ← upto mark bs
  n ← number_of word.0
  Some (n, word.1)

unfoldable pub short_upto : ℕ → List ℕ → Option (ℕ × List ℕ)
short_upto mark bs = do
  n ← number_upto mark bs
  k ← short n.0
  Some (k, n.1)

unfoldable pub signed_upto : ℕ → List ℕ → Option (ℤ × List ℕ)
signed_upto mark bs = do
  word ← upto mark bs
  z ← signed_of word.0
  Some (z, word.1)

unfoldable pub number_or_dash_upto : ℕ → List ℕ → Option (Option ℕ × List ℕ)
number_or_dash_upto mark bs = do
  word ← upto mark bs
  n ← number_or_dash_of word.0
  Some (n, word.1)

unfoldable pub bytes_upto : ℕ → List ℕ → Option (List ℕ × List ℕ)
bytes_upto mark bs = do
  word ← upto mark bs
  bytes ← bytes_of word.0
  Some (bytes, word.1)
