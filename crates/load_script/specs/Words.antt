-- The words that spell a load (our choice): the number with which its draws begin, below 2^64, and how many chunks each caller
-- has, from 1 to 5,000. A number is plain digits.
use Rattle.std.specs.Prelude.{ℕ, ◌^◌, ◌&&◌, ◌==◌, nat_lt, nat_le, Bool, false, List, [], ◌∷◌, length, Option, Some, None, option_and_then, if◌then◌else◌}
use Rattle.std.specs.Char.{is_ascii_digit}
use Rattle.std.specs.List.{list_all}
use Rattle.std.specs.Str.Parse.{digits_value}
use Rattle.load_script.specs.declared.words.Load.{Load}

-- digits with no needless zero in front
abbrev pub is_plain : List ℕ → Bool
is_plain [] = false
is_plain (c ∷ rest) = if c == 48 then length rest == 0 else list_all is_ascii_digit (c ∷ rest)

-- the number below 2^64 that a word spells
unfoldable pub number_of : List ℕ → Option ℕ
number_of word = if is_plain word && nat_lt (digits_value 10 word) (2 ^ 64) then Some (digits_value 10 word) else None

abbrev pub load_with : ℕ → ℕ → Option Load
load_with start chunks = if nat_le 1 chunks && nat_le chunks 5000 then Some (record { start = start; chunks = chunks }) else None

-- the load that two words spell
unfoldable pub load_of : List ℕ → List ℕ → Option Load
load_of start chunks = option_and_then (λ s. option_and_then (λ n. load_with s n) (number_of chunks)) (number_of start)
