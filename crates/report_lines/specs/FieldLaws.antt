-- What is written as a field is read again, whatever stands behind it, and what is read is within its type.
use Rattle.std.specs.Prelude.{ℕ, ℤ, ◌≡◌, ◌≢◌, ◌<◌, ◌^◌, true, false, List, ◌∷◌, ◌++◌, length, decimal, Option, Some, IfSome, slice_index_or}
use Rattle.std.specs.List.{list_all}
use Rattle.std.specs.Char.{is_ascii_digit}
use Rattle.std.specs.Fmt.{signed_decimal}
use Rattle.std.specs.Int.Signed.{mag}
use Rattle.hex.specs.Hex.{IsBytes, is_hex_digit}
use Rattle.report_lines.specs.Words.{upto, after, is_word_byte, word_at}
use Rattle.report_lines.specs.Fields.{number_upto, short_upto, signed_upto, number_or_dash_upto, bytes_upto}
use Rattle.report_text.specs.Text.{number_or_dash, hex_or_dash}

-- no byte is the mark
abbrev pub Lacks : ℕ → List ℕ → Type 0
Lacks mark word = (i : ℕ) → i < length word → slice_index_or word i 0 ≢ mark

abbrev pub BytesBeforeAMark : Type 0
BytesBeforeAMark = (mark : ℕ) (word rest : List ℕ) → Lacks mark word → upto mark (word ++ mark ∷ rest) ≡ Some (word, rest)

abbrev pub PrefixAgain : Type 0
PrefixAgain = (prefix rest : List ℕ) → after prefix (prefix ++ rest) ≡ Some rest

abbrev pub PrefixOnly : Type 0
PrefixOnly = (prefix bs rest : List ℕ) → after prefix bs ≡ Some rest → bs ≡ prefix ++ rest

abbrev pub WordAgain : Type 0
WordAgain = (mark : ℕ) (word rest : List ℕ) → list_all is_word_byte word ≡ true → is_word_byte mark ≡ false → word_at (word ++ mark ∷ rest) ≡ Some (word, mark, rest)

abbrev pub NumberAgain : Type 0
NumberAgain = (mark n : ℕ) (rest : List ℕ) → n < 2 ^ 64 → is_ascii_digit mark ≡ false → number_upto mark (decimal n ++ mark ∷ rest) ≡ Some (n, rest)

abbrev pub ShortAgain : Type 0
ShortAgain = (mark n : ℕ) (rest : List ℕ) → n < 2 ^ 32 → is_ascii_digit mark ≡ false → short_upto mark (decimal n ++ mark ∷ rest) ≡ Some (n, rest)

abbrev pub SignedAgain : Type 0
SignedAgain = (mark : ℕ) (z : ℤ) (rest : List ℕ) → mag z < 2 ^ 63 → 45 ≢ mark → is_ascii_digit mark ≡ false → signed_upto mark (signed_decimal z ++ mark ∷ rest) ≡ Some (z, rest)

abbrev pub FitsOrAbsent : Option ℕ → Type 0
FitsOrAbsent n = (k : ℕ) → n ≡ Some k → k < 2 ^ 64

abbrev pub NumberOrDashAgain : Type 0
NumberOrDashAgain = (mark : ℕ) (n : Option ℕ) (rest : List ℕ) → FitsOrAbsent n → 45 ≢ mark → is_ascii_digit mark ≡ false → number_or_dash_upto mark (number_or_dash n ++ mark ∷ rest) ≡ Some (n, rest)

abbrev pub BytesAgain : Type 0
BytesAgain = (mark : ℕ) (bytes rest : List ℕ) → IsBytes bytes → 45 ≢ mark → is_hex_digit mark ≡ false → bytes_upto mark (hex_or_dash bytes ++ mark ∷ rest) ≡ Some (bytes, rest)

-- bytes that are read up to a mark lack it
abbrev pub BytesLackTheMark : Type 0
BytesLackTheMark = (mark : ℕ) (bs : List ℕ) → IfSome (upto mark bs) (λ x. Lacks mark x.0)

abbrev pub NumberFits : Type 0
NumberFits = (mark : ℕ) (bs : List ℕ) → IfSome (number_upto mark bs) (λ x. x.0 < 2 ^ 64)

abbrev pub ShortFits : Type 0
ShortFits = (mark : ℕ) (bs : List ℕ) → IfSome (short_upto mark bs) (λ x. x.0 < 2 ^ 32)

abbrev pub SignedFits : Type 0
SignedFits = (mark : ℕ) (bs : List ℕ) → IfSome (signed_upto mark bs) (λ x. mag x.0 < 2 ^ 63)

abbrev pub NumberOrDashFits : Type 0
NumberOrDashFits = (mark : ℕ) (bs : List ℕ) → IfSome (number_or_dash_upto mark bs) (λ x. FitsOrAbsent x.0)

abbrev pub BytesFit : Type 0
BytesFit = (mark : ℕ) (bs : List ℕ) → IfSome (bytes_upto mark bs) (λ x. IsBytes x.0)
