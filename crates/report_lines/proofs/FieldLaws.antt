-- Numbers and bytes: what the code does meets the definitions, and what is written is read again.
use Rattle.std.proofs.Common.{◌≡◌, ◌≢◌, ℕ, zero, suc, ◌-◌, ◌^◌, ◌<◌, Bool, true, false, ltb, ◌&&◌, List, [], ◌∷◌, ◌++◌, length, Option, Some, None, Result, Ok, Err, refl, sym, ap, ◌∙◌, arith, rules, decimal, codes, ℤ, pos, negsuc}
use Rattle.std.specs.List.{list_all, AllPass}
use Rattle.std.specs.Char.{is_ascii_digit}
use Rattle.std.specs.Result.{OkIff, result_ok}
use Rattle.std.specs.Fmt.{signed_decimal}
use Rattle.std.specs.Str.{IsUtf8, bytes_eq}
use Rattle.std.specs.Str.Parse.{digits_value, ParsesUnsigned}
use Rattle.std.specs.Int.Signed.{mag}
use Rattle.std.proofs.lemmas.Str.{IsUtf8-from_ascii}
use Rattle.std.proofs.lemmas.Str.Parse.{IsNumeralModel, numerals_by_value, parse_digits}
use Rattle.std.proofs.lemmas.List.Sums.{AllPass-from_list_all, list_all-from_AllPass}
use Rattle.std.proofs.lemmas.Fmt.{IsAscii-from_digits, digits_decimal, digits_value-decimal, decimal_nonempty}
use Rattle.std.proofs.lemmas.Bool.{false≢true, false_from_ne_true, ltb-true, lt-ltb, le-leb, ne_eqb, and_parts}
use Rattle.hex.specs.Hex.{decode_of, IsBytes, encode_lower, is_hex_digit, lower_digits}
use Rattle.hex.proofs.HexLemmas.{decode_of-encode_lower, decode_of-ok, length-encode_with}
use Rattle.report_lines.specs.{Words.◌>>=◌, Words.is_word_byte, FieldLaws.Lacks, FieldLaws.FitsOrAbsent}
use Rattle.report_lines.specs.Fields.{value_of, number_of, from_zero, signed_of, number_upto, short_upto, signed_upto, number_or_dash_upto, bytes_of, bytes_upto, decoded}
use Rattle.report_text.specs.Text.{number_or_dash, hex_or_dash}
use Rattle.report_lines.proofs.WordLaws.{upto_again}

-- ---- the number that digits write

own : IsNumeralModel (λ ds. list_all is_ascii_digit ds ≡ true) (digits_value 10)
own = numerals_by_value _ (search rules)

pub utf8_digits : (w : List ℕ) → list_all is_ascii_digit w ≡ true → IsUtf8 w
utf8_digits w h = IsUtf8-from_ascii w (IsAscii-from_digits w (own.to w h))

value_cases : {E : Type 0} (r : Result ℕ E) (w : List ℕ) → OkIff r ((0 < length w) × (digits_value 10 w < 2 ^ 64)) (digits_value 10 w) → result_ok r ≡ value_of w
value_cases (Ok n) w h = rw (lt-ltb _ _ h.0.0, lt-ltb _ _ h.0.1) (ap (λ (x : ℕ). Some x) h.1)
value_cases (Err e) w h = rw (false_from_ne_true (ltb 0 (length w) && ltb (digits_value 10 w) (2 ^ 64)) (λ y. let both = and_parts _ _ y in h (ltb-true _ _ both.0, ltb-true _ _ both.1))) refl

pub value_parsed : {E : Type 0} (r : Result ℕ E) (w : List ℕ) → list_all is_ascii_digit w ≡ true → ParsesUnsigned 64 10 w r → result_ok r ≡ value_of w
value_parsed r w h p = value_cases r w (parse_digits own 64 w r p h)

-- ---- what digits are, and are not

pub decimal_digits : (n : ℕ) → n < 2 ^ 64 → list_all is_ascii_digit (decimal n) ≡ true
decimal_digits n lt = digits_decimal own n lt

pub hex_digits : (bytes : List ℕ) → IsBytes bytes → AllPass is_hex_digit (encode_lower bytes)
hex_digits bytes fits = (decode_of-ok (encode_lower bytes) bytes (decode_of-encode_lower bytes fits)).1

-- bytes that pass a test lack one that fails it
lacks_other : (p : ℕ → Bool) (t : ℕ) (w : List ℕ) → AllPass p w → p t ≡ false → Lacks t w
lacks_other p t w all other i lt same = false≢true (sym other ∙ ap p (sym same) ∙ all i 0 lt)

lacks_decimal : (t n : ℕ) → n < 2 ^ 64 → is_ascii_digit t ≡ false → Lacks t (decimal n)
lacks_decimal t n lt other = lacks_other is_ascii_digit t (decimal n) (AllPass-from_list_all is_ascii_digit (decimal n) (decimal_digits n lt)) other

pub decimal_word : (n : ℕ) → n < 2 ^ 64 → list_all is_word_byte (decimal n) ≡ true
decimal_word n lt = list_all-from_AllPass is_word_byte (decimal n) (λ i d below. (let digit = AllPass-from_list_all is_ascii_digit (decimal n) (decimal_digits n lt) i d below in grind (arith, digit)))

pub hex_word : (bytes : List ℕ) → IsBytes bytes → list_all is_word_byte (hex_or_dash bytes) ≡ true
hex_word [] fits = refl
hex_word (b ∷ bytes) fits = list_all-from_AllPass is_word_byte (encode_lower (b ∷ bytes)) (λ i d lt. (let digit = hex_digits (b ∷ bytes) fits i d lt in grind (arith, digit)))

-- ---- numbers

number_of_again : (n : ℕ) → n < 2 ^ 64 → number_of (decimal n) ≡ Some n
unfolding number_of
number_of_again n lt =
    let value : digits_value 10 (decimal n) ≡ n = digits_value-decimal own n lt in
    rw (decimal_digits n lt, lt-ltb _ _ (decimal_nonempty n lt), value, lt-ltb _ _ lt) refl

pub number_again : (t n : ℕ) (rest : List ℕ) → n < 2 ^ 64 → is_ascii_digit t ≡ false → number_upto t (decimal n ++ t ∷ rest) ≡ Some (n, rest)
unfolding number_upto
number_again t n rest lt other = rw (upto_again t (decimal n) rest (lacks_decimal t n lt other), number_of_again n lt) refl

pub short_again : (t n : ℕ) (rest : List ℕ) → n < 2 ^ 32 → is_ascii_digit t ≡ false → short_upto t (decimal n ++ t ∷ rest) ≡ Some (n, rest)
unfolding short_upto
short_again t n rest lt other = rw (number_again t n rest (omega arith) other, lt-ltb _ _ lt) refl

pub lacks_cons : (t b : ℕ) (w : List ℕ) → b ≢ t → Lacks t w → Lacks t (b ∷ w)
lacks_cons t b w differs lacks zero lt = differs
lacks_cons t b w differs lacks (suc i) lt = lacks i (omega arith)

signed_of_plain : (w : List ℕ) → Lacks 45 w → 0 < length w → signed_of w ≡ (number_of w >>= from_zero)
signed_of_plain [] lacks lt = absurd (omega arith)
signed_of_plain (b ∷ w) lacks lt = rw (ne_eqb b 45 (lacks 0 (omega arith))) refl

pub signed_again : (t : ℕ) (z : ℤ) (rest : List ℕ) → mag z < 2 ^ 63 → 45 ≢ t → is_ascii_digit t ≡ false → signed_upto t (signed_decimal z ++ t ∷ rest) ≡ Some (z, rest)
unfolding signed_upto
signed_again t (pos n) rest lt dash other =
    let wide : n < 2 ^ 64 = omega arith in
    rw (upto_again t (decimal n) rest (lacks_decimal t n wide other), signed_of_plain (decimal n) (lacks_decimal 45 n wide refl) (decimal_nonempty n wide), number_of_again n wide, lt-ltb n (2 ^ 63) (omega arith)) refl
signed_again t (negsuc n) rest lt dash other =
    let wide : suc n < 2 ^ 64 = omega arith in
    let less : suc n - 1 ≡ n = omega arith in
    rw (upto_again t (45 ∷ decimal (suc n)) rest (lacks_cons t 45 (decimal (suc n)) dash (lacks_decimal t (suc n) wide other)), number_of_again (suc n) wide, lt-ltb 0 (suc n) (omega arith), le-leb (suc n) (2 ^ 63) (omega arith), less) refl

-- ---- numbers, or `-`

no_dash : (w : List ℕ) → Lacks 45 w → bytes_eq w (codes "-") ≡ false
no_dash [] lacks = refl
no_dash (b ∷ w) lacks = rw (ne_eqb b 45 (lacks 0 (omega arith))) refl

dash_only : (t : ℕ) → 45 ≢ t → Lacks t (codes "-")
dash_only t dash = lacks_cons t 45 [] dash (λ i lt. absurd (omega arith))

pub number_or_dash_again : (t : ℕ) (n : Option ℕ) (rest : List ℕ) → FitsOrAbsent n → 45 ≢ t → is_ascii_digit t ≡ false → number_or_dash_upto t (number_or_dash n ++ t ∷ rest) ≡ Some (n, rest)
unfolding number_or_dash_upto
number_or_dash_again t None rest fits dash other = rw (upto_again t (codes "-") rest (dash_only t dash)) refl
number_or_dash_again t (Some n) rest fits dash other =
    let lt : n < 2 ^ 64 = fits n refl in
    rw (upto_again t (decimal n) rest (lacks_decimal t n lt other), no_dash (decimal n) (lacks_decimal 45 n lt refl), number_of_again n lt) refl

-- ---- bytes

bytes_of_plain : (w : List ℕ) → Lacks 45 w → 0 < length w → bytes_of w ≡ decoded (decode_of w)
bytes_of_plain [] lacks lt = absurd (omega arith)
bytes_of_plain (b ∷ w) lacks lt = rw (ne_eqb b 45 (lacks 0 (omega arith))) refl

pub bytes_again : (t : ℕ) (bytes rest : List ℕ) → IsBytes bytes → 45 ≢ t → is_hex_digit t ≡ false → bytes_upto t (hex_or_dash bytes ++ t ∷ rest) ≡ Some (bytes, rest)
unfolding bytes_upto
bytes_again t [] rest fits dash other = rw (upto_again t (codes "-") rest (dash_only t dash)) refl
bytes_again t (b ∷ bytes) rest fits dash other =
    let digits = hex_digits (b ∷ bytes) fits in
    rw (upto_again t (encode_lower (b ∷ bytes)) rest (lacks_other is_hex_digit t _ digits other), bytes_of_plain (encode_lower (b ∷ bytes)) (lacks_other is_hex_digit 45 _ digits refl) (omega (arith, length-encode_with lower_digits (b ∷ bytes))), decode_of-encode_lower (b ∷ bytes) fits) refl

pub decimal_not_nil : (n : ℕ) → n < 2 ^ 64 → bytes_eq (decimal n) [] ≡ false
decimal_not_nil n lt = elim (decimal n) as (λ w. 0 < length w → bytes_eq w [] ≡ false) [ [] ↦ λ some. absurd (omega arith) | b ∷ w ↦ λ some. refl ] (decimal_nonempty n lt)
