-- Numbers that plain digits spell are read as such.
use Rattle.std.proofs.Common.{◌≡◌, ℕ, ◌^◌, ◌<◌, Bool, true, false, ltb, ◌==◌, List, [], ◌∷◌, length, Some, None, Result, Ok, Err, refl, ap, arith, rules}
use Rattle.std.specs.List.{list_all}
use Rattle.std.specs.Char.{is_ascii_digit}
use Rattle.std.specs.Result.{OkIff, result_ok}
use Rattle.std.specs.Str.Parse.{digits_value, ParsesUnsigned}
use Rattle.std.proofs.lemmas.Str.Parse.{IsNumeralModel, numerals_by_value, parse_digits}
use Rattle.std.proofs.lemmas.Bool.{false_from_ne_true, ltb-true, lt-ltb, eqb-true}
use Rattle.load_script.specs.Words.{is_plain, number_of}

own : IsNumeralModel (λ ds. list_all is_ascii_digit ds ≡ true) (digits_value 10)
own = numerals_by_value _ (search rules)

value_cases : {E : Type 0} (r : Result ℕ E) (w : List ℕ) → is_plain w ≡ true → OkIff r ((0 < length w) × (digits_value 10 w < 2 ^ 64)) (digits_value 10 w) → result_ok r ≡ number_of w
unfolding number_of
value_cases (Ok n) w plain h = rw (plain, lt-ltb _ _ h.0.1) (ap (λ (x : ℕ). Some x) h.1)
value_cases (Err e) [] plain h = absurd cc
value_cases (Err e) (c ∷ rest) plain h =
    rw (plain, false_from_ne_true (ltb (digits_value 10 (c ∷ rest)) (2 ^ 64)) (λ y. h (omega arith, ltb-true _ _ y))) refl

-- a word that is a zero, or begins with another digit, is one of digits
digits_of_zero : (c : ℕ) (rest : List ℕ) (b : Bool) → (c == 48) ≡ b → is_plain (c ∷ rest) ≡ true → list_all is_ascii_digit (c ∷ rest) ≡ true
digits_of_zero c [] true is plain = let same : c ≡ 48 = eqb-true c 48 is in rw same refl
digits_of_zero c (d ∷ rest) true is plain = grind (arith, is, plain)
digits_of_zero c rest false is plain = grind (arith, is, plain)

plain_digits : (w : List ℕ) → is_plain w ≡ true → list_all is_ascii_digit w ≡ true
plain_digits [] plain = absurd cc
plain_digits (c ∷ rest) plain = digits_of_zero c rest (c == 48) refl plain

pub plain_parsed : {E : Type 0} (r : Result ℕ E) (w : List ℕ) → is_plain w ≡ true → ParsesUnsigned 64 10 w r → result_ok r ≡ number_of w
plain_parsed r w plain p = value_cases r w plain (parse_digits own 64 w r p (plain_digits w plain))

pub not_plain : (w : List ℕ) → is_plain w ≡ false → number_of w ≡ None
unfolding number_of
not_plain w h = rw h refl
