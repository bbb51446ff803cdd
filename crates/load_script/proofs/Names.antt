-- The names of variables: each is a name, and no two are the same.
use Rattle.std.proofs.Common.{ℕ, ◌≡◌, ◌≢◌, ◌+◌, ◌^◌, ◌<◌, ◌≤◌, true, false, List, [], ◌∷◌, ◌++◌, length, decimal, Some, None, refl, ap, ◌∙◌, arith, rules, bytes_eq, length-append}
use Rattle.std.specs.List.{list_all}
use Rattle.std.specs.Char.{is_ascii_digit}
use Rattle.std.specs.Str.Parse.{digits_value}
use Rattle.std.proofs.lemmas.Bool.{false_from_ne_true, le-leb, lt-ltb, and_from}
use Rattle.std.proofs.lemmas.Fmt.{digits_decimal, decimal_injective, length-decimal-le}
use Rattle.std.proofs.lemmas.List.Folds.{list_any-append}
use Rattle.std.proofs.lemmas.List.Sums.{AllPass-from_list_all, list_all-from_AllPass}
use Rattle.std.proofs.lemmas.Slice.Eq.{bytes_eq-Decides}
use Rattle.std.proofs.lemmas.Str.Parse.{IsNumeralModel, numerals_by_value}
use Rattle.script_types.specs.declared.steps.Step.{Step}
use Rattle.script_types.specs.declared.steps.VariableKind.{VariableKind}
use Rattle.script_types.specs.Names.{is_name, is_name_byte, binds, defines, is_bound_as, is_variable_name}
use Rattle.load_script.specs.Script.{name_of}

own : IsNumeralModel (λ ds. list_all is_ascii_digit ds ≡ true) (digits_value 10)
own = numerals_by_value _ (search rules)

name_bytes : (n : ℕ) → n < 2 ^ 64 → list_all is_name_byte (decimal n) ≡ true
name_bytes n lt = list_all-from_AllPass is_name_byte (decimal n) (λ i d below. (let digit = AllPass-from_list_all is_ascii_digit (decimal n) (digits_decimal own n lt) i d below in grind (arith, digit)))

pub is_name_of : (n : ℕ) → n < 100000 → is_name (name_of n) ≡ true
is_name_of n lt =
    let short : length (decimal n) ≤ 5 = length-decimal-le 5 n (omega arith) (omega (arith, lt)) (omega (arith, lt)) in
    and_from _ _ (lt-ltb 0 (length (name_of n)) (omega arith)) (and_from _ _ (le-leb (length (name_of n)) 32 (omega (arith, short))) (name_bytes n (omega (arith, lt))))

pub names_differ : (a b : ℕ) → a < 100000 → b < 100000 → a ≢ b → bytes_eq (name_of a) (name_of b) ≡ false
names_differ a b la lb other = false_from_ne_true (bytes_eq (name_of a) (name_of b)) (λ e.
    (let same : name_of a ≡ name_of b = (bytes_eq-Decides (name_of a) (name_of b)).0 e in
    let digits : decimal a ≡ decimal b = cc in
    other (decimal_injective a b (omega (arith, la)) (omega (arith, lb)) digits)))

-- no step of these defines a variable with the name of a later step
pub record AreFresh (before : List Step) : Type 0 where
  pub later : (j : ℕ) → length before ≤ j → j < 100000 → is_variable_name before (name_of j) ≡ false

-- what a step at this place may bind: nothing, or the variable of its own name
pub data BindsOwn (place : ℕ) (x : Step) : Type 0 where
  nothing : binds x ≡ None → BindsOwn place x
  own_name : (kind : VariableKind) → binds x ≡ Some (name_of place, kind) → BindsOwn place x

not_defined : (place j : ℕ) (x : Step) → place < j → j < 100000 → BindsOwn place x → defines (name_of j) x ≡ false
not_defined place j x lt few (nothing is) = ap (is_bound_as (name_of j)) is
not_defined place j x lt few (own_name kind is) = ap (is_bound_as (name_of j)) is ∙ names_differ place j (omega (arith, lt, few)) few (λ e. omega (arith, lt, e))

pub nothing_before : AreFresh []
nothing_before = record { later = λ j le few. refl }

pub fresh_next : (before : List Step) (x : Step) → AreFresh before → BindsOwn (length before) x → AreFresh (before ++ x ∷ [])
fresh_next before x fresh binding = record {
  later = λ j le few.
      (let long : length before + 1 ≤ j = omega (arith, le, length-append before (x ∷ [])) in
      let none : is_variable_name before (name_of j) ≡ false = fresh.later j (omega (arith, long)) few in
      let other : defines (name_of j) x ≡ false = not_defined (length before) j x (omega (arith, long)) few binding in
      list_any-append (λ s. defines (name_of j) s) before (x ∷ []) ∙ rw (none, other) refl);
}
