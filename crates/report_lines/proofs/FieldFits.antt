-- What is read as a field is within its type.
use Rattle.std.proofs.Common.{◌≡◌, ℕ, ◌^◌, ◌<◌, Bool, true, false, cond, eqb, ltb, leb, ◌&&◌, List, [], ◌∷◌, length, Option, Some, None, Result, Ok, Err, refl, sym, ◌∙◌, arith, eq-eqb, codes, ℤ}
use Rattle.std.specs.Prelude.{IfSome}
use Rattle.std.specs.List.{list_all}
use Rattle.std.specs.Char.{is_ascii_digit}
use Rattle.std.specs.Str.{bytes_eq}
use Rattle.std.specs.Str.Parse.{digits_value}
use Rattle.std.specs.Int.Signed.{mag}
use Rattle.std.proofs.lemmas.Bool.{false≢true, ltb-true, leb-true, and_parts}
use Rattle.hex.specs.{Hex.IsBytes, Hex.decode_of, declared.error.FromHexError.FromHexError}
use Rattle.hex.proofs.HexLemmas.{decode_of-ok}
use Rattle.report_lines.specs.{Words.◌>>=◌, Words.upto, FieldLaws.Lacks, FieldLaws.FitsOrAbsent}
use Rattle.report_lines.specs.Fields.{number_of, short, below_zero, signed_of, number_or_dash_of, decoded, bytes_of, number_upto, short_upto, signed_upto, number_or_dash_upto, bytes_upto}
use Rattle.report_lines.proofs.{FieldLaws.lacks_cons}

-- ---- one step, and then another

-- what is known of a step, and of what is made of its value
pub bind_fits : {A B : Type 0} (Q : A → Type 0) (P : B → Type 0) (o : Option A) (f : A → Option B) → IfSome o Q → ((x : A) → Q x → IfSome (f x) P) → IfSome (o >>= f) P
bind_fits Q P None f fits h = tt
bind_fits Q P (Some x) f fits h = h x fits

-- nothing is known of the step
pub bind_any : {A B : Type 0} (P : B → Type 0) (o : Option A) (f : A → Option B) → ((x : A) → IfSome (f x) P) → IfSome (o >>= f) P
bind_any P None f h = tt
bind_any P (Some x) f h = h x

pub if_fits : {B : Type 0} (P : B → Type 0) (q : Bool) (a b : Option B) → (q ≡ true → IfSome a P) → (q ≡ false → IfSome b P) → IfSome (cond q a b) P
if_fits P true a b h k = h refl
if_fits P false a b h k = k refl

-- ---- words of one field

abbrev IsBelow : ℕ → ℕ → Type 0
IsBelow k n = n < k

abbrev IsSmall : ℤ → Type 0
IsSmall z = mag z < 2 ^ 63

number_of_fits : (w : List ℕ) → IfSome (number_of w) (IsBelow (2 ^ 64))
unfolding number_of
number_of_fits w = if_fits (IsBelow (2 ^ 64)) (list_all is_ascii_digit w) _ _ (λ digits. if_fits (IsBelow (2 ^ 64)) (ltb 0 (length w) && ltb (digits_value 10 w) (2 ^ 64)) _ _ (λ is. ltb-true _ _ (and_parts _ _ is).1) (λ is. tt)) (λ is. tt)

pub short_of_fits : (n : ℕ) → IfSome (short n) (IsBelow (2 ^ 32))
short_of_fits n = search (if_fits, ltb-true)

below_fits : (n : ℕ) → IfSome (below_zero n) IsSmall
below_fits n = if_fits IsSmall (ltb 0 n && leb n (2 ^ 63)) _ _ (λ is. omega (arith, ltb-true 0 n (and_parts _ _ is).0, leb-true n (2 ^ 63) (and_parts _ _ is).1)) (λ is. tt)

signed_of_fits : (w : List ℕ) → IfSome (signed_of w) IsSmall
signed_of_fits [] = tt
signed_of_fits (b ∷ bs) = search (below_fits, bind_any, if_fits, ltb-true)

some_fits : (n : ℕ) → n < 2 ^ 64 → FitsOrAbsent (Some n)
some_fits n lt k e = let same : n ≡ k = cc in omega arith

none_fits : FitsOrAbsent None
none_fits k e = absurd cc

or_dash_fits : (w : List ℕ) → IfSome (number_or_dash_of w) FitsOrAbsent
or_dash_fits w = search (bind_fits (IsBelow (2 ^ 64)) FitsOrAbsent, number_of_fits, if_fits, some_fits, none_fits)

decoded_fits : (w : List ℕ) (r : Result (List ℕ) FromHexError) → decode_of w ≡ r → IfSome (decoded r) IsBytes
decoded_fits w (Ok bytes) is = (decode_of-ok w bytes is).3
decoded_fits w (Err e) is = tt

bytes_of_fits : (w : List ℕ) → IfSome (bytes_of w) IsBytes
bytes_of_fits [] = tt
bytes_of_fits (b ∷ bs) = if_fits IsBytes (bytes_eq (b ∷ bs) (codes "-")) _ _ (λ is i. omega arith) (λ is. decoded_fits (b ∷ bs) (decode_of (b ∷ bs)) refl)

-- ---- fields

pub upto_fits : (mark : ℕ) (bs : List ℕ) → IfSome (upto mark bs) (λ x. Lacks mark x.0)
upto_fits mark [] = tt
upto_fits mark (b ∷ bs) =
    if_fits (λ x. Lacks mark x.0) (eqb b mark) _ _ (λ is i lt. absurd (omega arith))
    (λ is. bind_fits (λ x. Lacks mark x.0) (λ x. Lacks mark x.0) (upto mark bs) _ (upto_fits mark bs) (λ x lacks. lacks_cons mark b x.0 (λ same. false≢true (sym is ∙ eq-eqb b mark same)) lacks))

-- a word that is read as a value, with what stands behind
with_rest : {A X : Type 0} (Q : A → Type 0) (o : Option X) (of : X → Option A) (rest : X → List ℕ) → ((x : X) → IfSome (of x) Q) → IfSome {T = A × List ℕ} (o >>= λ x. of x >>= λ n. Some (n, rest x)) (λ y. Q y.0)
with_rest Q o of rest h = bind_any (λ y. Q y.0) o _ (λ x. bind_fits Q (λ y. Q y.0) (of x) _ (h x) (λ n own. own))

pub number_fits : (mark : ℕ) (bs : List ℕ) → IfSome (number_upto mark bs) (λ x. x.0 < 2 ^ 64)
unfolding number_upto
number_fits mark bs = with_rest (IsBelow (2 ^ 64)) (upto mark bs) (λ w. number_of w.0) (λ w. w.1) (λ w. number_of_fits w.0)

pub short_fits : (mark : ℕ) (bs : List ℕ) → IfSome (short_upto mark bs) (λ x. x.0 < 2 ^ 32)
unfolding short_upto
short_fits mark bs = with_rest (IsBelow (2 ^ 32)) (number_upto mark bs) (λ n. short n.0) (λ n. n.1) (λ n. short_of_fits n.0)

pub signed_fits : (mark : ℕ) (bs : List ℕ) → IfSome (signed_upto mark bs) (λ x. mag x.0 < 2 ^ 63)
unfolding signed_upto
signed_fits mark bs = with_rest IsSmall (upto mark bs) (λ w. signed_of w.0) (λ w. w.1) (λ w. signed_of_fits w.0)

pub number_or_dash_fits : (mark : ℕ) (bs : List ℕ) → IfSome (number_or_dash_upto mark bs) (λ x. FitsOrAbsent x.0)
unfolding number_or_dash_upto
number_or_dash_fits mark bs = with_rest FitsOrAbsent (upto mark bs) (λ w. number_or_dash_of w.0) (λ w. w.1) (λ w. or_dash_fits w.0)

pub bytes_fits : (mark : ℕ) (bs : List ℕ) → IfSome (bytes_upto mark bs) (λ x. IsBytes x.0)
unfolding bytes_upto
bytes_fits mark bs = with_rest IsBytes (upto mark bs) (λ w. bytes_of w.0) (λ w. w.1) (λ w. bytes_of_fits w.0)
