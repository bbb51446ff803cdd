-- What is known of a chain of tests that ended well.
use Rattle.std.proofs.Common.{◌≡◌, Bool, true, false, if◌then◌else◌, ◌&&◌, Option, Some, None, Result, Ok, Err, refl, sym, ap, ◌∙◌}
use Rattle.std.proofs.lemmas.Option.{same_Some}
use Rattle.chunk_files.specs.declared.fault.Stop.{Stop}
use Rattle.script_types.specs.declared.fault.Wrong.{Wrong}
use Rattle.chunk_files.specs.declared.fault.Stop.TheVariants as stop
use Rattle.script_types.specs.declared.fault.Wrong.TheVariants as wrong
use Rattle.script_steps.specs.Members.{and_then, needed, known, expected}

abbrev value_or : {A E : Type 0} → A → Result A E → A
value_or other (Ok a) = a
value_or other (Err e) = other

pub same_Ok : {A E : Type 0} (x y : A) → Path (Result A E) (Ok x) (Ok y) → x ≡ y
same_Ok {A} {E} x y h = ap (value_or {A = A} {E = E} x) h

-- the first test gave a value, and the rest went on with it
pub record Chain {A B : Type 0} (r : Result A (Stop Wrong)) (f : A → Result B (Stop Wrong)) (b : B) : Type 0 where
  pub value : A
  pub first : r ≡ Ok value
  pub rest : f value ≡ Ok b

pub chain : {A B : Type 0} (r : Result A (Stop Wrong)) (f : A → Result B (Stop Wrong)) (b : B) → and_then r f ≡ Ok b → Chain r f b
chain (Ok a) f b h = record { value = a; first = refl; rest = h }
chain (Err e) f b h = absurd cc

pub needed_some : {A : Type 0} (o : Option A) (a : A) → needed o ≡ Ok a → o ≡ Some a
needed_some (Some x) a h = ap (λ y. Some y) (same_Ok x a h)
needed_some None a h = absurd cc

pub known_some : {A : Type 0} (o : Option A) (a : A) → known o ≡ Ok a → o ≡ Some a
known_some (Some x) a h = ap (λ y. Some y) (same_Ok x a h)
known_some None a h = absurd cc

abbrev Found : {A : Type 0} → (A → Bool) → Option A → A → Type 0
Found right o a = (o ≡ Some a) × (right a ≡ true)

right_if : {A : Type 0} (right : A → Bool) (x y : A) (b : Bool) (m : Option A) → right x ≡ b
    → Path (Result (Option A) (Stop Wrong)) (if b then Ok (Some x) else Err (stop.Fault wrong.Shape)) (Ok m) → known m ≡ Ok y → Found right (Some x) y
right_if right x y true m r h k =
    let e : x ≡ y = same_Some x y (same_Ok (Some x) m h ∙ known_some m y k) in
    (ap (λ z. Some z) e, ap right (sym e) ∙ r)
right_if right x y false m r h k = absurd cc

-- what was found is of the kind that is needed
pub expected_right : {A : Type 0} (right : A → Bool) (o m : Option A) (a : A) → expected right o ≡ Ok m → known m ≡ Ok a → Found right o a
expected_right {A} right None m a h k = absurd cc
expected_right right (Some x) m a h k = right_if right x a (right x) m refl h k

pub all_true : (a b : Bool) → a ≡ true → b ≡ true → (a && b) ≡ true
all_true true b h k = k
all_true false b h k = absurd cc
