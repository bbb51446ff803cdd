-- A value that is there, or is not; a test that passes, or does not.
use Rattle.std.proofs.Common.{◌≡◌, Bool, true, false, Option, Some, None, is_some, refl}
use Rattle.std.specs.Prelude.{option_and_then, unwrap_or}

pub by_test : (P : Bool → Type 0) (b : Bool) → (b ≡ true → P true) → (b ≡ false → P false) → P b
by_test P true pass fail = pass refl
by_test P false pass fail = fail refl

pub by_option : {X : Type 0} (P : Option X → Type 0) (o : Option X) → P None → ((x : X) → o ≡ Some x → P (Some x)) → P o
by_option P None none some = none
by_option P (Some x) none some = some x refl

pub by_default : {X : Type 0} (P : X → Type 0) (o : Option X) (d : X) → P d → ((x : X) → o ≡ Some x → P x) → P (unwrap_or o d)
by_default P None d none some = none
by_default P (Some x) d none some = some x refl

-- what comes after a value is there, so the value is
pub comes_after : {X Y : Type 0} (f : X → Option Y) (o : Option X) → is_some (option_and_then f o) ≡ true → (x : X) × (o ≡ Some x) × (is_some (f x) ≡ true)
comes_after f None h = absurd cc
comes_after f (Some x) h = (x, refl, h)
