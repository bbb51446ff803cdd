-- Pieces that spell values, put together.
use Rattle.std.proofs.Common.{◌≡◌, Bool, true, false, List, [], ◌++◌, refl, sym, append-nil}
use Rattle.flac_definitions.specs.Grammar.{InOrder, Either}

-- one piece behind another
pub in_order : {X Y : Type 0} (one : X → List Bool → Type 0) (other : X → Y → List Bool → Type 0) (x : X) (y : Y) (a b : List Bool) → one x a → other x y b → InOrder one other y (a ++ b)
in_order one other x y a b f g = record { value = x; front = a; back = b; first = f; second = g; whole = refl }

-- one piece with a value that is given behind it
pub in_order_given : {X Y : Type 0} (one : X → List Bool → Type 0) (other : X → Y → List Bool → Type 0) (x : X) (y : Y) (a : List Bool) → one x a → other x y [] → InOrder one other y a
in_order_given one other x y a f g = record { value = x; front = a; back = []; first = f; second = g; whole = sym (append-nil a) }

pub one_of : {X : Type 0} (t : Bool) (one other : X → List Bool → Type 0) (x : X) (bits : List Bool) → t ≡ true → one x bits → Either t one other x bits
one_of true one other x bits e h = h
one_of false one other x bits e h = absurd (let n : ⊥ = cc in n)

pub other_of : {X : Type 0} (t : Bool) (one other : X → List Bool → Type 0) (x : X) (bits : List Bool) → t ≡ false → other x bits → Either t one other x bits
other_of true one other x bits e h = absurd (let n : ⊥ = cc in n)
other_of false one other x bits e h = h
