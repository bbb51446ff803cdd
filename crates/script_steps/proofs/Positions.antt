-- The first place at which a test passes.
use Rattle.std.proofs.Common.{◌≡◌, nat_lt, Bool, List, [], ◌∷◌, length, is_some, refl, arith}
use Rattle.std.specs.List.{list_any, position, position_or_len}

pub found_from : {X : Type 0} (p : X → Bool) (xs : List X) → nat_lt (position_or_len p xs) (length xs) ≡ list_any p xs
found_from p [] = refl
found_from p (x ∷ xs) = grind (arith, found_from p xs)

pub found_or_not : {X : Type 0} (p : X → Bool) (xs : List X) → is_some (position p xs) ≡ list_any p xs
found_or_not p xs = grind (arith, found_from p xs)
