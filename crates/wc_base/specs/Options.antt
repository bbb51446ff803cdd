-- What an optional value gives that is there.
use Rattle.std.proofs.Common.{◌≡◌, Bool, true, false, cond, Option, Some, None, refl}

pub some_same : {X : Type 0} (a t : X) → Some a ≡ Some t → a ≡ t
some_same a t h = cc

-- a value that is there only under a test
pub cond_is : {X : Type 0} (b : Bool) (o : Option X) (t : X) → cond b o None ≡ Some t → (b ≡ true) × (o ≡ Some t)
cond_is true o t h = (refl, h)
cond_is false o t h = absurd cc
