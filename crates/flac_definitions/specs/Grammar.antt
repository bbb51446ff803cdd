-- What bits spell, piece by piece: a piece is a relation of a value and the bits that spell it. Larger pieces are made of
-- smaller ones by the words here.
use Rattle.std.specs.Prelude.{ℕ, ◌≡◌, ◌<◌, ◌^◌, Bool, true, false, List, [], ◌∷◌, ◌++◌, length, replicate, Option, Some, Result, Ok}
use Rattle.flac_definitions.specs.Bits.{Place, forward, bits_of, Begins}

-- a number of so many bits
abbrev pub IsNumber : ℕ → ℕ → List Bool → Type 0
IsNumber n v bits = (v < 2 ^ n) × (bits ≡ bits_of n v)

-- zeros and a 1 (RFC 9639, section 9.2.7.2)
abbrev pub IsUnary : ℕ → List Bool → Type 0
IsUnary n bits = bits ≡ replicate n false ++ true ∷ []

-- no bits, and a value that is given
abbrev pub IsGiven : {X : Type 0} → Option X → X → List Bool → Type 0
IsGiven o x bits = (o ≡ Some x) × (bits ≡ [])

-- nothing is spelled
abbrev pub IsNothing : {X : Type 0} → X → List Bool → Type 0
IsNothing x bits = ⊥

-- one piece, and then one that depends on its value
pub record InOrder {X Y : Type 0} (one : X → List Bool → Type 0) (other : X → Y → List Bool → Type 0) (y : Y) (bits : List Bool) : Type 0 where
  pub value : X
  pub front : List Bool
  pub back : List Bool
  pub first : one value front
  pub second : other value y back
  pub whole : bits ≡ front ++ back

-- one of two pieces, by a test
abbrev pub Either : {X : Type 0} → Bool → (X → List Bool → Type 0) → (X → List Bool → Type 0) → X → List Bool → Type 0
Either true one other x bits = one x bits
Either false one other x bits = other x bits

-- a piece was found: its bits come next, and the place is behind them
pub record Found {X : Type 0} (is : X → List Bool → Type 0) (p q : Place) (x : X) : Type 0 where
  pub bits : List Bool
  pub fine : is x bits
  pub place : q ≡ forward (length bits) p
  pub next : Begins p bits

-- A reader reads exactly what is spelled: what it reads is found, and where bits come next that spell a value, it is read.
pub record Reads {X : Type 0} (read : Place → Option (X × Place)) (is : X → List Bool → Type 0) : Type 0 where
  pub sound : (p q : Place) (x : X) → read p ≡ Some (x, q) → Found is p q x
  pub whole : (p : Place) (x : X) (bits : List Bool) → is x bits → Begins p bits → read p ≡ Some (x, forward (length bits) p)

-- the same of a reader that names a fault
pub record ReadsOr {X E : Type 0} (read : Place → Result (X × Place) E) (is : X → List Bool → Type 0) : Type 0 where
  pub sound : (p q : Place) (x : X) → read p ≡ Ok (x, q) → Found is p q x
  pub whole : (p : Place) (x : X) (bits : List Bool) → is x bits → Begins p bits → read p ≡ Ok (x, forward (length bits) p)
