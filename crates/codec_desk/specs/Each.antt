-- Lists of which each element has a partner at its place in another list: the seats of a thread, each at a codec.
use Rattle.std.proofs.Common.{ℕ, zero, suc, ◌≡◌, ◌⊎◌, List, [], ◌∷◌, ◌++◌, Some, set}
use Rattle.std.specs.Prelude.{slice_get}

module _ {X A : Type 0} where
  -- There are as many elements as partners, and this is so of each place, partner and element; the first place is the n-th.
  abbrev pub Pairs : (ℕ → X → A → Type 0) → ℕ → List X → List A → Type 0
  Pairs Q n [] [] = Unit {0}
  Pairs Q n (x ∷ xs) (u ∷ us) = Q n x u × Pairs Q (suc n) xs us
  Pairs Q n _ _ = ⊥

  -- This is so of each partner, of its element before, and of its element now.
  abbrev pub Each : (X → A → A → Type 0) → List X → List A → List A → Type 0
  Each R [] [] [] = Unit {0}
  Each R (x ∷ xs) (u ∷ us) (v ∷ vs) = R x u v × Each R xs us vs
  Each R _ _ _ = ⊥

  -- One thing is so of the first n, and another of the others.
  abbrev pub First : (X → A → A → Type 0) → (X → A → A → Type 0) → ℕ → List X → List A → List A → Type 0
  First R S n [] [] [] = Unit {0}
  First R S zero (x ∷ xs) (u ∷ us) (v ∷ vs) = S x u v × First R S zero xs us vs
  First R S (suc n) (x ∷ xs) (u ∷ us) (v ∷ vs) = R x u v × First R S n xs us vs
  First R S n _ _ _ = ⊥

  -- This is so of one partner at least, of its element before, and of its element now.
  abbrev pub AtSome : (X → A → A → Type 0) → List X → List A → List A → Type 0
  AtSome R [] us vs = ⊥
  AtSome R (x ∷ xs) [] vs = ⊥
  AtSome R (x ∷ xs) (u ∷ us) [] = ⊥
  AtSome R (x ∷ xs) (u ∷ us) (v ∷ vs) = R x u v ⊎ AtSome R xs us vs

  -- Of the elements only the one at this place has changed, and this is so of it.
  pub record OneAt (place : ℕ) (P : X → A → A → Type 0) (xs : List X) (us vs : List A) : Type 0 where
    pub partner : X
    pub before : A
    pub after : A
    pub partner_is : slice_get xs place ≡ Some partner
    pub before_is : slice_get us place ≡ Some before
    pub after_is : vs ≡ set us place after
    pub so : P partner before after

  -- This is so of the partner at this place, of its element before, and of its element now.
  pub record IsAt (place : ℕ) (P : X → A → A → Type 0) (xs : List X) (us vs : List A) : Type 0 where
    pub partner : X
    pub before : A
    pub after : A
    pub partner_is : slice_get xs place ≡ Some partner
    pub before_is : slice_get us place ≡ Some before
    pub after_is : slice_get vs place ≡ Some after
    pub so : P partner before after

  module _ {D : Type 0} where
    -- what all of them come to, one after another
    abbrev pub total_of : (X → A → List D) → List X → List A → List D
    total_of f [] us = []
    total_of f (x ∷ xs) [] = []
    total_of f (x ∷ xs) (u ∷ us) = f x u ++ total_of f xs us
