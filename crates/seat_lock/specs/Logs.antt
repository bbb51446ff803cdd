-- Logs: lists of passages, each with the number of its seat.
use Rattle.std.specs.Prelude.{◌≡◌, ℕ, ◌<◌, ◌⊎◌, List, [], ◌∷◌, ◌++◌, length, Bool, true, false, ltb}
use Rattle.wc_base.specs.Views.{Log}
use Rattle.wc_base.specs.declared.seat.Passage.{Passage}
use Rattle.wc_base.specs.declared.seat.Passage.TheVariants.{Made, Look}

-- the number stands in the list
abbrev pub Has : ℕ → List ℕ → Type 0
Has n [] = ⊥
Has n (m ∷ ms) = (n ≡ m) ⊎ Has n ms

-- the number does not stand in the list
abbrev pub IsNotIn : ℕ → List ℕ → Type 0
IsNotIn n [] = Unit {0}
IsNotIn n (m ∷ ms) = ¬ (n ≡ m) × IsNotIn n ms

-- no number stands in both lists
abbrev pub AreApart : List ℕ → List ℕ → Type 0
AreApart [] b = Unit {0}
AreApart (n ∷ ns) b = IsNotIn n b × AreApart ns b

-- no number stands twice in the list
abbrev pub AreDistinct : List ℕ → Type 0
AreDistinct [] = Unit {0}
AreDistinct (n ∷ ns) = IsNotIn n ns × AreDistinct ns

module _ {E : Type 0} where
  -- no passage is of a seat with one of these numbers
  abbrev pub NoneBy : List ℕ → Log E → Type 0
  NoneBy numbers [] = Unit {0}
  NoneBy numbers (p ∷ ps) = IsNotIn p.0 numbers × NoneBy numbers ps

  -- each passage is of a seat with one of these numbers
  abbrev pub AllBy : List ℕ → Log E → Type 0
  AllBy numbers [] = Unit {0}
  AllBy numbers (p ∷ ps) = Has p.0 numbers × AllBy numbers ps

  -- the log begins with `start`, and goes on with passages of seats that have none of these numbers
  pub record Continues (numbers : List ℕ) (start log : Log E) : Type 0 where
    pub more : Log E
    pub is : log ≡ start ++ more
    pub by_others : NoneBy numbers more

  -- the numbers of all seats in the log are below n
  abbrev pub AreBelow : ℕ → Log E → Type 0
  AreBelow n [] = Unit {0}
  AreBelow n (p ∷ ps) = (p.0 < n) × AreBelow n ps

  -- the entry that a passage made, if it made one, in front of others
  abbrev pub entry_in : Passage E → List E → List E
  entry_in (Made e) es = e ∷ es
  entry_in Look es = es

  -- the entries of the passages, in order
  abbrev pub entries_of : Log E → List E
  entries_of [] = []
  entries_of (p ∷ ps) = entry_in p.1 (entries_of ps)

  abbrev pub longer_if : Bool → Log E → Log E → Log E
  longer_if true a b = b
  longer_if false a b = a

  -- the longer of two logs, of which one begins the other
  abbrev pub longer : Log E → Log E → Log E
  longer a b = longer_if (ltb (length a) (length b)) a b
