-- What a seat has made since.
use Rattle.std.specs.Prelude.{ℕ, ◌≡◌, cond, List, [], ◌∷◌, ◌++◌}
use Rattle.wc_base.specs.Views.{Log}
use Rattle.wc_base.specs.declared.seat.View.{View}
use Rattle.seat_lock.specs.Logs.{entry_in}
use Rattle.seat_lock.specs.Own.{is_in}

module _ {E : Type 0} where
  -- the entries of the passages with these numbers
  abbrev pub entries_by : List ℕ → Log E → List E
  entries_by numbers [] = []
  entries_by numbers (p ∷ ps) = cond (is_in p.0 numbers) (entry_in p.1 (entries_by numbers ps)) (entries_by numbers ps)

  -- A seat has made these entries since, in order, and no others.
  pub record MadeSince (v w : View E) (es : List E) : Type 0 where
    pub number : w.number ≡ v.number
    pub numbers : w.numbers ≡ v.numbers
    pub parts : w.parts ≡ v.parts
    pub more : Log E
    pub longer : w.log ≡ v.log ++ more
    pub made : entries_by v.numbers more ≡ es
