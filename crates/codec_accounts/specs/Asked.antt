-- The start under which a codec's box went out (our choice).
use Rattle.std.specs.Prelude.{ℕ, suc, Bool, true, false, cond, List, [], ◌∷◌, Option, Some, None}
use Rattle.codec_model.specs.declared.entry.Opening.{Opening}
use Rattle.codec_model.specs.declared.entry.Entry.{Entry}
use Rattle.codec_accounts.specs.Boxes.{Act, Asks, Begins, Ends, Removes, Other, acts_of}

-- Of a codec after some entries: whether an item is at work, whether it began before a removal, and the place of the start
-- that asked for the box which the codec, or its item at work, has; none where it has none.
pub record Asked : Type 0 where
  pub runs : Bool
  pub old : Bool
  pub since : Option ℕ

abbrev pub nothing_asked : Asked
nothing_asked = record { runs = false; old = false; since = None }

-- A start that lacks a box asks for one. A removal lets the box go, unless an item is at work with it: then its end does.
abbrev pub asked_by : Act → ℕ → Asked → Asked
asked_by (Asks id) place x = record { runs = true; old = false; since = Some place }
asked_by Begins place x = record { runs = true; old = false; since = x.since }
asked_by Ends place x = record { runs = false; old = false; since = cond x.old None x.since }
asked_by Removes place x = record { runs = x.runs; old = x.runs; since = cond x.runs x.since None }
asked_by Other place x = x

abbrev pub asked_from : ℕ → Asked → List Act → Asked
asked_from place x [] = x
asked_from place x (a ∷ rest) = asked_from (suc place) (asked_by a place x) rest

abbrev pub asked_in : List Act → Asked
asked_in acts = asked_from 0 nothing_asked acts

-- the place of the start for which the box went out that the codec has after this history
abbrev pub asked_at : Opening → List Entry → Option ℕ
asked_at o history = (asked_in (acts_of o history)).since
