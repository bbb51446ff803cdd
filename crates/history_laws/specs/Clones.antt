-- What the entries of a history do to one clone: the reference to audio data that an encode makes and that its codec holds until
-- an entry ends it (our choice). A place is the number of an entry in its history.
use Rattle.std.specs.Prelude.{ℕ, zero, suc, ◌+◌, ◌≡◌, ◌≢◌, ◌<◌, ◌==◌, ◌&&◌, ◌⊎◌, Bool, true, false, List, [], ◌∷◌, Some, option_map, unwrap_or, if◌then◌else◌}
use Rattle.codec_model.specs.declared.entry.Opening.{Opening}
use Rattle.codec_model.specs.declared.entry.Pair.{Pair}
use Rattle.codec_model.specs.declared.entry.Entry.{Entry}
use Rattle.codec_model.specs.declared.entry.Entry.TheVariants as entry
use Rattle.codec_model.specs.Replay.{State, opening_state, step, replay}
use Rattle.codec_model.specs.Held.{held_in, front_held, lets_go, adds_held, is_done, is_removal}

abbrev pub is_same : Pair → Pair → Bool
is_same p q = (p.resource == q.resource) && (p.reference == q.reference)

-- how often the reference stands among these
abbrev pub times : Pair → List Pair → ℕ
times p [] = 0
times p (q ∷ qs) = (if is_same p q then 1 else 0) + times p qs

abbrev pub is_start : Entry → Bool
is_start (entry.Start epoch item) = true
is_start _ = false

-- What one entry does, after a state: how often it makes the clone, begins an item that holds it, and ends it; and whether it
-- is the end of an item, or a removal.
pub record Deed : Type 0 where
  pub made : ℕ
  pub begun : ℕ
  pub ended : ℕ
  pub ends_item : Bool
  pub removes : Bool

abbrev pub deed : Pair → Entry → State → Deed
deed p e s = record {
  made = times p (adds_held e);
  begun = if is_start e then times p (front_held s.control.work) else 0;
  ended = times p (lets_go e s);
  ends_item = is_done e;
  removes = is_removal e s;
}

abbrev pub deeds_from : Pair → List Entry → State → List Deed
deeds_from p [] s = []
deeds_from p (e ∷ es) s = deed p e s ∷ unwrap_or (option_map (deeds_from p es) (step e s)) []

-- what the entries of a history do, one after another
abbrev pub deeds : Pair → Opening → List Entry → List Deed
deeds p o history = deeds_from p history (opening_state o)

-- what is said of the entry at a place
abbrev pub number_at : (Deed → ℕ) → List Deed → ℕ → ℕ
number_at f [] n = 0
number_at f (d ∷ ds) zero = f d
number_at f (d ∷ ds) (suc n) = number_at f ds n

abbrev pub test_at : (Deed → Bool) → List Deed → ℕ → Bool
test_at f [] n = false
test_at f (d ∷ ds) zero = f d
test_at f (d ∷ ds) (suc n) = test_at f ds n

abbrev pub made_at : List Deed → ℕ → ℕ
made_at ds n = number_at (λ d. d.made) ds n

abbrev pub begun_at : List Deed → ℕ → ℕ
begun_at ds n = number_at (λ d. d.begun) ds n

abbrev pub ended_at : List Deed → ℕ → ℕ
ended_at ds n = number_at (λ d. d.ended) ds n

abbrev pub ends_item_at : List Deed → ℕ → Bool
ends_item_at ds n = test_at (λ d. d.ends_item) ds n

abbrev pub removes_at : List Deed → ℕ → Bool
removes_at ds n = test_at (λ d. d.removes) ds n

-- the clone's item began, with no removal since the clone was made, and this is the first end of an item since
pub record IsEndOfItem (ds : List Deed) (place end : ℕ) : Type 0 where
  pub start : ℕ
  pub after : place < start
  pub before : start < end
  pub begins : begun_at ds start ≡ 1
  pub kept : (n : ℕ) → place < n → n < start → removes_at ds n ≡ false
  pub ends_item : ends_item_at ds end ≡ true
  pub first : (n : ℕ) → start < n → n < end → ends_item_at ds n ≡ false

-- this is the first removal since the clone was made, and the clone's item has not begun
pub record IsRemovalBefore (ds : List Deed) (place end : ℕ) : Type 0 where
  pub removes : removes_at ds end ≡ true
  pub first : (n : ℕ) → place < n → n < end → removes_at ds n ≡ false
  pub waits : (n : ℕ) → place < n → n < end → begun_at ds n ≡ 0

-- no entry ends the clone, and the codec holds it: `held` says how often
pub record IsKept (ds : List Deed) (held : ℕ) : Type 0 where
  pub never : (n : ℕ) → ended_at ds n ≡ 0
  pub once : held ≡ 1

-- exactly one entry ends the clone that was made at the place, later, and the codec holds it no more
pub record EndsOnce (ds : List Deed) (held place : ℕ) : Type 0 where
  pub end : ℕ
  pub after : place < end
  pub ends : ended_at ds end ≡ 1
  pub only : (n : ℕ) → n ≢ end → ended_at ds n ≡ 0
  pub gone : held ≡ 0
  pub how : IsEndOfItem ds place end ⊎ IsRemovalBefore ds place end

-- The clone that an encode made at a place, and no other entry made, is held at the end and no entry ends it, or exactly one
-- later entry ends it: the end of its item, or the removal before the item began.
abbrev pub ClonesByPlaces : Type 0
ClonesByPlaces =
    (o : Opening) (history : List Entry) (s : State) (p : Pair) (place : ℕ) → replay o history ≡ Some s → made_at (deeds p o history) place ≡ 1
    → ((n : ℕ) → n ≢ place → made_at (deeds p o history) n ≡ 0)
    → IsKept (deeds p o history) (times p (held_in s)) ⊎ EndsOnce (deeds p o history) (times p (held_in s)) place
