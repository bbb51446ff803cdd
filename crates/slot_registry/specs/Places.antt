-- The places in which a registry keeps the coders that are not out.
use Rattle.std.specs.Prelude.{◌≡◌, ℕ, ◌<◌, Bool, true, List, Some, None, map, take, length, not, slice_get, get_or}
use Rattle.wc_config.specs.declared.codec.CoderId.{CoderId}
use Rattle.coder_api.specs.declared.slot.SlotEntry.{SlotEntry}
use Rattle.slot_registry.specs.declared.slots.Search.{Search}
use Rattle.slot_registry.specs.declared.slots.Search.TheVariants as search_for
use Rattle.slot_registry.specs.Boxes.{is_out, made_of, out_of, least_free}
use Rattle.slot_registry.specs.Slots.{SlotsValue, is_legal_slots}

-- a place as contracts see it: the id of its coder, and whether the coder is there
pub record Placed : Type 0 where
  pub id : CoderId
  pub is_home : Bool

-- the ids of places
abbrev pub ids_of : List Placed → List CoderId
ids_of places = map (λ p. p.id) places

-- whether the coder of a place is out
abbrev pub is_away : Placed → Bool
is_away p = not p.is_home

-- the place after k others has its coder exactly where its box is not out
abbrev pub IsInStep : List CoderId → List SlotEntry → ℕ → Placed → Type 0
IsInStep made history k p = p.is_home ≡ not (is_out p.id (made_of p.id (take k made)) history)

-- the places are in step with a legal history, which speaks of boxes that were made
pub record IsKept (places : List Placed) (history : List SlotEntry) : Type 0 where
  pub in_step : (k : ℕ) (d : Placed) → k < length places → IsInStep (ids_of places) history k (get_or places k d)
  pub made : (id : CoderId) (number : ℕ) → is_out id number history ≡ true → number < made_of id (ids_of places)
  pub legal : is_legal_slots (ids_of places) history ≡ true

-- the free box of least number, and its place
pub record IsFreeAt (id : CoderId) (s : SlotsValue) (place number : ℕ) : Type 0 where
  pub at : slice_get s.made place ≡ Some id
  pub before : number ≡ made_of id (take place s.made)
  pub least : least_free id s.made s.history ≡ Some number

-- no box of the id is free, and as many were made
pub record AreAllOut (id : CoderId) (s : SlotsValue) (all : ℕ) : Type 0 where
  pub none : least_free id s.made s.history ≡ None
  pub out : out_of id s.made s.history ≡ all
  pub made : made_of id s.made ≡ all

-- what a search for a free box of an id finds
abbrev pub IsFoundIn : CoderId → SlotsValue → Search → Type 0
IsFoundIn id s (search_for.Free place number) = IsFreeAt id s place number
IsFoundIn id s (search_for.AllOut all) = AreAllOut id s all
