-- Runs by order that agree in all that an order leaves open.
use Rattle.std.specs.Prelude.{ℕ, ◌≡◌, Bool, true, false, List, slice_get, Option, Some}
use Rattle.wc_config.specs.declared.codec.CoderId.{CoderId}
use Rattle.slot_registry.specs.Boxes.{made_of}
use Rattle.codec_model.specs.declared.entry.Entry.{Entry}
use Rattle.codec_model.specs.declared.entry.Entry.TheVariants as entry
use Rattle.codec_model.specs.declared.entry.Outcome.{Outcome}
use Rattle.codec_model.specs.declared.entry.Outcome.TheVariants as outcome
use Rattle.codec_accounts.specs.Owed.{at}

abbrev pub is_want : Outcome → Bool
is_want (outcome.Ran units) = false
is_want outcome.Refused = false
is_want (outcome.NoSlot entry) = false
is_want outcome.NoMemory = true

-- the entry is the end of an item, which says that memory was wanted
abbrev pub wants_memory : Option Entry → Bool
wants_memory (Some (entry.Done epoch item moment o)) = is_want o
wants_memory _ = false

-- the same ends in both say that memory was wanted
abbrev pub SameWants : List (List Entry) → List (List Entry) → Type 0
SameWants histories others = (k n : ℕ) → wants_memory (slice_get (at k histories) n) ≡ wants_memory (slice_get (at k others) n)

-- as many boxes of each id
abbrev pub SameBoxes : List CoderId → List CoderId → Type 0
SameBoxes made others = (id : CoderId) → made_of id made ≡ made_of id others
