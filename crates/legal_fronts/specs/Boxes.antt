-- What is kept of a registry's history, to tell whether its next entry is legal.
use Rattle.std.specs.Prelude.{ℕ, ◌≡◌, List, [], ◌∷◌, Option, None, if◌then◌else◌}
use Rattle.wc_base.specs.declared.who.By.{By}
use Rattle.wc_config.specs.declared.codec.CoderId.{CoderId}
use Rattle.coder_api.specs.declared.slot.SlotEntry.{SlotEntry}
use Rattle.slot_registry.specs.Boxes.{is_box, holder_of}
use Rattle.legal_fronts.specs.declared.ledger.Lending.{Lending}

-- who holds a box, by a list of boxes with their holders
abbrev pub held_by : List Lending → CoderId → ℕ → Option By
held_by [] id number = None
held_by (x ∷ xs) id number = if is_box id number x.id x.number then x.holder else held_by xs id number

-- the list where the box of this lending has its holder
abbrev pub lent : Lending → List Lending → List Lending
lent x [] = x ∷ []
lent x (y ∷ ys) = if is_box x.id x.number y.id y.number then x ∷ ys else y ∷ lent x ys

-- the list says who holds each box after this history
abbrev pub IsLedger : List SlotEntry → List Lending → Type 0
IsLedger history boxes = (id : CoderId) (number : ℕ) → held_by boxes id number ≡ holder_of id number history
