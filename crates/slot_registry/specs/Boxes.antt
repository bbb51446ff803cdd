-- Which boxes are out, by a registry's history (our choice).
use Rattle.std.specs.Prelude.{ℕ, Bool, List, Option, Some, None, ◌==◌, ◌&&◌, if◌then◌else◌, not, is_some}
use Rattle.std.specs.List.{fold, find, count_by, range_with_len}
use Rattle.wc_base.specs.declared.who.By.{By}
use Rattle.wc_config.specs.declared.codec.CoderId.{CoderId}
use Rattle.coder_api.specs.Meaning.{is_id}
use Rattle.coder_api.specs.declared.slot.SlotEntry.{SlotEntry}
use Rattle.coder_api.specs.declared.slot.SlotOp.TheVariants as slot

-- the box with this number among those of its id: another id and number name it too
abbrev pub is_box : CoderId → ℕ → CoderId → ℕ → Bool
is_box id number other k = is_id id other && (number == k)

-- who holds a box after an entry: who acquired it by that entry, none where it came back, else who held it before
abbrev pub holder_after : CoderId → ℕ → Option By → SlotEntry → Option By
holder_after id number held e = elim (e.op) [ slot.Acquire other k ↦ (if is_box id number other k then Some e.by else held) | slot.Refused other out made ↦ held | slot.Give other k ↦ (if is_box id number other k then None else held) ]

-- who holds a box: who acquired it last, none where it has come back since or has never gone out
abbrev pub holder_of : CoderId → ℕ → List SlotEntry → Option By
holder_of id number history = fold (holder_after id number) None history

-- the box is out: its last acquire was not followed by a give
abbrev pub is_out : CoderId → ℕ → List SlotEntry → Bool
is_out id number history = is_some (holder_of id number history)

-- how many boxes of an id were made; `made` has the id of each coder that was handed in
abbrev pub made_of : CoderId → List CoderId → ℕ
made_of id made = count_by (is_id id) made

-- how many boxes of an id are out
abbrev pub out_of : CoderId → List CoderId → List SlotEntry → ℕ
out_of id made history = count_by (λ number. is_out id number history) (range_with_len 0 (made_of id made))

-- the least number of a box of this id that is not out; none where all are out
abbrev pub least_free : CoderId → List CoderId → List SlotEntry → Option ℕ
least_free id made history = find (λ number. not (is_out id number history)) (range_with_len 0 (made_of id made))
