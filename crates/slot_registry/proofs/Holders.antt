-- Who holds a box after one more entry.
use Rattle.std.proofs.Common.{ℕ, ◌≡◌, true, false, Option, Some, None, is_some, refl, ap}
use Rattle.std.proofs.lemmas.Bool.{false_from_ne_true}
use Rattle.wc_base.specs.declared.who.By.{By}
use Rattle.wc_config.specs.declared.codec.CoderId.{CoderId}
use Rattle.coder_api.specs.Lent.{Lent}
use Rattle.slot_registry.specs.Boxes.{is_box, is_out, made_of, out_of, least_free}
use Rattle.slot_registry.specs.Slots.{SlotsValue, recorded, acquired, acquire_op, given_back, IsHeld, KeepsBoxes, KeepsOthers, IsLeastFree}
use Rattle.slot_registry.proofs.Kept.{box_is}
use Rattle.slot_registry.specs.{NumberLaws.find_fails, HistoryLaws.holder_more, HistoryLaws.box_same}

-- the box that goes out is held by its cause
pub acquired_is_held : (s new : SlotsValue) (cause : By) (id : CoderId) (lent : Lent) → IsLeastFree cause id s lent → new ≡ acquired cause id s → IsHeld new lent
acquired_is_held s new cause id lent least is = rw (is, least.number, least.id, least.by, holder_more, box_same id lent.number) refl

-- a box that is not out is none of those that are held
free_apart : (s : SlotsValue) (id : CoderId) (number : ℕ) (lent : Lent) → is_out id number s.history ≡ false → IsHeld s lent → is_box lent.id lent.number id number ≡ false
free_apart s id number lent free held = false_from_ne_true (is_box lent.id lent.number id number) (λ (same : is_box lent.id lent.number id number ≡ true).
    let parts = box_is lent.id id lent.number number same in
    let out : is_out lent.id lent.number s.history ≡ true = ap is_some held in
    absurd cc)

op_keeps_boxes : (s : SlotsValue) (cause : By) (id : CoderId) (out all : ℕ) (free : Option ℕ) → least_free id s.made s.history ≡ free → (lent : Lent) → IsHeld s lent → IsHeld (recorded (record { by = cause; op = acquire_op id out all free }) s) lent
op_keeps_boxes s cause id out all None free lent held = rw holder_more held
op_keeps_boxes s cause id out all (Some number) free lent held =
    rw (holder_more, free_apart s id number lent (find_fails (λ m. is_out id m s.history) (made_of id s.made) number free) held) held

-- an acquire leaves the boxes that are out with their holders
pub acquire_keeps_boxes : (cause : By) (id : CoderId) (s : SlotsValue) → KeepsBoxes s (acquired cause id s)
acquire_keeps_boxes cause id s = record { stay = op_keeps_boxes s cause id (out_of id s.made s.history) (made_of id s.made) (least_free id s.made s.history) refl }

pub give_keeps_others : (s : SlotsValue) (cause : By) (id : CoderId) (number : ℕ) → KeepsOthers s (given_back cause id number s) id number
give_keeps_others s cause id number = record { stay = λ lent apart held. rw (holder_more, apart) held }
