-- One more entry in a history.
use Rattle.std.proofs.Common.{ℕ, ◌≡◌, ◌&&◌, ◌==◌, Bool, true, false, cond, List, [], ◌∷◌, ◌++◌, Option, Some, None, is_some, refl, ap, sym, subst, ◌∙◌, append_assoc, append-nil, eq-eqb}
use Rattle.std.proofs.lemmas.Bool.{and_parts, and_from}
use Rattle.std.proofs.lemmas.List.Sums.{fold_push}
use Rattle.wc_base.specs.declared.who.By.{By}
use Rattle.wc_config.specs.declared.codec.CoderId.{CoderId}
use Rattle.coder_api.specs.declared.slot.SlotEntry.{SlotEntry}
use Rattle.coder_api.specs.declared.slot.SlotOp.TheVariants as slot
use Rattle.coder_api.specs.Meaning.{is_id}
use Rattle.slot_registry.specs.Boxes.{is_box, holder_after, holder_of, is_out, made_of, out_of, least_free}
use Rattle.slot_registry.specs.Slots.{is_legal_next, is_legal_from, is_legal_slots, is_number, may_give, is_later}
use Rattle.slot_registry.specs.IdLaws.{id_same}

legal_from_more : (made : List CoderId) (before history : List SlotEntry) (e : SlotEntry) → is_legal_from made before history ≡ true → is_legal_next made (before ++ history) e ≡ true → is_legal_from made before (history ++ e ∷ []) ≡ true
legal_from_more made before [] e legal next =
    let P : List SlotEntry → Type 0 = λ l. is_legal_next made l e ≡ true in
    let here = subst P (append-nil before) next in
    and_from (is_legal_next made before e) true here refl
legal_from_more made before (x ∷ rest) e legal next =
    let parts = and_parts (is_legal_next made before x) (is_legal_from made (before ++ x ∷ []) rest) legal in
    let P : List SlotEntry → Type 0 = λ l. is_legal_next made l e ≡ true in
    let later = subst P (sym (append_assoc before (x ∷ []) rest)) next in
    and_from (is_legal_next made before x) (is_legal_from made (before ++ x ∷ []) (rest ++ e ∷ [])) parts.0 (legal_from_more made (before ++ x ∷ []) rest e parts.1 later)

-- a legal history with a legal entry after it
pub legal_more : (made : List CoderId) (history : List SlotEntry) (e : SlotEntry) → is_legal_slots made history ≡ true → is_legal_next made history e ≡ true → is_legal_slots made (history ++ e ∷ []) ≡ true
legal_more made history e legal next = legal_from_more made [] history e legal next

pub holder_more : (id : CoderId) (number : ℕ) (history : List SlotEntry) (e : SlotEntry) → holder_of id number (history ++ e ∷ []) ≡ holder_after id number (holder_of id number history) e
holder_more id number history e = fold_push (holder_after id number) None history e

-- a box is itself
pub box_same : (id : CoderId) (number : ℕ) → is_box id number id number ≡ true
box_same id number = and_from (is_id id id) (number == number) (id_same id) (eq-eqb number number refl)

-- a box that goes out is out
pub goes_out : (id : CoderId) (number : ℕ) (history : List SlotEntry) (cause : By) → is_out id number (history ++ record { by = cause; op = slot.Acquire id number } ∷ []) ≡ true
goes_out id number history cause =
    ap is_some (holder_more id number history (record { by = cause; op = slot.Acquire id number })) ∙ ap (λ (b : Bool). is_some (cond b (Some cause) (holder_of id number history))) (box_same id number)

-- a box that comes back is not out
pub comes_back : (id : CoderId) (number : ℕ) (history : List SlotEntry) (cause : By) → is_out id number (history ++ record { by = cause; op = slot.Give id number } ∷ []) ≡ false
comes_back id number history cause =
    ap is_some (holder_more id number history (record { by = cause; op = slot.Give id number })) ∙ ap (λ (b : Bool). is_some (cond b None (holder_of id number history))) (box_same id number)

-- other boxes stay where they are
pub stays_at_acquire : (id : CoderId) (number : ℕ) (history : List SlotEntry) (cause : By) (other : CoderId) (k : ℕ) → is_box other k id number ≡ false → is_out other k (history ++ record { by = cause; op = slot.Acquire id number } ∷ []) ≡ is_out other k history
stays_at_acquire id number history cause other k apart =
    ap is_some (holder_more other k history (record { by = cause; op = slot.Acquire id number })) ∙ ap (λ (b : Bool). is_some (cond b (Some cause) (holder_of other k history))) apart

pub stays_at_give : (id : CoderId) (number : ℕ) (history : List SlotEntry) (cause : By) (other : CoderId) (k : ℕ) → is_box other k id number ≡ false → is_out other k (history ++ record { by = cause; op = slot.Give id number } ∷ []) ≡ is_out other k history
stays_at_give id number history cause other k apart =
    ap is_some (holder_more other k history (record { by = cause; op = slot.Give id number })) ∙ ap (λ (b : Bool). is_some (cond b None (holder_of other k history))) apart

pub stays_at_refusal : (id : CoderId) (out made : ℕ) (history : List SlotEntry) (cause : By) (other : CoderId) (k : ℕ) → is_out other k (history ++ record { by = cause; op = slot.Refused id out made } ∷ []) ≡ is_out other k history
stays_at_refusal id out made history cause other k = ap is_some (holder_more other k history (record { by = cause; op = slot.Refused id out made }))

-- which entries are legal next
pub acquire_is_legal : (made : List CoderId) (history : List SlotEntry) (cause : By) (id : CoderId) (number : ℕ) → least_free id made history ≡ Some number → is_legal_next made history (record { by = cause; op = slot.Acquire id number }) ≡ true
acquire_is_legal made history cause id number free = ap (λ (o : Option ℕ). is_number o number) free ∙ eq-eqb number number refl

pub refusal_is_legal : (made : List CoderId) (history : List SlotEntry) (cause : By) (id : CoderId) (all : ℕ) → out_of id made history ≡ all → made_of id made ≡ all → is_legal_next made history (record { by = cause; op = slot.Refused id all all }) ≡ true
refusal_is_legal made history cause id all out count =
    let first = eq-eqb all (out_of id made history) (sym out) in
    let second = eq-eqb all (made_of id made) (sym count) in
    and_from ((all == out_of id made history) && (all == made_of id made)) (all == all) (and_from (all == out_of id made history) (all == made_of id made) first second) (eq-eqb all all refl)

pub give_is_legal : (made : List CoderId) (history : List SlotEntry) (holder cause : By) (id : CoderId) (number : ℕ) → holder_of id number history ≡ Some holder → is_later holder cause ≡ true → is_legal_next made history (record { by = cause; op = slot.Give id number }) ≡ true
give_is_legal made history holder cause id number held later = ap (λ (o : Option By). may_give o cause) held ∙ later
