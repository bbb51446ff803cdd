-- Who holds each box after one more entry.
use Rattle.std.proofs.Common.{ℕ, zero, suc, ◌+◌, ◌<◌, ◌≤◌, ◌≡◌, ◌≢◌, ◌==◌, ◌&&◌, Bool, true, false, cond, not, List, [], ◌∷◌, ◌++◌, length, get_or, set, take, drop, Option, Some, None, is_some, refl, ap, sym, subst, ◌∙◌, arith, inl, inr, eq-eqb, append_assoc}
use Rattle.std.specs.Prelude.{is_none}
use Rattle.std.specs.List.{count_by, find, range_with_len}
use Rattle.std.proofs.lemmas.Bool.{cases_Bool, cases_eq, and_parts, eqb-true, false_from_ne_true, false≢true}
use Rattle.std.proofs.lemmas.List.{take_more, drop_more, take_all, drop_all, take-set, drop-set, take-append-drop}
use Rattle.std.proofs.lemmas.List.Sums.{sum_by-cons}
use Rattle.wc_base.specs.declared.who.By.{By}
use Rattle.wc_config.specs.declared.codec.CoderId.{CoderId}
use Rattle.coder_api.specs.declared.slot.SlotEntry.{SlotEntry}
use Rattle.coder_api.specs.Meaning.{is_id}
use Rattle.coder_api.specs.declared.slot.SlotOp.{SlotOp}
use Rattle.coder_api.specs.declared.slot.SlotOp.TheVariants as slot
use Rattle.slot_registry.specs.Boxes.{is_box, holder_after, holder_of, is_out, made_of, out_of, least_free}
use Rattle.slot_registry.specs.Slots.{is_legal_next}
use Rattle.slot_registry.specs.IdLaws.{id_is}
use Rattle.slot_registry.specs.HistoryLaws.{holder_more}
use Rattle.legal_fronts.specs.declared.ledger.Lending.{Lending}
use Rattle.legal_fronts.specs.Boxes.{held_by, lent, IsLedger}

apart_eqb : (a b : ℕ) → a ≢ b → (a == b) ≡ false
apart_eqb a b apart = false_from_ne_true (a == b) (λ same. apart (eqb-true a b same))

abbrev one_if : Bool → ℕ
one_if b = cond b 1 0

-- ---- a list of lendings

box_is : (a b : CoderId) (m n : ℕ) → is_box a m b n ≡ true → (a ≡ b) × (m ≡ n)
box_is a b m n same = let parts = and_parts (is_id a b) (m == n) same in (id_is a b parts.0, eqb-true m n parts.1)

-- the lending that stands first, or the others
pub held_here : (boxes : List Lending) (i : ℕ) (d : Lending) (id : CoderId) (number : ℕ) → i < length boxes → is_box id number (get_or boxes i d).id (get_or boxes i d).number ≡ true → held_by (drop i boxes) id number ≡ (get_or boxes i d).holder
held_here boxes i d id number low is = rw (drop_more boxes i d low, is) refl

pub held_later : (boxes : List Lending) (i : ℕ) (d : Lending) (id : CoderId) (number : ℕ) → i < length boxes → is_box id number (get_or boxes i d).id (get_or boxes i d).number ≡ false → held_by (drop i boxes) id number ≡ held_by (drop (i + 1) boxes) id number
held_later boxes i d id number low is = rw (drop_more boxes i d low, is) refl

-- who holds a box where one has its holder
held_lent : (x : Lending) (xs : List Lending) (id : CoderId) (number : ℕ) → held_by (lent x xs) id number ≡ cond (is_box id number x.id x.number) x.holder (held_by xs id number)
held_lent x [] id number = refl
held_lent x (y ∷ ys) id number = elim (cases_Bool (is_box x.id x.number y.id y.number)) [
  | inl same ↦ (let e = box_is x.id y.id x.number y.number same in elim (cases_Bool (is_box id number x.id x.number)) [
    | inl here ↦ rw (same, here) refl
    | inr other ↦ (let apart : is_box id number y.id y.number ≡ false = rw (← e.0, ← e.1) other in rw (same, other, apart) refl)
  ])
  | inr apart ↦ rw apart (elim (cases_Bool (is_box id number y.id y.number)) [
    | inl here ↦ (let e = box_is id y.id number y.number here in
        let other : is_box id number x.id x.number ≡ false = false_from_ne_true (is_box id number x.id x.number) (λ (there : is_box id number x.id x.number ≡ true).
        let f = box_is id x.id number x.number there in
        let same : is_box x.id x.number y.id y.number ≡ true = rw (← f.0, ← f.1) here in
        false≢true (sym apart ∙ same)) in
        rw (here, other) refl)
    | inr other ↦ rw other (held_lent x ys id number)
  ])
]

-- ---- one more entry

pub lends : (h : List SlotEntry) (e : SlotEntry) (boxes : List Lending) (x : Lending) → ((id : CoderId) (number : ℕ) (held : Option By) → holder_after id number held e ≡ cond (is_box id number x.id x.number) x.holder held) → IsLedger h boxes → IsLedger (h ++ e ∷ []) (lent x boxes)
lends h e boxes x after ledger = λ id number.
    held_lent x boxes id number ∙ (ap (λ (o : Option By). cond (is_box id number x.id x.number) x.holder o) (ledger id number) ∙ (sym (after id number (holder_of id number h)) ∙ sym (holder_more id number h e)))

abbrev after_op : CoderId → ℕ → Option By → By → SlotOp → Option By
after_op id number held cause o = holder_after id number held (record { by = cause; op = o })

pub acquires : (h : List SlotEntry) (e : SlotEntry) (boxes : List Lending) (id : CoderId) (number : ℕ) → e.op ≡ slot.Acquire id number → IsLedger h boxes → IsLedger (h ++ e ∷ []) (lent (record { id = id; number = number; holder = Some e.by }) boxes)
acquires h e boxes id number is = lends h e boxes (record { id = id; number = number; holder = Some e.by }) (λ other n held. ap (after_op other n held e.by) is)

pub gives : (h : List SlotEntry) (e : SlotEntry) (boxes : List Lending) (id : CoderId) (number : ℕ) → e.op ≡ slot.Give id number → IsLedger h boxes → IsLedger (h ++ e ∷ []) (lent (record { id = id; number = number; holder = None }) boxes)
gives h e boxes id number is = lends h e boxes (record { id = id; number = number; holder = None }) (λ other n held. ap (after_op other n held e.by) is)

pub stays : (h : List SlotEntry) (e : SlotEntry) (boxes : List Lending) (id : CoderId) (out made : ℕ) → e.op ≡ slot.Refused id out made → IsLedger h boxes → IsLedger (h ++ e ∷ []) boxes
stays h e boxes id out made is ledger = λ other n. ledger other n ∙ (sym (ap (after_op other n (holder_of other n h) e.by) is) ∙ sym (holder_more other n h e))

-- another list that is the same
pub goes_to : (h : List SlotEntry) (boxes others : List Lending) → others ≡ boxes → IsLedger h boxes → IsLedger h others
goes_to h boxes others is ledger = λ id number. ap (λ (l : List Lending). held_by l id number) is ∙ ledger id number

-- ---- the free box of least number

count_most : (p : ℕ → Bool) (a n : ℕ) → count_by p (range_with_len a n) ≤ n
count_most p a zero = omega arith
count_most p a (suc n) =
    let rest = count_most p (a + 1) n in
    let split = sum_by-cons (λ m. one_if (p m)) a (range_with_len (a + 1) n) in
    elim (cases_Bool (p a)) [ inl here ↦ (let one = ap one_if here in omega (arith, rest, split, one)) | inr other ↦ (let none = ap one_if other in omega (arith, rest, split, none)) ]

-- all pass, or one is found that does not
full_from : (p : ℕ → Bool) (a n : ℕ) → is_none (find (λ m. not (p m)) (range_with_len a n)) ≡ (count_by p (range_with_len a n) == n)
full_from p a zero = refl
full_from p a (suc n) =
    let split = sum_by-cons (λ m. one_if (p m)) a (range_with_len (a + 1) n) in
    let most = count_most p (a + 1) n in
    elim (cases_Bool (p a)) [
      | inl here ↦ rw here (full_from p (a + 1) n ∙ (let one = ap one_if here in one_less (count_by p (range_with_len (a + 1) n)) n (count_by p (range_with_len a (suc n))) (omega (arith, split, one))))
      | inr other ↦ rw other (sym (apart_eqb (count_by p (range_with_len a (suc n))) (suc n) (λ e. (let none = ap one_if other in omega (arith, split, none, most, e)))))
    ]
  where
    one_less : (c n d : ℕ) → d ≡ c + 1 → (c == n) ≡ (d == suc n)
    one_less c n d is = elim (cases_eq c n) [
      | inl same ↦ eq-eqb c n same ∙ sym (eq-eqb d (suc n) (omega (arith, is, same)))
      | inr apart ↦ apart_eqb c n apart ∙ sym (apart_eqb d (suc n) (λ e. apart (omega (arith, is, e))))
    ]

pub refusal_admits : (made : List CoderId) (h : List SlotEntry) (e : SlotEntry) (id : CoderId) (out all : ℕ) → e.op ≡ slot.Refused id out all → (all == made_of id made) ≡ true → (out == all) ≡ true → is_none (least_free id made h) ≡ is_legal_next made h e
refusal_admits made h e id out all is count same =
    let a = eqb-true all (made_of id made) count in
    let o = eqb-true out all same in
    let full : is_none (least_free id made h) ≡ (out_of id made h == made_of id made) = full_from (λ m. is_out id m h) 0 (made_of id made) in
    rw (is, count, same) (full ∙ flip (out_of id made h) (made_of id made) out (omega (arith, a, o)))
  where
    flip : (c n out : ℕ) → out ≡ n → (c == n) ≡ ((out == c) && true && true)
    flip c n out is = elim (cases_eq c n) [
      | inl same ↦ eq-eqb c n same ∙ sym (rw (eq-eqb out c (omega (arith, is, same))) refl)
      | inr apart ↦ apart_eqb c n apart ∙ sym (rw (apart_eqb out c (λ e. apart (omega (arith, is, e)))) refl)
    ]

pub not_some : (o : Option ℕ) (b : Bool) → is_some o ≡ not b → b ≡ is_none o
not_some None true h = refl
not_some None false h = absurd cc
not_some (Some n) true h = absurd cc
not_some (Some n) false h = refl

-- ---- a box has its holder, found on a walk

set_is : (boxes : List Lending) (i : ℕ) (x : Lending) → i < length boxes → set boxes i x ≡ take i boxes ++ x ∷ drop (i + 1) boxes
set_is boxes i x low = sym (take-append-drop i (set boxes i x)) ∙ (ap (λ (l : List Lending). l ++ drop i (set boxes i x)) (take-set boxes i x) ∙ ap (λ (l : List Lending). take i boxes ++ l) (drop-set boxes i x low))

pub lent_here : (boxes seen : List Lending) (i : ℕ) (d x : Lending) → seen ≡ boxes → i < length seen → is_box x.id x.number (get_or seen i d).id (get_or seen i d).number ≡ true → lent x boxes ≡ take i boxes ++ lent x (drop i boxes) → set boxes i x ≡ lent x boxes
lent_here boxes seen i d x same within here so_far =
    let low : i < length boxes = subst (λ (l : List Lending). i < length l) same within in
    let is : is_box x.id x.number (get_or boxes i d).id (get_or boxes i d).number ≡ true = subst (λ (l : List Lending). is_box x.id x.number (get_or l i d).id (get_or l i d).number ≡ true) same here in
    let at : lent x (drop i boxes) ≡ x ∷ drop (i + 1) boxes = rw (drop_more boxes i d low, is) refl in
    set_is boxes i x low ∙ sym (so_far ∙ ap (λ (l : List Lending). take i boxes ++ l) at)

pub lent_later : (boxes : List Lending) (i : ℕ) (d x : Lending) → i < length boxes → is_box x.id x.number (get_or boxes i d).id (get_or boxes i d).number ≡ false → lent x boxes ≡ take i boxes ++ lent x (drop i boxes) → lent x boxes ≡ take (i + 1) boxes ++ lent x (drop (i + 1) boxes)
lent_later boxes i d x low is so_far =
    let y = get_or boxes i d in
    let at : lent x (drop i boxes) ≡ y ∷ lent x (drop (i + 1) boxes) = rw (drop_more boxes i d low, is) refl in
    so_far ∙ (ap (λ (l : List Lending). take i boxes ++ l) at ∙ sym (ap (λ (l : List Lending). l ++ lent x (drop (i + 1) boxes)) (take_more boxes i d low) ∙ append_assoc (take i boxes) (y ∷ []) (lent x (drop (i + 1) boxes))))

pub lent_last : (boxes : List Lending) (i : ℕ) (x : Lending) → length boxes ≤ i → lent x boxes ≡ take i boxes ++ lent x (drop i boxes) → boxes ++ x ∷ [] ≡ lent x boxes
lent_last boxes i x end so_far =
    sym (so_far ∙ rw (take_all i boxes end, drop_all i boxes end) refl)
