-- Which boxes came back by a registry's history, and by whom they had been asked for.
use Rattle.std.proofs.Common.{ℕ, suc, ◌+◌, ◌-◌, ◌≡◌, ◌≤◌, ◌<◌, Bool, true, false, cond, List, [], ◌∷◌, ◌++◌, Option, Some, None, refl, ap, sym, subst, ◌∙◌, arith, eqb-true, ltb-true, ltb}
use Rattle.std.specs.Prelude.{◌==◌}
use Rattle.std.specs.List.{fold, flat_map, sum_by}
use Rattle.std.proofs.lemmas.Bool.{and_parts}
use Rattle.std.proofs.lemmas.List.Sums.{sum_by-cons}
use Rattle.wc_base.specs.declared.who.By.{By}
use Rattle.wc_base.specs.declared.who.By.TheVariants as by
use Rattle.wc_config.specs.declared.codec.CoderId.{CoderId}
use Rattle.coder_api.specs.declared.slot.SlotEntry.{SlotEntry}
use Rattle.coder_api.specs.declared.slot.SlotOp.{SlotOp}
use Rattle.coder_api.specs.declared.slot.SlotOp.TheVariants as slot
use Rattle.coder_api.specs.Meaning.{is_id}
use Rattle.slot_registry.specs.Boxes.{is_box, holder_after, holder_of}
use Rattle.slot_registry.specs.Slots.{may_give, is_legal_next, is_legal_from, is_legal_slots}
use Rattle.slot_registry.specs.IdLaws.{id_is}
use Rattle.slot_registry.specs.HistoryLaws.{holder_more}
use Rattle.codec_accounts.specs.BagsLaws.{weigh_append}
use Rattle.codec_accounts.specs.Owed.{owed}
use Rattle.codec_accounts.specs.Registry.{BoxOut, Return, out_by, outs, return_from, return_by, with_slot, returns}

-- ---- the boxes that are out

box_is : (a b : CoderId) (n m : ℕ) → is_box a n b m ≡ true → (a ≡ b) × (n ≡ m)
box_is a b n m h =
    let parts = and_parts (is_id a b) (n == m) h in
    (id_is a b parts.0, eqb-true n m parts.1)

-- who holds a box, by the list of those that are out
abbrev holder_in : CoderId → ℕ → List BoxOut → Option By
holder_in id number [] = None
holder_in id number (b ∷ bs) = cond (is_box id number b.id b.number) (Some b.by) (holder_in id number bs)

-- all but this box
abbrev others : CoderId → ℕ → List BoxOut → List BoxOut
others id number [] = []
others id number (b ∷ bs) = cond (is_box id number b.id b.number) (others id number bs) (b ∷ others id number bs)

abbrev held_by : By → SlotOp → List BoxOut → List BoxOut
held_by cause (slot.Acquire id number) held = record { id = id; number = number; by = cause } ∷ held
held_by cause (slot.Refused id out made) held = held
held_by cause (slot.Give id number) held = others id number held

-- these are the boxes that are out after this history
abbrev AreOut : List SlotEntry → List BoxOut → Type 0
AreOut before held = (id : CoderId) (number : ℕ) → holder_of id number before ≡ holder_in id number held

both_true : (b : Bool) → b ≡ true → b ≡ false → ⊥
both_true b t f = let bad = sym t ∙ f in absurd cc

-- a box that is a second one is it by the same test as that
same_test : (id other : CoderId) (n k : ℕ) (b : BoxOut) → is_box id n other k ≡ true → is_box id n b.id b.number ≡ is_box other k b.id b.number
same_test id other n k b same =
    let parts = box_is id other n k same in
    λ i. is_box (parts.0 i) (parts.1 i) b.id b.number

apart_test : (id other : CoderId) (n k : ℕ) (b : BoxOut) → is_box id n other k ≡ false → is_box other k b.id b.number ≡ true → is_box id n b.id b.number ≡ false
apart_test id other n k b apart mine = by (is_box id n b.id b.number) refl
  where
    by : (c : Bool) → is_box id n b.id b.number ≡ c → is_box id n b.id b.number ≡ false
    by false is = is
    by true is =
        let theirs = box_is other b.id k b.number mine in
        let it : is_box id n other k ≡ true = (λ i. is_box id n (theirs.0 i) (theirs.1 i)) ∙ is in
        absurd (both_true (is_box id n other k) it apart)

holder_others : (id other : CoderId) (n k : ℕ) (held : List BoxOut) → holder_in id n (others other k held) ≡ cond (is_box id n other k) None (holder_in id n held)
holder_others id other n k [] = by (is_box id n other k)
  where
    by : (c : Bool) → ◌≡◌ {A = Option By} None (cond c None None)
    by true = refl
    by false = refl
holder_others id other n k (b ∷ bs) = by (holder_others id other n k bs) (is_box other k b.id b.number) refl (is_box id n other k) refl
  where
    by : holder_in id n (others other k bs) ≡ cond (is_box id n other k) None (holder_in id n bs)
        → (c : Bool) → is_box other k b.id b.number ≡ c → (d : Bool) → is_box id n other k ≡ d
        → holder_in id n (cond c (others other k bs) (b ∷ others other k bs)) ≡ cond d None (cond (is_box id n b.id b.number) (Some b.by) (holder_in id n bs))
    by rest true mine true same = rest ∙ ap (λ (d : Bool). cond d None (holder_in id n bs)) same
    by rest true mine false apart =
        rest ∙ (ap (λ (d : Bool). cond d None (holder_in id n bs)) apart
        ∙ sym (ap (λ (c : Bool). cond c (Some b.by) (holder_in id n bs)) (apart_test id other n k b apart mine)))
    by rest false theirs true same =
        ap (λ (c : Bool). cond c (Some b.by) (holder_in id n (others other k bs))) (same_test id other n k b same ∙ theirs)
        ∙ (rest ∙ ap (λ (d : Bool). cond d None (holder_in id n bs)) same)
    by rest false theirs false apart =
        ap (λ (o : Option By). cond (is_box id n b.id b.number) (Some b.by) o) (rest ∙ ap (λ (d : Bool). cond d None (holder_in id n bs)) apart)

out_after : (cause : By) (op : SlotOp) (before : List SlotEntry) (held : List BoxOut) → AreOut before held → AreOut (before ++ record { by = cause; op = op } ∷ []) (held_by cause op held)
out_after cause op before held are id n =
    holder_more id n before (record { by = cause; op = op }) ∙ by op
  where
    by : (op : SlotOp) → holder_after id n (holder_of id n before) (record { by = cause; op = op }) ≡ holder_in id n (held_by cause op held)
    by (slot.Acquire other k) = ap (λ (o : Option By). cond (is_box id n other k) (Some cause) o) (are id n)
    by (slot.Refused other out made) = are id n
    by (slot.Give other k) =
        ap (λ (o : Option By). cond (is_box id n other k) None o) (are id n) ∙ sym (holder_others id other n k held)

-- ---- no more boxes came back than went out

-- what a box that came back weighs
abbrev boxed : (BoxOut → ℕ) → Return → ℕ
boxed t r = t r.box

others_le : (t : BoxOut → ℕ) (id : CoderId) (n : ℕ) (held : List BoxOut) → sum_by t (others id n held) ≤ sum_by t held
others_le t id n [] = omega arith
others_le t id n (b ∷ bs) = by (others_le t id n bs) (is_box id n b.id b.number)
  where
    by : sum_by t (others id n bs) ≤ sum_by t bs → (c : Bool) → sum_by t (cond c (others id n bs) (b ∷ others id n bs)) ≤ sum_by t (b ∷ bs)
    by r true = let w = sum_by-cons t b bs in omega (arith, r, w)
    by r false =
        let w = sum_by-cons t b bs in
        let u = sum_by-cons t b (others id n bs) in
        omega (arith, r, w, u)

-- a give takes its box off
give_le : (t : BoxOut → ℕ) (giver : By) (id : CoderId) (n : ℕ) (held : List BoxOut) → sum_by (boxed t) (return_from giver id n (holder_in id n held)) + sum_by t (others id n held) ≤ sum_by t held
give_le t giver id n [] = omega arith
give_le t giver id n (b ∷ bs) = by (give_le t giver id n bs) (is_box id n b.id b.number) refl
  where
    by : sum_by (boxed t) (return_from giver id n (holder_in id n bs)) + sum_by t (others id n bs) ≤ sum_by t bs → (c : Bool) → is_box id n b.id b.number ≡ c
        → sum_by (boxed t) (return_from giver id n (cond c (Some b.by) (holder_in id n bs))) + sum_by t (cond c (others id n bs) (b ∷ others id n bs)) ≤ sum_by t (b ∷ bs)
    by rest true is =
        let same = box_is id b.id n b.number is in
        let it : t (record { id = id; number = n; by = b.by }) ≡ t b = λ i. t (record { id = same.0 i; number = same.1 i; by = b.by }) in
        let one = sum_by-cons (boxed t) (record { box = record { id = id; number = n; by = b.by }; giver = giver }) [] in
        let r = others_le t id n bs in
        let w = sum_by-cons t b bs in
        omega (arith, it, one, r, w)
    by rest false is =
        let w = sum_by-cons t b bs in
        let u = sum_by-cons t b (others id n bs) in
        omega (arith, rest, w, u)

abbrev returns_from : ℕ → List SlotEntry → List SlotEntry → List Return
returns_from place before es = owed with_slot (λ place (e : SlotEntry) before. return_by e.by e.op before) place before es

step_le : (t : BoxOut → ℕ) (cause : By) (op : SlotOp) (before : List SlotEntry) (held : List BoxOut) → AreOut before held
    → sum_by (boxed t) (return_by cause op before) + sum_by t (held_by cause op held) ≤ sum_by t held + sum_by t (out_by cause op)
step_le t cause (slot.Acquire id n) before held are =
    let b : BoxOut = record { id = id; number = n; by = cause } in
    let one = sum_by-cons t b [] in
    let w = sum_by-cons t b held in
    omega (arith, one, w)
step_le t cause (slot.Refused id out made) before held are = omega arith
step_le t cause (slot.Give id n) before held are =
    let r = give_le t cause id n held in
    let e = ap (λ (o : Option By). sum_by (boxed t) (return_from cause id n o)) (are id n) in
    omega (arith, r, e)

back_le : (t : BoxOut → ℕ) (place : ℕ) (before es : List SlotEntry) (held : List BoxOut) → AreOut before held → sum_by (boxed t) (returns_from place before es) ≤ sum_by t held + sum_by t (outs es)
back_le t place before [] held are = omega arith
back_le t place before (e ∷ es) held are =
    let one = step_le t e.by e.op before held are in
    let rest = back_le t (suc place) (before ++ e ∷ []) es (held_by e.by e.op held) (out_after e.by e.op before held are) in
    let split = weigh_append (boxed t) (return_by e.by e.op before) (returns_from (suc place) (before ++ e ∷ []) es) in
    let out = weigh_append t (out_by e.by e.op) (outs es) in
    omega (arith, one, rest, split, out)

-- the boxes that came back weigh no more than those that went out
pub returned_le : (t : BoxOut → ℕ) (slots : List SlotEntry) → sum_by (boxed t) (returns slots) ≤ sum_by t (outs slots)
returned_le t slots = let r = back_le t 0 [] slots [] (λ id n. refl) in omega (arith, r)

-- ---- which box a give takes back

-- `asked` says at which places of each codec a box was asked for, `last` which of them came last before a place, and `top` which
-- came last of all.
module _ (asked : ℕ → ℕ → Bool) (last : ℕ → ℕ → ℕ) (top : ℕ → ℕ) where
  -- the last place before another is at or behind each, and so is the last of all
  pub record AreLast : Type 0 where
    pub before : (k p q : ℕ) → asked k p ≡ true → p < q → p ≤ last k q
    pub below : (k q : ℕ) → last k q ≤ top k

  -- a box was asked for by this entry
  abbrev pub IsAskedBy : By → Type 0
  IsAskedBy (by.Caller who) = ⊥
  IsAskedBy (by.Codec k p) = asked k p ≡ true

  abbrev pub OutIsAsked : SlotOp → By → Type 0
  OutIsAsked (slot.Acquire id number) cause = IsAskedBy cause
  OutIsAsked (slot.Refused id out made) cause = Unit {0}
  OutIsAsked (slot.Give id number) cause = Unit {0}

  abbrev pub OutsAreAsked : List SlotEntry → Type 0
  OutsAreAsked [] = Unit {0}
  OutsAreAsked (e ∷ es) = OutIsAsked e.op e.by × OutsAreAsked es

  -- the return that a give calls for: of the box that its codec asked for last
  abbrev pub last_return : CoderId → ℕ → By → List Return
  last_return id number (by.Caller who) = []
  last_return id number (by.Codec k q) = record { box = record { id = id; number = number; by = by.Codec k (last k q) }; giver = by.Codec k q } ∷ []

  abbrev pub due_return : SlotOp → By → List Return
  due_return (slot.Acquire id number) cause = []
  due_return (slot.Refused id out made) cause = []
  due_return (slot.Give id number) cause = last_return id number cause

  -- how far before the last of all a box was asked for
  abbrev pub behind : By → ℕ
  behind (by.Caller who) = 0
  behind (by.Codec k p) = top k - p

  abbrev pub box_weight : BoxOut → ℕ
  box_weight b = behind b.by

  -- the same of the box that a give takes back
  abbrev pub give_weight : By → ℕ
  give_weight (by.Caller who) = 0
  give_weight (by.Codec k q) = top k - last k q

  abbrev pub op_weight : SlotOp → By → ℕ
  op_weight (slot.Acquire id number) cause = 0
  op_weight (slot.Refused id out made) cause = 0
  op_weight (slot.Give id number) cause = give_weight cause

  abbrev pub entry_weight : SlotEntry → ℕ
  entry_weight e = op_weight e.op e.by

  abbrev IfAsked : Option By → Type 0
  IfAsked None = Unit {0}
  IfAsked (Some h) = IsAskedBy h

  -- who holds a box asked for it
  holder_asked : (id : CoderId) (n : ℕ) (o : Option By) (l : List SlotEntry) → IfAsked o → OutsAreAsked l → IfAsked (fold (holder_after id n) o l)
  holder_asked id n o [] h all = h
  holder_asked id n o (e ∷ es) h all = holder_asked id n (holder_after id n o e) es (one e.by e.op all.0) all.1
    where
      either : (c : Bool) (a b : Option By) → IfAsked a → IfAsked b → IfAsked (cond c a b)
      either true a b x y = x
      either false a b x y = y

      one : (cause : By) (op : SlotOp) → OutIsAsked op cause → IfAsked (holder_after id n o (record { by = cause; op = op }))
      one cause (slot.Acquire other k) a = either (is_box id n other k) (Some cause) o a h
      one cause (slot.Refused other out made) a = h
      one cause (slot.Give other k) a = either (is_box id n other k) None o tt h

  outs_more : (a b : List SlotEntry) → OutsAreAsked a → OutsAreAsked b → OutsAreAsked (a ++ b)
  outs_more [] b x y = y
  outs_more (e ∷ es) b x y = (x.0, outs_more es b x.1 y)

  -- a legal give weighs at most what comes back by it, and where it weighs as much the box is the one that was asked for last
  record Weighs (back : List Return) (op : SlotOp) (cause : By) : Type 0 where
    low : op_weight op cause ≤ sum_by (boxed box_weight) back
    exact : sum_by (boxed box_weight) back ≤ op_weight op cause → back ≡ due_return op cause

  weighs_give : AreLast → (id : CoderId) (n : ℕ) (o : Option By) (cause : By) → IfAsked o → may_give o cause ≡ true → Weighs (return_from cause id n o) (slot.Give id n) cause
  weighs_give last_are id n None cause asked legal = absurd cc
  weighs_give last_are id n (Some (by.Caller who)) cause asked legal = absurd cc
  weighs_give last_are id n (Some (by.Codec k p)) (by.Caller who) asked legal = absurd cc
  weighs_give last_are id n (Some (by.Codec k p)) (by.Codec j q) asked legal =
      let parts = and_parts (k == j) (ltb p q) legal in
      let codec : k ≡ j = eqb-true k j parts.0 in
      let lt : p < q = ltb-true p q parts.1 in
      subst (λ (m : ℕ). Weighs (record { box = record { id = id; number = n; by = by.Codec k p }; giver = by.Codec m q } ∷ []) (slot.Give id n) (by.Codec m q)) codec (here lt)
    where
      here : p < q → Weighs (record { box = record { id = id; number = n; by = by.Codec k p }; giver = by.Codec k q } ∷ []) (slot.Give id n) (by.Codec k q)
      here lt =
          let le = last_are.before k p q asked lt in
          let under = last_are.below k q in
          let one = sum_by-cons (boxed box_weight) (record { box = record { id = id; number = n; by = by.Codec k p }; giver = by.Codec k q }) [] in
          record {
            low = omega (arith, le, under, one);
            exact = λ h. (let same : p ≡ last k q = omega (arith, h, le, under, one) in ap (λ (m : ℕ). record { box = record { id = id; number = n; by = by.Codec k m }; giver = by.Codec k q } ∷ []) same);
          }

  weighs : AreLast → (made : List CoderId) (before : List SlotEntry) (cause : By) (op : SlotOp) → OutsAreAsked before → is_legal_next made before (record { by = cause; op = op }) ≡ true → Weighs (return_by cause op before) op cause
  weighs last_are made before cause (slot.Acquire id n) asked legal = record { low = omega arith; exact = λ h. refl }
  weighs last_are made before cause (slot.Refused id out all) asked legal = record { low = omega arith; exact = λ h. refl }
  weighs last_are made before cause (slot.Give id n) asked legal = weighs_give last_are id n (holder_of id n before) cause (holder_asked id n None before tt asked) legal

  low_all : AreLast → (made : List CoderId) (place : ℕ) (before es : List SlotEntry) → OutsAreAsked before → OutsAreAsked es → is_legal_from made before es ≡ true → sum_by entry_weight es ≤ sum_by (boxed box_weight) (returns_from place before es)
  low_all last_are made place before [] a b legal = omega arith
  low_all last_are made place before (e ∷ es) a b legal =
      let parts = and_parts (is_legal_next made before e) (is_legal_from made (before ++ e ∷ []) es) legal in
      let one = (weighs last_are made before e.by e.op a parts.0).low in
      let rest = low_all last_are made (suc place) (before ++ e ∷ []) es (outs_more before (e ∷ []) a (b.0, tt)) b.1 parts.1 in
      let split = weigh_append (boxed box_weight) (return_by e.by e.op before) (returns_from (suc place) (before ++ e ∷ []) es) in
      let w = sum_by-cons entry_weight e es in
      omega (arith, one, rest, split, w)

  exact_all : AreLast → (made : List CoderId) (place : ℕ) (before es : List SlotEntry) → OutsAreAsked before → OutsAreAsked es → is_legal_from made before es ≡ true
      → sum_by (boxed box_weight) (returns_from place before es) ≤ sum_by entry_weight es → returns_from place before es ≡ flat_map (λ (e : SlotEntry). due_return e.op e.by) es
  exact_all last_are made place before [] a b legal le = refl
  exact_all last_are made place before (e ∷ es) a b legal le =
      let parts = and_parts (is_legal_next made before e) (is_legal_from made (before ++ e ∷ []) es) legal in
      let here = weighs last_are made before e.by e.op a parts.0 in
      let one = here.low in
      let asked = outs_more before (e ∷ []) a (b.0, tt) in
      let rest = low_all last_are made (suc place) (before ++ e ∷ []) es asked b.1 parts.1 in
      let split = weigh_append (boxed box_weight) (return_by e.by e.op before) (returns_from (suc place) (before ++ e ∷ []) es) in
      let w = sum_by-cons entry_weight e es in
      let first = here.exact (omega (arith, one, rest, split, w, le)) in
      let others = exact_all last_are made (suc place) (before ++ e ∷ []) es asked b.1 parts.1 (omega (arith, one, rest, split, w, le)) in
      λ i. first i ++ others i

  -- Where the boxes that went out weigh no more than the gives, each give took back the box that its codec asked for last.
  pub returns_are : AreLast → (made : List CoderId) (slots : List SlotEntry) → is_legal_slots made slots ≡ true → OutsAreAsked slots → sum_by box_weight (outs slots) ≤ sum_by entry_weight slots
      → returns slots ≡ flat_map (λ (e : SlotEntry). due_return e.op e.by) slots
  returns_are last_are made slots legal all le =
      let back = returned_le box_weight slots in
      exact_all last_are made 0 [] slots tt all legal (omega (arith, back, le))
