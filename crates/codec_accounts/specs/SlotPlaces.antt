-- Each entry of the registry was made by an entry of one of the codecs.
use Rattle.std.proofs.Common.{ℕ, zero, suc, ◌+◌, ◌≡◌, ◌<◌, inl, inr, Bool, true, false, cond, List, [], ◌∷◌, ◌++◌, length, Option, Some, None, refl, ap, sym, subst, ◌∙◌, arith, eq-eqb}
use Rattle.std.specs.Prelude.{slice_get, option_map, nat_lt}
use Rattle.std.specs.List.{sum_by, flat_map}
use Rattle.std.proofs.lemmas.Bool.{and_parts, cases_Bool, ltb-true, lt-ltb}
use Rattle.wc_base.specs.declared.who.By.{By}
use Rattle.wc_base.specs.declared.who.By.TheVariants as by
use Rattle.wc_config.specs.declared.codec.CoderId.{CoderId}
use Rattle.coder_api.specs.declared.slot.SlotEntry.{SlotEntry}
use Rattle.coder_api.specs.declared.slot.SlotOp.{SlotOp}
use Rattle.coder_api.specs.declared.slot.SlotOp.TheVariants as slot
use Rattle.slot_registry.specs.Boxes.{holder_of}
use Rattle.slot_registry.specs.Slots.{is_legal_next, is_legal_from, may_give}
use Rattle.codec_model.specs.declared.entry.Opening.{Opening}
use Rattle.codec_model.specs.declared.entry.Entry.{Entry}
use Rattle.codec_accounts.specs.Owed.{owed}
use Rattle.codec_accounts.specs.BagsLaws.{weigh_append}
use Rattle.codec_accounts.specs.ListLaws.{there}
use Rattle.codec_accounts.specs.Boxes.{Act, acts_of, asks_in, lets_in}
use Rattle.codec_accounts.specs.Registry.{BoxOut, Return, is_cause, acquire_of, acquires_by, in_list, asks_by, outs, return_by, return_from, with_slot, lets_by, return_at, return_of, acts_at, BoxesAccounted}

-- the cause is an entry of one of so many codecs
abbrev pub IsOfCodec : ℕ → By → Type 0
IsOfCodec n (by.Caller who) = ⊥
IsOfCodec n (by.Codec k p) = k < n

abbrev of_codec : ℕ → By → Bool
of_codec n (by.Caller who) = false
of_codec n (by.Codec k p) = nat_lt k n

abbrev odd : Bool → ℕ
odd b = cond b 0 1

-- how many of these are of no codec
abbrev strange : ℕ → Return → ℕ
strange n r = odd (of_codec n r.giver)

is_of : (n : ℕ) (c : By) → of_codec n c ≡ true → IsOfCodec n c
is_of n (by.Caller who) h = absurd cc
is_of n (by.Codec k p) h = ltb-true k n h

-- ---- acquires

itself : (c : By) → is_cause c c ≡ true
itself (by.Caller who) = rw (eq-eqb who.caller who.caller refl, eq-eqb who.step who.step refl) refl
itself (by.Codec k p) = rw (eq-eqb k k refl, eq-eqb p p refl) refl

both_none : {X : Type 0} (xs ys : List X) → xs ++ ys ≡ [] → (xs ≡ []) × (ys ≡ [])
both_none [] ys h = (refl, h)
both_none (x ∷ xs) ys h = absurd cc

-- an acquire stands among those of its cause
acquire_stands : (slots : List SlotEntry) (n : ℕ) (e : SlotEntry) → slice_get slots n ≡ Some e → acquires_by e.by slots ≡ [] → acquire_of e.op ≡ []
acquire_stands [] n e is none = absurd cc
acquire_stands (x ∷ xs) zero e is none =
    let same : x ≡ e = cc in
    let first = (both_none (cond (is_cause e.by x.by) (acquire_of x.op) []) (acquires_by e.by xs) none).0 in
    sym (ap (λ (b : Bool). cond b (acquire_of e.op) []) (itself e.by)) ∙ (sym (ap (λ (y : SlotEntry). cond (is_cause e.by y.by) (acquire_of y.op) []) same) ∙ first)
acquire_stands (x ∷ xs) (suc n) e is none = acquire_stands xs n e is (both_none (cond (is_cause e.by x.by) (acquire_of x.op) []) (acquires_by e.by xs) none).1

-- a codec whose history asks for something or lets something go is there
acts_there : (opening : ℕ → Opening) (codecs : List (List Entry)) (k : ℕ) → (acts_at opening codecs k ≡ [] → ⊥) → k < length codecs
acts_there opening codecs k some = elim (there k codecs) [
  | inl lt ↦ lt
  | inr none ↦ absurd (some (ap (acts_of (opening k)) none))
]

asks_there : (opening : ℕ → Opening) (codecs : List (List Entry)) (c : By) → (asks_by (acts_at opening codecs) c ≡ [] → ⊥) → IsOfCodec (length codecs) c
asks_there opening codecs (by.Caller who) some = some refl
asks_there opening codecs (by.Codec k p) some = acts_there opening codecs k (λ none. some (ap (λ (l : List Act). in_list (asks_in l p)) none))

-- ---- returns

lets_there : (opening : ℕ → Opening) (codecs : List (List Entry)) (b : BoxOut) → sum_by (strange (length codecs)) (return_of (acts_at opening codecs) b) ≡ 0
lets_there opening codecs b = by_cause b.by refl
  where
    none_let : (p : ℕ) → lets_in [] p ≡ None
    none_let p = refl

    below : (k : ℕ) (b : Bool) → nat_lt k (length codecs) ≡ b → k < length codecs → b ≡ true
    below k b is lt = sym is ∙ lt-ltb k (length codecs) lt

    by_place : (k p : ℕ) (o : Option ℕ) → lets_in (acts_at opening codecs k) p ≡ o → sum_by (strange (length codecs)) (return_at b (option_map (λ q. by.Codec k q) o)) ≡ 0
    by_place k p None is = refl
    by_place k p (Some q) is =
        let lt = acts_there opening codecs k (λ none. (let bad = sym (ap (λ (l : List Act). lets_in l p) none) ∙ is in absurd cc)) in
        let yes : nat_lt k (length codecs) ≡ true = below k (nat_lt k (length codecs)) refl lt in
        ap (λ (c : Bool). 0 + odd c) yes

    by_cause : (c : By) → b.by ≡ c → sum_by (strange (length codecs)) (return_of (acts_at opening codecs) b) ≡ 0
    by_cause (by.Caller who) is = ap (λ (c : By). sum_by (strange (length codecs)) (return_at b (lets_by (acts_at opening codecs) c))) is
    by_cause (by.Codec k p) is =
        ap (λ (c : By). sum_by (strange (length codecs)) (return_at b (lets_by (acts_at opening codecs) c))) is
        ∙ by_place k p (lets_in (acts_at opening codecs k) p) refl

all_there : (opening : ℕ → Opening) (codecs : List (List Entry)) (bs : List BoxOut) → sum_by (strange (length codecs)) (flat_map (return_of (acts_at opening codecs)) bs) ≡ 0
all_there opening codecs [] = refl
all_there opening codecs (b ∷ bs) =
    let a = weigh_append (strange (length codecs)) (return_of (acts_at opening codecs) b) (flat_map (return_of (acts_at opening codecs)) bs) in
    let h = lets_there opening codecs b in
    let r = all_there opening codecs bs in
    omega (arith, a, h, r)

-- a legal give is the return of a box
give_counts : (n : ℕ) (made : List CoderId) (before : List SlotEntry) (e : SlotEntry) → is_legal_next made before e ≡ true → acquire_of e.op ≡ [] → sum_by (strange n) (return_by e.by e.op before) ≡ 0 → IsOfCodec n e.by
give_counts n made before e legal none sum = by_op e.op refl
  where
    by_op : (op : SlotOp) → e.op ≡ op → IsOfCodec n e.by
    by_op (slot.Acquire id number) is = absurd (let bad = sym (ap acquire_of is) ∙ none in cc)
    by_op (slot.Refused id out all) is = absurd (let bad = sym (ap acquire_of is) ∙ none in cc)
    by_op (slot.Give id number) is = by_holder (holder_of id number before) refl
      where
        by_holder : (o : Option By) → holder_of id number before ≡ o → IsOfCodec n e.by
        by_holder None held = absurd (let bad : may_give None e.by ≡ true = sym (ap (λ (o : Option By). may_give o e.by) held) ∙ (sym (ap (λ (op : SlotOp). is_legal_next made before (record { by = e.by; op = op })) is) ∙ legal) in cc)
        by_holder (Some h) held =
            let weight : sum_by (strange n) (return_by e.by e.op before) ≡ 0 + odd (of_codec n e.by) = ap (λ (op : SlotOp). sum_by (strange n) (return_by e.by op before)) is ∙ ap (λ (o : Option By). sum_by (strange n) (return_from e.by id number o)) held in
            elim (cases_Bool (of_codec n e.by)) [
              | inl known ↦ is_of n e.by known
              | inr unknown ↦ absurd (let w = ap odd unknown in omega (arith, weight, sum, w))
            ]

gives_there : (n : ℕ) (made : List CoderId) (place : ℕ) (before slots : List SlotEntry) (i : ℕ) (e : SlotEntry) → is_legal_from made before slots ≡ true
    → sum_by (strange n) (owed with_slot (λ place (x : SlotEntry) before. return_by x.by x.op before) place before slots) ≡ 0 → slice_get slots i ≡ Some e → acquire_of e.op ≡ [] → IsOfCodec n e.by
gives_there n made place before [] i e legal sum is none = absurd cc
gives_there n made place before (x ∷ xs) zero e legal sum is none =
    let same : x ≡ e = cc in
    let rest = owed with_slot (λ place (x : SlotEntry) before. return_by x.by x.op before) (suc place) (before ++ x ∷ []) xs in
    let split = weigh_append (strange n) (return_by x.by x.op before) rest in
    let legal_here = (and_parts (is_legal_next made before x) (is_legal_from made (before ++ x ∷ []) xs) legal).0 in
    subst (λ (y : SlotEntry). IsOfCodec n y.by) same (give_counts n made before x legal_here (ap (λ (y : SlotEntry). acquire_of y.op) same ∙ none) (omega (arith, split, sum)))
gives_there n made place before (x ∷ xs) (suc i) e legal sum is none =
    let rest = owed with_slot (λ place (x : SlotEntry) before. return_by x.by x.op before) (suc place) (before ++ x ∷ []) xs in
    let split = weigh_append (strange n) (return_by x.by x.op before) rest in
    gives_there n made (suc place) (before ++ x ∷ []) xs i e (and_parts (is_legal_next made before x) (is_legal_from made (before ++ x ∷ []) xs) legal).1 (omega (arith, split, sum)) is none

-- In accounts each entry of the registry has its cause in one of the codecs.
pub cause_there : (made : List CoderId) (opening : ℕ → Opening) (codecs : List (List Entry)) (slots : List SlotEntry) (n : ℕ) (e : SlotEntry) → BoxesAccounted made opening codecs slots → slice_get slots n ≡ Some e → IsOfCodec (length codecs) e.by
cause_there made opening codecs slots n e a is = by_acquire (acquire_of e.op) refl
  where
    by_acquire : (l : List CoderId) → acquire_of e.op ≡ l → IsOfCodec (length codecs) e.by
    by_acquire [] none = gives_there (length codecs) made 0 [] slots n e a.legal (a.back (strange (length codecs)) ∙ all_there opening codecs (outs slots)) is none
    by_acquire (id ∷ ids) some = asks_there opening codecs e.by (λ none. (let bad = sym some ∙ acquire_stands slots n e is (a.acquires e.by ∙ none) in absurd cc))
