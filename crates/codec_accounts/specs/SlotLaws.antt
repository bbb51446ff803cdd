-- What the registry's history has after a box came back, and after one was asked for.
use Rattle.std.proofs.Common.{ℕ, zero, suc, ◌+◌, ◌≡◌, ◌≢◌, ◌==◌, ◌⊎◌, inl, inr, not, Bool, true, false, cond, List, [], ◌∷◌, ◌++◌, Option, Some, None, is_some, refl, ap, sym, subst, ◌∙◌, arith, append_assoc, append-nil}
use Rattle.std.specs.List.{find, count_by, range_with_len}
use Rattle.std.proofs.lemmas.Bool.{and_parts, eqb-true}
use Rattle.std.proofs.lemmas.List.Concat.{flat_map-append}
use Rattle.std.proofs.lemmas.List.Sums.{sum_by-cons}
use Rattle.wc_base.specs.declared.who.By.{By}
use Rattle.wc_base.specs.declared.who.By.TheVariants as by
use Rattle.wc_config.specs.declared.codec.CoderId.{CoderId}
use Rattle.coder_api.specs.Meaning.{is_id}
use Rattle.coder_api.specs.declared.slot.SlotEntry.{SlotEntry}
use Rattle.coder_api.specs.declared.slot.SlotOp.TheVariants as slot
use Rattle.slot_registry.specs.Boxes.{is_box, holder_of, is_out, made_of, out_of, least_free}
use Rattle.slot_registry.specs.Slots.{SlotsValue, is_legal_slots, is_later, acquire_op, acquire_entry, acquired}
use Rattle.slot_registry.specs.IdLaws.{id_is}
use Rattle.slot_registry.specs.NumberLaws.{find_fails}
use Rattle.slot_registry.specs.HistoryLaws.{legal_more, holder_more, acquire_is_legal, refusal_is_legal, give_is_legal}
use Rattle.codec_accounts.specs.Owed.{state_on}
use Rattle.codec_accounts.specs.Registry.{BoxOut, Return, is_cause, acquire_of, acquires_by, out_by, outs, return_from, return_by, with_slot, returns, IsRefusedAt}
use Rattle.codec_accounts.specs.Codec.{after_give}
use Rattle.codec_accounts.specs.OwedLaws.{owed_more}
use Rattle.codec_accounts.specs.ListLaws.{get_more}

-- The registry's history is longer: these boxes went out, these came back, and the cause acquired, or was refused, boxes of
-- these coders.
pub record Moves (cause : By) (asks : List CoderId) (out : List BoxOut) (back : List Return) (s next : SlotsValue) : Type 0 where
  pub same_made : next.made ≡ s.made
  pub more : List SlotEntry
  pub longer : next.history ≡ s.history ++ more
  pub legal : is_legal_slots s.made s.history ≡ true → is_legal_slots next.made next.history ≡ true
  pub outs_are : outs next.history ≡ outs s.history ++ out
  pub returns_are : returns next.history ≡ returns s.history ++ back
  pub acquires_are : (c : By) → acquires_by c next.history ≡ acquires_by c s.history ++ cond (is_cause c cause) asks []
  pub refusals_are : (n : ℕ) (c : By) → IsRefusedAt next.history n c → IsRefusedAt s.history n c ⊎ (c ≡ cause)
  pub others : (j k p : ℕ) (place : ℕ) (id : CoderId) (number : ℕ) → cause ≡ by.Codec k place → j ≢ k → holder_of id number s.history ≡ Some (by.Codec j p) → holder_of id number next.history ≡ Some (by.Codec j p)

cond_none : {X : Type 0} (b : Bool) → ◌≡◌ {A = List X} (cond b [] []) []
cond_none true = refl
cond_none false = refl

nothing_more : {X : Type 0} (xs : List X) (b : Bool) → xs ≡ xs ++ cond b [] []
nothing_more xs b = sym (ap (λ l. xs ++ l) (cond_none b) ∙ append-nil xs)

pub moves_none : (cause : By) (s : SlotsValue) → Moves cause [] [] [] s s
moves_none cause s = record {
  same_made = refl;
  more = [];
  longer = sym (append-nil s.history);
  legal = λ h. h;
  outs_are = sym (append-nil (outs s.history));
  returns_are = sym (append-nil (returns s.history));
  acquires_are = λ c. nothing_more (acquires_by c s.history) (is_cause c cause);
  refusals_are = λ n c h. inl h;
  others = λ j k p place id number is other h. h;
}

-- ---- one entry more

outs_more : (h : List SlotEntry) (e : SlotEntry) → outs (h ++ e ∷ []) ≡ outs h ++ out_by e.by e.op
outs_more h e = flat_map-append (λ (x : SlotEntry). out_by x.by x.op) h (e ∷ []) ∙ ap (λ (l : List BoxOut). outs h ++ l) (append-nil (out_by e.by e.op))

acquires_more : (c : By) (h : List SlotEntry) (e : SlotEntry) → acquires_by c (h ++ e ∷ []) ≡ acquires_by c h ++ cond (is_cause c e.by) (acquire_of e.op) []
acquires_more c h e =
    flat_map-append (λ (x : SlotEntry). cond (is_cause c x.by) (acquire_of x.op) []) h (e ∷ [])
    ∙ ap (λ (l : List CoderId). acquires_by c h ++ l) (append-nil (cond (is_cause c e.by) (acquire_of e.op) []))

state_is : (before h : List SlotEntry) → state_on with_slot before h ≡ before ++ h
state_is before [] = sym (append-nil before)
state_is before (e ∷ es) = state_is (before ++ e ∷ []) es ∙ append_assoc before (e ∷ []) es

returns_more : (h : List SlotEntry) (e : SlotEntry) → returns (h ++ e ∷ []) ≡ returns h ++ return_by e.by e.op h
returns_more h e =
    owed_more with_slot (λ place (x : SlotEntry) before. return_by x.by x.op before) [] h e
    ∙ ap (λ (l : List SlotEntry). returns h ++ return_by e.by e.op l) (state_is [] h)

refused_before : (h : List SlotEntry) (e : SlotEntry) (n : ℕ) (c : By) → IsRefusedAt (h ++ e ∷ []) n c → IsRefusedAt h n c ⊎ (c ≡ e.by)
refused_before h e n c r = elim (get_more h e n _ r.stands) [
  | inl k ↦ inl (record { id = r.id; out = r.out; made = r.made; stands = k })
  | inr k ↦ inr (ap (λ (x : SlotEntry). x.by) k.1)
]

-- ---- a box comes back

codec_is : (j k p q : ℕ) → ◌≡◌ {A = By} (by.Codec j p) (by.Codec k q) → j ≡ k
codec_is j k p q h = cc

some_by : (a b : By) → Some a ≡ Some b → a ≡ b
some_by a b h = cc

-- another's box stays where a box of this codec comes back
give_others : (cause : By) (b : BoxOut) (h : List SlotEntry) (j k p place q : ℕ) (id : CoderId) (number : ℕ) → j ≢ k → holder_of b.id b.number h ≡ Some (by.Codec k q) → holder_of id number h ≡ Some (by.Codec j p)
    → holder_of id number (h ++ record { by = cause; op = slot.Give b.id b.number } ∷ []) ≡ Some (by.Codec j p)
give_others cause b h j k p place q id number other mine theirs = holder_more id number h _ ∙ by_box (is_box id number b.id b.number) refl
  where
    by_box : (c : Bool) → is_box id number b.id b.number ≡ c → cond c None (holder_of id number h) ≡ Some (by.Codec j p)
    by_box false is = theirs
    by_box true is =
        let parts = and_parts (is_id id b.id) (number == b.number) is in
        let one_id : id ≡ b.id = id_is id b.id parts.0 in
        let one_number : number ≡ b.number = eqb-true number b.number parts.1 in
        let same = sym (ap (λ (i : CoderId). holder_of i number h) one_id ∙ ap (λ (n : ℕ). holder_of b.id n h) one_number) in
        absurd (other (codec_is j k p q (some_by _ _ (sym theirs ∙ (sym same ∙ mine)))))

pub moves_give : (k place q : ℕ) (b : BoxOut) (s : SlotsValue) → b.by ≡ by.Codec k q → holder_of b.id b.number s.history ≡ Some b.by → is_later b.by (by.Codec k place) ≡ true
    → Moves (by.Codec k place) [] [] (record { box = b; giver = by.Codec k place } ∷ []) s (after_give (by.Codec k place) (Some b) s)
moves_give k place q b s mine held later =
    let cause : By = by.Codec k place in
    let e : SlotEntry = record { by = cause; op = slot.Give b.id b.number } in
    record {
      same_made = refl;
      more = e ∷ [];
      longer = refl;
      legal = λ h. legal_more s.made s.history e h (give_is_legal s.made s.history b.by cause b.id b.number held later);
      outs_are = outs_more s.history e;
      returns_are = returns_more s.history e ∙ ap (λ (o : Option By). returns s.history ++ return_from cause b.id b.number o) held;
      acquires_are = λ c. acquires_more c s.history e;
      refusals_are = λ n c r. refused_before s.history e n c r;
      others = λ j i p at id number is other theirs. give_others cause b s.history j k p place q id number (λ same. other (same ∙ codec_is k i place at is)) (held ∙ ap (λ c. Some c) mine) theirs;
    }

-- ---- a box is asked for

all_pass : (p : ℕ → Bool) (a n : ℕ) → find (λ m. not (p m)) (range_with_len a n) ≡ None → count_by p (range_with_len a n) ≡ n
all_pass p a zero none = refl
all_pass p a (suc n) none =
    elim (p a) as (λ b. p a ≡ b → cond (not b) (Some a) (find (λ m. not (p m)) (range_with_len (a + 1) n)) ≡ None → count_by p (range_with_len a (suc n)) ≡ suc n) [
      | false ↦ λ here first. absurd cc
      | true ↦ λ here first. (
          let one = ap {B = ℕ} (λ (b : Bool). cond b 1 0) here in
          let rest = all_pass p (a + 1) n first in
          let split = sum_by-cons (λ m. cond (p m) 1 0) a (range_with_len (a + 1) n) in
          omega (arith, one, rest, split)
          )
    ] refl none

ask_legal : (cause : By) (id : CoderId) (s : SlotsValue) (o : Option ℕ) → least_free id s.made s.history ≡ o → is_legal_slots s.made s.history ≡ true
    → is_legal_slots s.made (s.history ++ record { by = cause; op = acquire_op id (out_of id s.made s.history) (made_of id s.made) o } ∷ []) ≡ true
ask_legal cause id s (Some n) is h = legal_more s.made s.history _ h (acquire_is_legal s.made s.history cause id n is)
ask_legal cause id s None is h =
    let all : out_of id s.made s.history ≡ made_of id s.made = all_pass (λ m. is_out id m s.history) 0 (made_of id s.made) is in
    subst (λ (n : ℕ). is_legal_slots s.made (s.history ++ record { by = cause; op = slot.Refused id n (made_of id s.made) } ∷ []) ≡ true) (sym all)
    (legal_more s.made s.history _ h (refusal_is_legal s.made s.history cause id (made_of id s.made) all refl))

ask_others : (cause : By) (id : CoderId) (out all : ℕ) (o : Option ℕ) (s : SlotsValue) (j p : ℕ) (other : CoderId) (number : ℕ) → least_free id s.made s.history ≡ o → holder_of other number s.history ≡ Some (by.Codec j p)
    → holder_of other number (s.history ++ record { by = cause; op = acquire_op id out all o } ∷ []) ≡ Some (by.Codec j p)
ask_others cause id out all None s j p other number free theirs = holder_more other number s.history _ ∙ theirs
ask_others cause id out all (Some n) s j p other number free theirs = holder_more other number s.history _ ∙ by_box (is_box other number id n) refl
  where
    by_box : (c : Bool) → is_box other number id n ≡ c → cond c (Some cause) (holder_of other number s.history) ≡ Some (by.Codec j p)
    by_box false is = theirs
    by_box true is =
        let parts = and_parts (is_id other id) (number == n) is in
        let one_id : other ≡ id = id_is other id parts.0 in
        let one_number : number ≡ n = eqb-true number n parts.1 in
        let home : is_out id n s.history ≡ false = find_fails (λ m. is_out id m s.history) (made_of id s.made) n free in
        let out : is_out id n s.history ≡ true = ap is_some (sym (ap (λ (i : CoderId). holder_of i number s.history) one_id ∙ ap (λ (m : ℕ). holder_of id m s.history) one_number) ∙ theirs) in
        absurd (let bad = sym home ∙ out in cc)

abbrev pub out_for : By → CoderId → Option ℕ → List BoxOut
out_for cause id None = []
out_for cause id (Some n) = record { id = id; number = n; by = cause } ∷ []

ask_outs : (cause : By) (id : CoderId) (out all : ℕ) (o : Option ℕ) → out_by cause (acquire_op id out all o) ≡ out_for cause id o
ask_outs cause id out all None = refl
ask_outs cause id out all (Some n) = refl

ask_returns : (cause : By) (id : CoderId) (out all : ℕ) (o : Option ℕ) (h : List SlotEntry) → return_by cause (acquire_op id out all o) h ≡ []
ask_returns cause id out all None h = refl
ask_returns cause id out all (Some n) h = refl

ask_acquires : (id : CoderId) (out all : ℕ) (o : Option ℕ) → acquire_of (acquire_op id out all o) ≡ id ∷ []
ask_acquires id out all None = refl
ask_acquires id out all (Some n) = refl

pub moves_ask : (cause : By) (id : CoderId) (s : SlotsValue) → Moves cause (id ∷ []) (out_for cause id (least_free id s.made s.history)) [] s (acquired cause id s)
moves_ask cause id s =
    let e : SlotEntry = acquire_entry cause id s in
    let o = least_free id s.made s.history in
    let out = out_of id s.made s.history in
    let all = made_of id s.made in
    record {
      same_made = refl;
      more = e ∷ [];
      longer = refl;
      legal = ask_legal cause id s o refl;
      outs_are = outs_more s.history e ∙ ap (λ (l : List BoxOut). outs s.history ++ l) (ask_outs cause id out all o);
      returns_are = returns_more s.history e ∙ ap (λ (l : List Return). returns s.history ++ l) (ask_returns cause id out all o s.history);
      acquires_are = λ c. acquires_more c s.history e ∙ ap (λ (l : List CoderId). acquires_by c s.history ++ cond (is_cause c cause) l []) (ask_acquires id out all o);
      refusals_are = λ n c r. refused_before s.history e n c r;
      others = λ j k p place other number is apart theirs. ask_others cause id out all o s j p other number refl theirs;
    }

-- ---- one after the other

cond_both : {X : Type 0} (b : Bool) (xs ys zs : List X) → (xs ++ cond b ys []) ++ cond b zs [] ≡ xs ++ cond b (ys ++ zs) []
cond_both true xs ys zs = append_assoc xs ys zs
cond_both false xs ys zs = append-nil (xs ++ [])

pub moves_then : (cause : By) (asks then_asks : List CoderId) (out then_out : List BoxOut) (back then_back : List Return) (s t u : SlotsValue)
    → Moves cause asks out back s t → Moves cause then_asks then_out then_back t u → Moves cause (asks ++ then_asks) (out ++ then_out) (back ++ then_back) s u
moves_then cause asks then_asks out then_out back then_back s t u m n = record {
  same_made = n.same_made ∙ m.same_made;
  more = m.more ++ n.more;
  longer = n.longer ∙ (ap (λ (l : List SlotEntry). l ++ n.more) m.longer ∙ append_assoc s.history m.more n.more);
  legal = λ h. n.legal (m.legal h);
  outs_are = n.outs_are ∙ (ap (λ (l : List BoxOut). l ++ then_out) m.outs_are ∙ append_assoc (outs s.history) out then_out);
  returns_are = n.returns_are ∙ (ap (λ (l : List Return). l ++ then_back) m.returns_are ∙ append_assoc (returns s.history) back then_back);
  acquires_are = λ c. n.acquires_are c ∙ (ap (λ (l : List CoderId). l ++ cond (is_cause c cause) then_asks []) (m.acquires_are c) ∙ cond_both (is_cause c cause) (acquires_by c s.history) asks then_asks);
  refusals_are = λ i c r. elim (n.refusals_are i c r) [ inl k ↦ m.refusals_are i c k | inr k ↦ inr k ];
  others = λ j k p place id number is other theirs. n.others j k p place id number is other (m.others j k p place id number is other theirs);
}
