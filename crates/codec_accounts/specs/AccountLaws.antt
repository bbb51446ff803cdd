-- The boxes of all codecs are accounted for, entry after entry.
use Rattle.std.proofs.Common.{ℕ, zero, suc, ◌+◌, ◌≡◌, ◌≢◌, ◌≤◌, ◌<◌, ◌==◌, ◌&&◌, inl, inr, Bool, true, false, cond, List, [], ◌∷◌, ◌++◌, map, length, take, Option, Some, None, is_some, refl, ap, sym, subst, ◌∙◌, arith, append-nil, eq-eqb}
use Rattle.std.specs.Prelude.{slice_get, slice_set}
use Rattle.std.specs.List.{sum_by}
use Rattle.std.proofs.lemmas.Bool.{cases_eq, ne_eqb}
use Rattle.std.proofs.lemmas.List.{take-append-le}
use Rattle.std.proofs.lemmas.Option.{slice_get_within}
use Rattle.std.proofs.Math.Seq.{take-length}
use Rattle.wc_base.specs.declared.who.By.{By}
use Rattle.wc_base.specs.declared.who.By.TheVariants as by
use Rattle.wc_config.specs.declared.codec.CoderId.{CoderId}
use Rattle.coder_api.specs.declared.slot.SlotEntry.{SlotEntry}
use Rattle.coder_api.specs.declared.slot.SlotOp.TheVariants as slot
use Rattle.slot_registry.specs.Slots.{SlotsValue, is_legal_slots, is_later}
use Rattle.codec_model.specs.declared.entry.Outcome.{Outcome}
use Rattle.codec_model.specs.declared.entry.Entry.{Entry}
use Rattle.codec_model.specs.declared.entry.Entry.TheVariants as entry
use Rattle.codec_model.specs.Replay.{State, step}
use Rattle.codec_accounts.specs.Bags.{SameBag}
use Rattle.codec_accounts.specs.Owed.{at, append_at}
use Rattle.codec_accounts.specs.OwedLaws.{paid_next}
use Rattle.codec_accounts.specs.ListLaws.{Same, Longer, growth, at_same, at_other, append_at_length, get_more}
use Rattle.codec_accounts.specs.Boxes.{Act, act_of, acts_of, asks_of, asks_in, start_in, Event, holds_nothing, holds_after, gets_since, box_with, lets_go_by, acts_in}
use Rattle.codec_accounts.specs.BoxesLaws.{now, place_is, before_is}
use Rattle.codec_accounts.specs.Registry.{BoxOut, Return, Box, is_cause, acquire_of, acquires_by, in_list, asks_by, AcquiresAreAsked, outs, returns, IsRefusedAt, EndsAsStarted, EndsAreTrue, out_at, back_at, gets_due, lets_go_due, all_out, all_back}
use Rattle.codec_accounts.specs.Codec.{CodecValue, state_of, next_by, after_give, after_entry, slots_by, codec_at, codecs_after, histories, IsGivable, AreGivable}
use Rattle.codec_accounts.specs.SlotLaws.{Moves}
use Rattle.codec_accounts.specs.ActLaws.{act_makes}
use Rattle.codec_accounts.specs.HoldingLaws.{may_give}
use Rattle.codec_accounts.specs.StartLaws.{EndFits, says_more, says_now, start_within}
use Rattle.codec_accounts.specs.CodecLaws.{Keeps, keeps_more, keeps_others, acts_next}

-- ---- lists

pub set_here : (k : ℕ) (d : CodecValue) (ds : List CodecValue) → k < length ds → codec_at k (slice_set ds k d) ≡ d
set_here k d [] lt = absurd (omega (arith, lt))
set_here zero d (c ∷ ds) lt = refl
set_here (suc k) d (c ∷ ds) lt = set_here k d ds (omega (arith, lt))

pub set_other : (j k : ℕ) (d : CodecValue) (ds : List CodecValue) → j ≢ k → codec_at j (slice_set ds k d) ≡ codec_at j ds
set_other j k d [] other = refl
set_other zero zero d (c ∷ ds) other = absurd (other refl)
set_other zero (suc k) d (c ∷ ds) other = refl
set_other (suc j) zero d (c ∷ ds) other = refl
set_other (suc j) (suc k) d (c ∷ ds) other = set_other j k d ds (λ e. other (ap suc e))

pub set_count : (k : ℕ) (d : CodecValue) (ds : List CodecValue) → length (slice_set ds k d) ≡ length ds
set_count k d [] = refl
set_count zero d (c ∷ ds) = refl
set_count (suc k) d (c ∷ ds) = ap suc (set_count k d ds)

pub histories_count : (ds : List CodecValue) → length (histories ds) ≡ length ds
histories_count [] = refl
histories_count (d ∷ ds) = ap suc (histories_count ds)

pub history_at : (k : ℕ) (ds : List CodecValue) → at k (histories ds) ≡ (codec_at k ds).history
history_at k [] = refl
history_at zero (d ∷ ds) = refl
history_at (suc k) (d ∷ ds) = history_at k ds

-- one history grows by the entry
pub histories_more : (k : ℕ) (e : Entry) (s : SlotsValue) (ds : List CodecValue) → histories (codecs_after k e s ds) ≡ append_at k e (histories ds)
histories_more k e s ds = set_history k (codec_at k ds) ds refl
  where
    set_history : (n : ℕ) (d : CodecValue) (cs : List CodecValue) → d ≡ codec_at n cs → histories (slice_set cs n (after_entry k e s d)) ≡ append_at n e (histories cs)
    set_history n d [] is = refl
    set_history zero d (c ∷ cs) is = ap (λ (x : CodecValue). (x.history ++ e ∷ []) ∷ histories cs) is
    set_history (suc n) d (c ∷ cs) is = ap (λ (l : List (List Entry)). c.history ∷ l) (set_history n d cs is)

-- ---- acquires

eq_suc : (p n : ℕ) → (suc p == suc n) ≡ (p == n)
eq_suc p n = elim (cases_eq p n) [
  | inl same ↦ eq-eqb (suc p) (suc n) (ap suc same) ∙ sym (eq-eqb p n same)
  | inr other ↦ not_same (suc p) (suc n) (λ e. other (omega (arith, e))) ∙ sym (not_same p n other)
]
  where
    not_same : (a b : ℕ) → a ≢ b → (a == b) ≡ false
    not_same a b other = ne_eqb a b other

above_none : (p : ℕ) → (suc p == 0) ≡ false
above_none p = ne_eqb (suc p) 0 (λ e. omega (arith, e))

none_above : (n : ℕ) → (0 == suc n) ≡ false
none_above n = ne_eqb 0 (suc n) (λ e. omega (arith, e))

asks_snoc : (acts : List Act) (a : Act) (p : ℕ) → in_list (asks_in (acts ++ a ∷ []) p) ≡ in_list (asks_in acts p) ++ cond (p == length acts) (in_list (asks_of a)) []
asks_snoc [] a zero = refl
asks_snoc [] a (suc p) = sym (ap (λ (b : Bool). cond b (in_list (asks_of a)) []) (above_none p))
asks_snoc (x ∷ xs) a zero =
    sym (append-nil (in_list (asks_of x)))
    ∙ ap (λ (b : Bool). in_list (asks_of x) ++ cond b (in_list (asks_of a)) []) (sym (none_above (length xs)))
asks_snoc (x ∷ xs) a (suc p) = asks_snoc xs a p ∙ ap (λ (b : Bool). in_list (asks_in xs p) ++ cond b (in_list (asks_of a)) []) (sym (eq_suc p (length xs)))

asks_past : (acts : List Act) (p : ℕ) → length acts ≤ p → asks_in acts p ≡ None
asks_past [] p le = refl
asks_past (x ∷ xs) zero le = absurd (omega (arith, le))
asks_past (x ∷ xs) (suc p) le = asks_past xs p (omega (arith, le))

-- what stands in a list stands in what it calls for
refused_asks : (slots : List SlotEntry) (n : ℕ) (cause : By) → IsRefusedAt slots n cause → acquires_by cause slots ≡ [] → ⊥
refused_asks slots n cause r none = stands slots n r.stands none
  where
    itself : (c : By) → is_cause c c ≡ true
    itself (by.Caller who) = rw (eq-eqb who.caller who.caller refl, eq-eqb who.step who.step refl) refl
    itself (by.Codec k p) = rw (eq-eqb k k refl, eq-eqb p p refl) refl

    here : (e : SlotEntry) (rest : List CoderId) → e ≡ record { by = cause; op = slot.Refused r.id r.out r.made } → cond (is_cause cause e.by) (acquire_of e.op) [] ++ rest ≡ [] → ⊥
    here e rest is none =
        let first : cond (is_cause cause e.by) (acquire_of e.op) [] ≡ r.id ∷ [] = ap (λ (x : SlotEntry). cond (is_cause cause x.by) (acquire_of x.op) []) is ∙ ap (λ (b : Bool). cond b (r.id ∷ []) []) (itself cause) in
        let bad = sym (ap (λ (l : List CoderId). l ++ rest) first) ∙ none in absurd cc

    both_none : (xs ys : List CoderId) → xs ++ ys ≡ [] → ys ≡ []
    both_none [] ys h = h
    both_none (x ∷ xs) ys h = absurd cc

    stands : (l : List SlotEntry) (i : ℕ) → slice_get l i ≡ Some (record { by = cause; op = slot.Refused r.id r.out r.made }) → acquires_by cause l ≡ [] → ⊥
    stands [] i is none = absurd cc
    stands (e ∷ es) zero is none = here e (acquires_by cause es) (some_entry is) none
      where
        some_entry : {a b : SlotEntry} → Some a ≡ Some b → a ≡ b
        some_entry h = cc
    stands (e ∷ es) (suc i) is none = stands es i is (both_none (cond (is_cause cause e.by) (acquire_of e.op) []) (acquires_by cause es) none)

-- ---- all codecs

abbrev pub acts_on : List CodecValue → ℕ → List Act
acts_on ds k = acts_of (codec_at k ds).opening (codec_at k ds).history

-- What the registry's history has is what the codecs' histories call for.
pub record Accounted (ds : List CodecValue) (s : SlotsValue) : Type 0 where
  pub events : List (List (Event Box))
  pub count : length events ≡ length ds
  pub each : (k : ℕ) → Keeps k (codec_at k ds) (at k events) s.history
  pub legal : is_legal_slots s.made s.history ≡ true
  pub acquires : AcquiresAreAsked (acts_on ds) s.history
  pub out : SameBag (outs s.history) (all_out events)
  pub back : SameBag (returns s.history) (all_back events)
  pub ends : EndsAreTrue (acts_on ds) (histories ds) s.history

-- the end of an item says how its start's acquire went; other entries say nothing of it
abbrev pub EntryFits : Entry → Option ℕ → Type 0
EntryFits (entry.Done epoch number moment o) refusal = EndFits refusal o
EntryFits _ refusal = Unit {0}

done_fits : (e : Entry) (refusal : Option ℕ) (epoch number moment : ℕ) (o : Outcome) → e ≡ entry.Done epoch number moment o → EntryFits e refusal → EndFits refusal o
done_fits e refusal epoch number moment o is fits = subst (λ (x : Entry). EntryFits x refusal) is fits

-- ---- one entry more

acts_count : {B : Type 0} (es : List (Event B)) → length (acts_in es) ≡ length es
acts_count [] = refl
acts_count (x ∷ xs) = ap suc (acts_count xs)

-- so many acts as entries
acts_long : (ds : List CodecValue) (k : ℕ) (es : List (Event Box)) (slots : List SlotEntry) → Keeps k (codec_at k ds) es slots → length (acts_on ds k) ≡ length (codec_at k ds).history
acts_long ds k es slots kept = ap length kept.acts ∙ (acts_count es ∙ kept.count)

-- the next entry of a codec was refused nothing before
never_before : (ds : List CodecValue) (s : SlotsValue) (k : ℕ) → Accounted ds s → (n : ℕ) → IsRefusedAt s.history n (next_by k (codec_at k ds)) → ⊥
never_before ds s k a n r =
    let d = codec_at k ds in
    refused_asks s.history n (next_by k d) r (a.acquires (next_by k d) ∙ ap in_list (asks_past (acts_on ds k) (length d.history) (let e = acts_long ds k (at k a.events) s.history (a.each k) in omega (arith, e))))

-- a give is no refusal
give_refuses_none : (s : SlotsValue) (cause : By) (box : Option BoxOut) → ((n : ℕ) → IsRefusedAt s.history n cause → ⊥) → (n : ℕ) → IsRefusedAt (after_give cause box s).history n cause → ⊥
give_refuses_none s cause None none n r = none n (subst (λ (l : List SlotEntry). IsRefusedAt l n cause) (append-nil s.history) r)
give_refuses_none s cause (Some b) none n r = elim (get_more s.history _ n _ r.stands) [
  | inl k ↦ none n (record { id = r.id; out = r.out; made = r.made; stands = k })
  | inr k ↦ (let bad = ap (λ (x : SlotEntry). x.op) k.1 in absurd cc)
]

-- what an entry is to the boxes is added to its codec's history
pub data ActsThen (ds next : List CodecValue) (k : ℕ) (a : Act) (j : ℕ) : Type 0 where
  Others : j ≢ k → acts_on next j ≡ acts_on ds j → ActsThen ds next k a j
  Mine : j ≡ k → acts_on next j ≡ acts_on ds j ++ a ∷ [] → ActsThen ds next k a j

acts_then : (ds : List CodecValue) (s : SlotsValue) (k : ℕ) (e : Entry) (a : Act) (es : List (Event Box)) → k < length ds → Keeps k (codec_at k ds) es s.history → a ≡ act_of e (state_of (codec_at k ds)) → (j : ℕ) → ActsThen ds (codecs_after k e s ds) k a j
acts_then ds s k e a es lt kept is j = elim (cases_eq j k) [
  | inr other ↦ Others other (ap (λ (c : CodecValue). acts_of c.opening c.history) (set_other j k (after_entry k e s (codec_at k ds)) ds other))
  | inl same ↦ Mine same (
      ap (acts_on (codecs_after k e s ds)) same
      ∙ (ap (λ (c : CodecValue). acts_of c.opening c.history) (set_here k (after_entry k e s (codec_at k ds)) ds lt)
      ∙ (acts_next (codec_at k ds).opening (codec_at k ds).history e (state_of (codec_at k ds)) kept.replays
      ∙ (ap (λ (x : Act). acts_on ds k ++ x ∷ []) (sym is) ∙ ap (λ (n : ℕ). acts_on ds n ++ a ∷ []) (sym same)))))
]

asks_then : (ds next : List CodecValue) (k n : ℕ) (a : Act) (c : By) → ((j : ℕ) → ActsThen ds next k a j) → length (acts_on ds k) ≡ n → asks_by (acts_on ds) c ++ cond (is_cause c (by.Codec k n)) (in_list (asks_of a)) [] ≡ asks_by (acts_on next) c
asks_then ds next k n a (by.Caller who) h len = refl
asks_then ds next k n a (by.Codec j p) h len = elim (h j) [
  | Others other is ↦ (
      ap (λ (b : Bool). in_list (asks_in (acts_on ds j) p) ++ cond (b && (p == n)) (in_list (asks_of a)) []) (not_same j k other)
      ∙ (append-nil (in_list (asks_in (acts_on ds j) p)) ∙ ap (λ (l : List Act). in_list (asks_in l p)) (sym is))
      )
  | Mine same is ↦ (
      ap (λ (b : Bool). in_list (asks_in (acts_on ds j) p) ++ cond (b && (p == n)) (in_list (asks_of a)) []) (eq-eqb j k same)
      ∙ (ap (λ (m : ℕ). in_list (asks_in (acts_on ds j) p) ++ cond (p == m) (in_list (asks_of a)) []) (sym (ap (λ i. length (acts_on ds i)) same ∙ len))
      ∙ (sym (asks_snoc (acts_on ds j) a p) ∙ ap (λ (l : List Act). in_list (asks_in l p)) (sym is)))
      )
]
  where
    not_same : (x y : ℕ) → x ≢ y → (x == y) ≡ false
    not_same x y other = ne_eqb x y other

take_long : {X : Type 0} (n : ℕ) (l : List X) → length (take n l) ≤ length l
take_long zero [] = omega arith
take_long (suc n) [] = omega arith
take_long zero (x ∷ xs) = omega arith
take_long (suc n) (x ∷ xs) = let r = take_long n xs in omega (arith, r)

take_then : (ds next : List CodecValue) (k : ℕ) (a : Act) (j q : ℕ) → ActsThen ds next k a j → q ≤ length (acts_on ds j) → take q (acts_on next j) ≡ take q (acts_on ds j)
take_then ds next k a j q h le = elim h [
  | Others other is ↦ ap (take q) is
  | Mine same is ↦ ap (take q) is ∙ take-append-le q (acts_on ds j) (a ∷ []) le
]

cause_parts : (j k p q : ℕ) → ◌≡◌ {A = By} (by.Codec j p) (by.Codec k q) → (j ≡ k) × (p ≡ q)
cause_parts j k p q h = (cc, cc)

-- an end that was true stays true
end_stays : (ds next : List CodecValue) (k n : ℕ) (a : Act) (asks : List CoderId) (out : List BoxOut) (back : List Return) (s u : SlotsValue) (j q : ℕ) (o : Outcome) → Moves (by.Codec k n) asks out back s u → ActsThen ds next k a j
    → q ≤ length (acts_on ds j) → (j ≡ k → length (acts_on ds j) ≤ n) → EndsAsStarted (acts_on ds j) s.history j q o → EndsAsStarted (acts_on next j) u.history j q o
end_stays ds next k n a asks out back s u j q o m h le below e = record {
  place = e.place;
  started = ap start_in (take_then ds next k a j q h le) ∙ e.started;
  says = says_more (by.Codec k n) (by.Codec j e.place) asks out back s u o m (λ same.
      (let parts = cause_parts j k e.place n same in
      let within = start_within (take q (acts_on ds j)) e.place e.started in
      let long = take_long q (acts_on ds j) in
      let top = below parts.0 in
      let p = parts.1 in
      absurd (omega (arith, within, long, top, p)))) e.says;
}

-- the end of the item at work is true
end_now : (ds : List CodecValue) (s u : SlotsValue) (k epoch number moment : ℕ) (o : Outcome) (next : List CodecValue) (a : Act) (asks : List CoderId) (out : List BoxOut) (back : List Return) (es : List (Event Box)) → Moves (next_by k (codec_at k ds)) asks out back s u
    → Keeps k (codec_at k ds) es s.history → is_some (state_of (codec_at k ds)).control.running ≡ true → ActsThen ds next k a k → length (acts_on ds k) ≡ length (codec_at k ds).history → EndFits (codec_at k ds).holding.refusal o
    → EndsAsStarted (acts_on next k) u.history k (length (codec_at k ds).history) o
end_now ds s u k epoch number moment o next a asks out back es m kept runs h len fits =
    let d = codec_at k ds in
    let at = kept.starts runs in
    let q = length d.history in
    let front : take q (acts_on next k) ≡ acts_on ds k = take_then ds next k a k q h (omega (arith, len)) ∙ (ap (λ (n : ℕ). take n (acts_on ds k)) (sym len) ∙ take-length (acts_on ds k)) in
    record {
      place = at.place;
      started = ap start_in (front ∙ kept.acts) ∙ at.starts;
      says = says_more (next_by k d) (by.Codec k at.place) asks out back s u o m (λ same.
          (let parts = cause_parts k k at.place q same in
          let below = at.below in
          let count = kept.count in
          let p = parts.1 in
          absurd (omega (arith, below, count, p)))) (says_now s.history (by.Codec k at.place) d.holding.refusal o at.refusal_is fits);
    }

-- The boxes of all codecs are accounted for after one more entry of one of them.
pub accounted_more : (ds : List CodecValue) (s : SlotsValue) (k : ℕ) (e : Entry) (u : State) → Accounted ds s → k < length ds → step e (state_of (codec_at k ds)) ≡ Some u → EntryFits e (codec_at k ds).holding.refusal
    → Accounted (codecs_after k e s ds) (slots_by k e s (codec_at k ds))
accounted_more ds s k e u a lt steps fits =
    let d = codec_at k ds in
    let es = at k a.events in
    let kept = a.each k in
    let never = never_before ds s k a in
    let m = keeps_more k e d es s u kept steps (give_refuses_none s (next_by k d) d.holding.box never) never in
    let ev = m.event in
    let next = codecs_after k e s ds in
    let slots = slots_by k e s d in
    let there : k < length a.events = (let c = a.count in omega (arith, c, lt)) in
    let place = place_is es kept.events in
    let len = acts_long ds k es s.history kept in
    let acts = acts_then ds s k e ev.act es lt kept m.act_is in
    let z : k ≡ 0 + k = omega arith in
    record {
      events = append_at k ev a.events;
      count = append_at_length k ev a.events ∙ (a.count ∙ sym (set_count k (after_entry k e s d) ds));
      each = λ j. elim (cases_eq j k) [
        | inr other ↦ subst (λ (c : CodecValue). Keeps j c (at j (append_at k ev a.events)) slots.history) (sym (set_other j k (after_entry k e s d) ds other))
            (subst (λ (l : List (Event Box)). Keeps j (codec_at j ds) l slots.history) (sym (at_other j k ev a.events other))
            (keeps_others j k (length d.history) (codec_at j ds) (at j a.events) (next_by k d) _ _ _ s slots refl other m.moves (a.each j)))
        | inl same ↦ subst (λ (n : ℕ). Keeps n (codec_at n next) (at n (append_at k ev a.events)) slots.history) (sym same)
            (subst (λ (c : CodecValue). Keeps k c (at k (append_at k ev a.events)) slots.history) (sym (set_here k (after_entry k e s d) ds lt))
            (subst (λ (l : List (Event Box)). Keeps k (after_entry k e s d) l slots.history) (sym (at_same k ev a.events there)) m.keeps))
      ];
      legal = m.moves.legal a.legal;
      acquires = λ c. m.moves.acquires_are c
          ∙ (ap (λ (l : List CoderId). l ++ cond (is_cause c (next_by k d)) (in_list (asks_of ev.act)) []) (a.acquires c) ∙ asks_then ds next k (length d.history) ev.act c acts len);
      out = λ t. ap (sum_by t) m.moves.outs_are
          ∙ paid_next holds_after gets_due (λ n. holds_nothing) k ev a.events (outs s.history) _ there a.out
          (λ w. ap (sum_by w) (ap (λ (n : ℕ). map (out_at k) (box_with (gets_since ev.act n (now es).since) ev.box)) place ∙ ap (λ (n : ℕ). gets_due n (length es) ev (now es)) z)) t;
      back = λ t. ap (sum_by t) m.moves.returns_are
          ∙ paid_next holds_after lets_go_due (λ n. holds_nothing) k ev a.events (returns s.history) _ there a.back
          (λ w. ap (sum_by w) (ap (λ (n : ℕ). map (back_at k) (map (λ b. (n, b)) (lets_go_by ev.act ev.box (now es)))) place ∙ ap (λ (n : ℕ). lets_go_due n (length es) ev (now es)) z)) t;
      ends = λ j q epoch number moment o is. (
          let grown : slice_get (at j (append_at k e (histories ds))) q ≡ Some (entry.Done epoch number moment o) = ap (λ (l : List (List Entry)). slice_get (at j l) q) (sym (histories_more k e s ds)) ∙ is in
          let old = λ (was : slice_get (at j (histories ds)) q ≡ Some (entry.Done epoch number moment o)).
          (let within : q < length (codec_at j ds).history = subst (λ (l : List Entry). q < length l) (history_at j ds) (slice_get_within (at j (histories ds)) q _ was) in
          let long = acts_long ds j (at j a.events) s.history (a.each j) in
          end_stays ds next k (length d.history) ev.act _ _ _ s slots j q o m.moves (acts j) (omega (arith, within, long)) (λ same. (let l = ap (λ i. length (codec_at i ds).history) same in omega (arith, long, l)))
          (a.ends j q epoch number moment o was)) in
          elim (growth j k e (histories ds)) [
            | Same p ↦ old (ap (λ (l : List Entry). slice_get l q) (sym p) ∙ grown)
            | Longer same p ↦ elim (get_more (at j (histories ds)) e q _ (ap (λ (l : List Entry). slice_get l q) (sym p) ∙ grown)) [
              | inl was ↦ old was
              | inr here ↦ (
                  let done : e ≡ entry.Done epoch number moment o = sym here.1 in
                  let runs : is_some (state_of d).control.running ≡ true = (act_makes (entry.Done epoch number moment o) (state_of d) u (ap (λ (x : Entry). step x (state_of d)) (sym done) ∙ steps)).0 in
                  let last : q ≡ length d.history = here.0 ∙ (ap (λ (n : ℕ). length (at n (histories ds))) same ∙ ap length (history_at k ds)) in
                  let true_now = end_now ds s slots k epoch number moment o next ev.act _ _ _ es m.moves kept runs (acts k) len (done_fits e d.holding.refusal epoch number moment o done fits) in
                  subst (λ (n : ℕ). EndsAsStarted (acts_on next n) slots.history n q o) (sym same) (subst (λ (n : ℕ). EndsAsStarted (acts_on next k) slots.history k n o) (sym last) true_now)
                  )
            ]
          ]
          );
    }

-- Each box that a codec holds may be given back by its next entry.
pub are_givable : (ds : List CodecValue) (s : SlotsValue) → Accounted ds s → AreGivable ds s.history
are_givable ds s a k = by_box (codec_at k ds).holding.box refl
  where
    place : (now (at k a.events)).place ≡ length (codec_at k ds).history
    place = place_is (at k a.events) (a.each k).events ∙ (a.each k).count

    by_box : (o : Option BoxOut) → (codec_at k ds).holding.box ≡ o → IsGivable s.history (next_by k (codec_at k ds)) o
    by_box None is = tt
    by_box (Some b) is =
        let may = may_give k (state_of (codec_at k ds)) (now (at k a.events)) (codec_at k ds).holding s.history (a.each k).has (before_is (at k a.events) (a.each k).events) b is in
        ((a.each k).has.out b is, ap (λ (n : ℕ). is_later b.by (by.Codec k n)) (sym place) ∙ may.2)
