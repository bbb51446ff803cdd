-- The boxes of all codecs together.
use Rattle.std.proofs.Common.{ℕ, zero, suc, ◌+◌, ◌≡◌, ◌≤◌, ◌<◌, ◌==◌, ◌&&◌, inl, inr, Bool, true, false, cond, List, [], ◌∷◌, ◌++◌, ◌⊎◌, map, length, Option, Some, refl, ap, sym, subst, ◌∙◌, arith}
use Rattle.std.specs.Prelude.{slice_get}
use Rattle.std.specs.List.{sum_by}
use Rattle.std.proofs.lemmas.Bool.{ne_eqb}
use Rattle.std.proofs.lemmas.List.Concat.{flat_map-append}
use Rattle.std.proofs.lemmas.List.Sums.{sum_by-cons}
use Rattle.wc_base.specs.declared.who.By.{By}
use Rattle.wc_base.specs.declared.who.By.TheVariants as by
use Rattle.wc_base.specs.Views.{Log}
use Rattle.wc_base.specs.declared.seat.Passage.TheVariants.{Made, Look}
use Rattle.wc_config.specs.declared.codec.CoderId.{CoderId}
use Rattle.coder_api.specs.declared.slot.SlotEntry.{SlotEntry}
use Rattle.coder_api.specs.declared.slot.SlotOp.{SlotOp}
use Rattle.coder_api.specs.declared.slot.SlotOp.TheVariants as slot
use Rattle.codec_model.specs.declared.entry.Opening.{Opening}
use Rattle.codec_model.specs.declared.entry.Outcome.{Outcome}
use Rattle.codec_model.specs.declared.entry.Entry.{Entry}
use Rattle.codec_model.specs.declared.entry.Entry.TheVariants as entry
use Rattle.codec_accounts.specs.Bags.{SameBag}
use Rattle.codec_accounts.specs.BagsLaws.{weigh_append, same_flat_map}
use Rattle.codec_accounts.specs.Owed.{at, owed_from}
use Rattle.codec_accounts.specs.Boxes.{Act, Ends, Asks, Begins, Removes, Other, asks_in, acts_of, Event as BoxEvent, Holds, holds_nothing, holds_after, lets_go_by, acts_in}
use Rattle.codec_accounts.specs.Registry.{Box, BoxOut, is_cause, out_by, outs, gets_due, lets_go_due, AreOf, acts_at, BoxesAreBack}
use Rattle.codec_accounts.specs.RegistryLaws.{boxes_are_back}
use Rattle.codec_logs.specs.declared.event.Event.{Event}
use Rattle.codec_logs.specs.Logs.{Track, opening_track, history_of, acquires_of, box_of, act_in, track_made, Follows, AreAsked, Tells, box_events}
use Rattle.codec_logs.specs.LogLaws.{legal_log}
use Rattle.run_laws.specs.Tries.{try_of, tries_by, MayTry, asked_by, EndsAsTried, BoxesAreTried}
use Rattle.run_laws.specs.Told.{EndsAreTold, nothing_started}
use Rattle.shared_codec.specs.Dues.{give_by, slot_dues}
use Rattle.shared_codec.specs.Sums.{all_dues}
use Rattle.run_laws.specs.Paid.{histories_of, slots_of, all_slots, by_cause, RegistryIsPaid}
use Rattle.run_laws.proofs.Latest.{last_before, last_below}
use Rattle.run_laws.proofs.Returns.{AreLast, OutIsAsked, OutsAreAsked, due_return, returns_are, box_weight, entry_weight}
use Rattle.run_laws.proofs.Dues.{asked_at, last_at, top_of, At, returns_due, log_outs, log_due, log_weighs, log_asked, both_asked}
use Rattle.run_laws.proofs.Trying.{Working, tries_coming, log_ends}

-- ---- codecs in order

abbrev pub EachLog : (ℕ → Log Event → Type 0) → ℕ → List (Log Event) → Type 0
EachLog P k [] = Unit {0}
EachLog P k (l ∷ ls) = P k l × EachLog P (suc k) ls

pub each_from : (P : ℕ → Log Event → Type 0) (first : ℕ) (ls : List (Log Event)) → ((i : ℕ) → i < length ls → P (first + i) (at i ls)) → EachLog P first ls
each_from P first [] h = tt
each_from P first (l ∷ ls) h =
    let z : first + 0 ≡ first = omega arith in (
      subst (λ (n : ℕ). P n l) z (h 0 (omega arith)),
      each_from P (suc first) ls (λ i lt. (let e : first + suc i ≡ suc first + i = omega arith in subst (λ (n : ℕ). P n (at i ls)) e (h (suc i) (omega (arith, lt))))),
    )

pub history_here : (k : ℕ) (logs : List (Log Event)) → at k (histories_of logs) ≡ history_of (at k logs)
history_here k [] = refl
history_here zero (l ∷ ls) = refl
history_here (suc k) (l ∷ ls) = history_here k ls

-- ---- one codec

module _ (opening : ℕ → Opening) (acts : ℕ → List Act) (slots : List SlotEntry) where
  abbrev opened : ℕ → Track
  opened k = opening_track (opening k)

  -- what is known of a codec's log
  record Facts (k : ℕ) (l : Log Event) : Type 0 where
    follows : Follows k (opened k) l
    acts_are : acts k ≡ acts_in (box_events (opened k) l)
    told : EndsAreTold k slots (λ n. true) nothing_started (opened k) l

  begins : (k : ℕ) (l : Log Event) → acts k ≡ acts_in (box_events (opened k) l) → At (acts k) (opened k) l
  begins k l is = record { sofar = []; is = is; long = refl; since = λ p bad. absurd cc }

  starts : (k : ℕ) → Working [] (opened k) nothing_started
  starts k = record { long = refl; starts = λ h. absurd cc; asked = λ h. absurd cc; below = λ h. absurd cc; runs = λ h. absurd cc; since = λ h. absurd cc; asks = λ h. absurd cc }

  -- the events of all codecs
  abbrev events_of : ℕ → List (Log Event) → List (List (BoxEvent Box))
  events_of k [] = []
  events_of k (l ∷ ls) = box_events (opened k) l ∷ events_of (suc k) ls

  outs_all : (k : ℕ) (ls : List (Log Event)) → EachLog Facts k ls → outs (all_slots opening k ls) ≡ owed_from holds_after gets_due (λ n. holds_nothing) k (events_of k ls)
  outs_all k [] facts = refl
  outs_all k (l ∷ ls) facts =
      let here = log_outs k (opened k) l facts.0.follows in
      let rest = outs_all (suc k) ls facts.1 in
      flat_map-append (λ (e : SlotEntry). out_by e.by e.op) (slots_of opening k l) (all_slots opening (suc k) ls) ∙ (λ i. here i ++ rest i)

  due_all : (k : ℕ) (ls : List (Log Event)) → EachLog Facts k ls → returns_due acts (all_slots opening k ls) ≡ owed_from holds_after lets_go_due (λ n. holds_nothing) k (events_of k ls)
  due_all k [] facts = refl
  due_all k (l ∷ ls) facts =
      let here = log_due acts k slots nothing_started (opened k) l (begins k l facts.0.acts_are) facts.0.follows facts.0.told in
      let rest = due_all (suc k) ls facts.1 in
      flat_map-append (λ (e : SlotEntry). due_return (asked_at acts) (last_at acts) (top_of acts) e.op e.by) (slots_of opening k l) (all_slots opening (suc k) ls) ∙ (λ i. here i ++ rest i)

  weighs_all : (k : ℕ) (ls : List (Log Event)) → EachLog Facts k ls
      → sum_by (box_weight (asked_at acts) (last_at acts) (top_of acts)) (outs (all_slots opening k ls)) ≤ sum_by (entry_weight (asked_at acts) (last_at acts) (top_of acts)) (all_slots opening k ls)
  weighs_all k [] facts = omega arith
  weighs_all k (l ∷ ls) facts =
      let u : BoxOut → ℕ = box_weight (asked_at acts) (last_at acts) (top_of acts) in
      let v : SlotEntry → ℕ = entry_weight (asked_at acts) (last_at acts) (top_of acts) in
      let here = log_weighs acts k (opened k) l (begins k l facts.0.acts_are) facts.0.follows in
      let rest = weighs_all (suc k) ls facts.1 in
      let split = ap (sum_by u) (flat_map-append (λ (e : SlotEntry). out_by e.by e.op) (slots_of opening k l) (all_slots opening (suc k) ls)) in
      let both = weigh_append u (outs (slots_of opening k l)) (outs (all_slots opening (suc k) ls)) in
      let dues = weigh_append v (slots_of opening k l) (all_slots opening (suc k) ls) in
      omega (arith, here, rest, split, both, dues)

  asked_all : (k : ℕ) (ls : List (Log Event)) → EachLog Facts k ls → OutsAreAsked (asked_at acts) (last_at acts) (top_of acts) (all_slots opening k ls)
  asked_all k [] facts = tt
  asked_all k (l ∷ ls) facts = both_asked acts (slots_of opening k l) (all_slots opening (suc k) ls) (log_asked acts k (opened k) l (begins k l facts.0.acts_are) facts.0.follows) (asked_all (suc k) ls facts.1)

  events_are : (k : ℕ) (ls : List (Log Event)) → EachLog Facts k ls → AreOf acts k (events_of k ls)
  events_are k [] facts = tt
  events_are k (l ∷ ls) facts = (facts.0.acts_are, (legal_log k (opening k) l facts.0.follows).events, events_are (suc k) ls facts.1)

  -- ---- what bags say of single entries

  abbrev not_asked : By → ℕ
  not_asked (by.Caller who) = 1
  not_asked (by.Codec k p) = cond (asked_at acts k p) 0 1

  abbrev unasked_op : SlotOp → By → ℕ
  unasked_op (slot.Acquire id number) cause = not_asked cause
  unasked_op (slot.Refused id out made) cause = 0
  unasked_op (slot.Give id number) cause = 0

  abbrev unasked : SlotEntry → ℕ
  unasked e = unasked_op e.op e.by

  asked_weighs : (es : List SlotEntry) → OutsAreAsked (asked_at acts) (last_at acts) (top_of acts) es → sum_by unasked es ≡ 0
  asked_weighs [] h = refl
  asked_weighs (e ∷ es) h =
      let w = sum_by-cons unasked e es in
      let rest = asked_weighs es h.1 in
      let here = one e.op e.by h.0 in
      omega (arith, w, rest, here)
    where
      one : (op : SlotOp) (cause : By) → OutIsAsked (asked_at acts) (last_at acts) (top_of acts) op cause → unasked_op op cause ≡ 0
      one (slot.Acquire id number) (by.Caller who) a = absurd a
      one (slot.Acquire id number) (by.Codec k p) a = ap (λ (b : Bool). cond b 0 1) a
      one (slot.Refused id out made) cause a = refl
      one (slot.Give id number) cause a = refl

  weighs_asked : (es : List SlotEntry) → sum_by unasked es ≡ 0 → OutsAreAsked (asked_at acts) (last_at acts) (top_of acts) es
  weighs_asked [] h = tt
  weighs_asked (e ∷ es) h =
      let w = sum_by-cons unasked e es in
      (one e.op e.by (omega (arith, w, h)), weighs_asked es (omega (arith, w, h)))
    where
      yes : (b : Bool) → ◌≡◌ {A = ℕ} (cond b 0 1) 0 → b ≡ true
      yes true z = refl
      yes false z = absurd (omega (arith, z))

      one : (op : SlotOp) (cause : By) → unasked_op op cause ≡ 0 → OutIsAsked (asked_at acts) (last_at acts) (top_of acts) op cause
      one (slot.Acquire id number) (by.Caller who) z = absurd (omega (arith, z))
      one (slot.Acquire id number) (by.Codec k p) z = yes (asked_at acts k p) z
      one (slot.Refused id out made) cause z = tt
      one (slot.Give id number) cause z = tt

last_places : (acts : ℕ → List Act) → AreLast (asked_at acts) (last_at acts) (top_of acts)
last_places acts = record { before = λ k p q asks lt. last_before (acts k) p q asks lt; below = λ k q. last_below (acts k) q }

none_in : {X : Type 0} (l : List X) → sum_by (λ (x : X). suc zero) l ≡ 0 → l ≡ []
none_in [] h = refl
none_in {X} (x ∷ xs) h = let w = sum_by-cons (λ (x : X). suc zero) x xs in absurd (omega (arith, w, h))

bag_none : {X : Type 0} (a b : List X) → SameBag a b → a ≡ [] → b ≡ []
bag_none {X} a b same none = none_in b (sym (same (λ (x : X). suc zero)) ∙ ap (sum_by (λ (x : X). suc zero)) none)

-- ---- all of it

module _ (made : List CoderId) (opening : ℕ → Opening) (logs : List (Log Event)) (slots : List SlotEntry) (paid : RegistryIsPaid made opening logs slots) where
  abbrev acts : ℕ → List Act
  acts k = acts_at opening (histories_of logs) k

  acts_here : (k : ℕ) → k < length logs → acts k ≡ acts_in (box_events (opened opening acts slots k) (at k logs))
  acts_here k lt = ap (acts_of (opening k)) (history_here k logs) ∙ sym (legal_log k (opening k) (at k logs) (paid.logs_are k lt)).acts

  fact : (k : ℕ) → k < length logs → Facts opening acts slots k (at k logs)
  fact k lt = record { follows = paid.logs_are k lt; acts_are = acts_here k lt; told = paid.told k lt }

  facts : EachLog (Facts opening acts slots) 0 logs
  facts = each_from (Facts opening acts slots) 0 logs (λ i lt. (let e : i ≡ 0 + i = omega arith in subst (λ (n : ℕ). Facts opening acts slots n (at i logs)) e (fact i lt)))

  slots_asked : OutsAreAsked (asked_at acts) (last_at acts) (top_of acts) slots
  slots_asked =
      let none = asked_weighs opening acts slots (all_slots opening 0 logs) (asked_all opening acts slots 0 logs facts) in
      weighs_asked opening acts slots slots (sym (paid.called (unasked opening acts slots)) ∙ none)

  boxes_back : BoxesAreBack acts slots
  boxes_back =
      let u : BoxOut → ℕ = box_weight (asked_at acts) (last_at acts) (top_of acts) in
      let v : SlotEntry → ℕ = entry_weight (asked_at acts) (last_at acts) (top_of acts) in
      let all = all_slots opening 0 logs in
      let out : SameBag (outs all) (outs slots) = same_flat_map (λ (e : SlotEntry). out_by e.by e.op) all slots paid.called in
      let due : SameBag (returns_due acts all) (returns_due acts slots) = same_flat_map (λ (e : SlotEntry). due_return (asked_at acts) (last_at acts) (top_of acts) e.op e.by) all slots paid.called in
      let le = weighs_all opening acts slots 0 logs facts in
      let first = out u in
      let second = paid.called v in
      let are = returns_are (asked_at acts) (last_at acts) (top_of acts) (last_places acts) made slots paid.legal slots_asked (omega (arith, le, first, second)) in
      boxes_are_back acts (events_of opening acts slots 0 logs) slots (events_are opening acts slots 0 logs facts)
      (λ t. sym (out t) ∙ ap (sum_by t) (outs_all opening acts slots 0 logs facts))
      (λ t. ap (sum_by t) are ∙ (sym (due t) ∙ ap (sum_by t) (due_all opening acts slots 0 logs facts)))

-- ---- acquires by causes

-- no entry that a codec's log calls for is by this cause
abbrev NotBy : By → List SlotEntry → Type 0
NotBy c [] = Unit {0}
NotBy c (e ∷ es) = (is_cause c e.by ≡ false) × NotBy c es

not_both : (c : By) (a b : List SlotEntry) → NotBy c a → NotBy c b → NotBy c (a ++ b)
not_both c [] b x y = y
not_both c (e ∷ es) b x y = (x.0, not_both c es b x.1 y)

not_tries : (c : By) (es : List SlotEntry) → NotBy c es → tries_by c es ≡ []
not_tries c [] h = refl
not_tries c (e ∷ es) h =
    let here : cond (is_cause c e.by) (try_of e.op) [] ≡ [] = ap (λ (b : Bool). cond b (try_of e.op) []) h.0 in
    let rest = not_tries c es h.1 in
    λ i. here i ++ rest i

-- a cause that is no entry of a codec with this number
abbrev IsNotOf : ℕ → By → Type 0
IsNotOf k c = (p : ℕ) → is_cause c (by.Codec k p) ≡ false

gives_not : (c : By) (k place : ℕ) (bs : List (ℕ × Box)) → IsNotOf k c → NotBy c (map (give_by k place) bs)
gives_not c k place [] other = tt
gives_not c k place (b ∷ bs) other = (other place, gives_not c k place bs other)

acquires_not : (c : By) (k : ℕ) (h : Holds Box) (es : List SlotEntry) → IsNotOf k c → AreAsked k es h → NotBy c es
acquires_not c k h [] other asked = tt
acquires_not c k h (a ∷ rest) other asked = (ap (is_cause c) asked.0.3 ∙ other asked.0.0, acquires_not c k h rest other asked.1)

none_not : (c : By) (es : List SlotEntry) → es ≡ [] → NotBy c es
none_not c es none = subst (NotBy c) (sym none) tt

event_not : (c : By) (k : ℕ) (a : Act) (es : List SlotEntry) (h : Holds Box) → IsNotOf k c → Tells k a es h → NotBy c es
event_not c k (Asks id) es h other tells = none_not c es tells
event_not c k Begins es h other tells = none_not c es tells
event_not c k Ends es h other tells = acquires_not c k h es other tells.0
event_not c k Removes es h other tells = none_not c es tells
event_not c k Other es h other tells = none_not c es tells

log_not : (c : By) (k : ℕ) (x : Track) (log : Log Event) → IsNotOf k c → Follows k x log → NotBy c (all_dues slot_dues k x log)
log_not c k x [] other f = tt
log_not c k x ((n, Look) ∷ ps) other f = log_not c k x ps other f.1
log_not c k x ((n, Made e) ∷ ps) other f =
    let gives = gives_not c k x.holds.place (lets_of e x) other in
    not_both c (slot_dues k e x) (all_dues slot_dues k (track_made n e x) ps)
    (not_both c (acquires_of e.acquires) (map (give_by k x.holds.place) (lets_of e x)) (event_not c k (act_in e x) (acquires_of e.acquires) x.holds other f.0.acquires) gives)
    (log_not c k (track_made n e x) ps other f.1)
  where
    lets_of : Event → Track → List (ℕ × Box)
    lets_of e x = lets_go_by (act_in e x) (box_of (acquires_of e.acquires)) x.holds

all_not : (opening : ℕ → Opening) (acts : ℕ → List Act) (slots : List SlotEntry) (c : By) (k : ℕ) (ls : List (Log Event)) → ((i : ℕ) → i < length ls → IsNotOf (k + i) c) → EachLog (Facts opening acts slots) k ls → NotBy c (all_slots opening k ls)
all_not opening acts slots c k [] other facts = tt
all_not opening acts slots c k (l ∷ ls) other facts =
    let z : k + 0 ≡ k = omega arith in
    not_both c (slots_of opening k l) (all_slots opening (suc k) ls)
    (log_not c k (opening_track (opening k)) l (subst (λ (n : ℕ). IsNotOf n c) z (other 0 (omega arith))) facts.0.follows)
    (all_not opening acts slots c (suc k) ls (λ i lt. (let e : k + suc i ≡ suc k + i = omega arith in subst (λ (n : ℕ). IsNotOf n c) e (other (suc i) (omega (arith, lt))))) facts.1)

-- the tries by a cause are those of its entries
tries_of_cause : (c : By) (es : List SlotEntry) → tries_by c (by_cause c es) ≡ tries_by c es
tries_of_cause c [] = refl
tries_of_cause c (e ∷ es) = cases (tries_of_cause c es) (is_cause c e.by) refl
  where
    cases : tries_by c (by_cause c es) ≡ tries_by c es → (b : Bool) → is_cause c e.by ≡ b → tries_by c (cond b (e ∷ []) [] ++ by_cause c es) ≡ cond b (try_of e.op) [] ++ tries_by c es
    cases rest true is =
        let here : cond (is_cause c e.by) (try_of e.op) [] ≡ try_of e.op = ap (λ (b : Bool). cond b (try_of e.op) []) is in
        λ i. here i ++ rest i
    cases rest false is = rest

other_codec : (k j : ℕ) (p q : ℕ) → (k ≡ j → ⊥) → is_cause (by.Codec k p) (by.Codec j q) ≡ false
other_codec k j p q other = ap (λ (b : Bool). b && (p == q)) (ne_eqb k j other)

module _ (made : List CoderId) (opening : ℕ → Opening) (logs : List (Log Event)) (slots : List SlotEntry) (paid : RegistryIsPaid made opening logs slots) where
  abbrev done_acts : ℕ → List Act
  done_acts k = acts_at opening (histories_of logs) k

  pub tries_same : (k p : ℕ) → k < length logs → tries_by (by.Codec k p) (slots_of opening k (at k logs)) ≡ tries_by (by.Codec k p) slots
  tries_same k p lt =
      sym (tries_of_cause (by.Codec k p) (slots_of opening k (at k logs)))
      ∙ (ap (tries_by (by.Codec k p)) (paid.causes k p lt) ∙ tries_of_cause (by.Codec k p) slots)

  -- a cause of no codec tries nothing
  none_by : (c : By) → ((i : ℕ) → i < length logs → IsNotOf (0 + i) c) → tries_by c slots ≡ []
  none_by c other =
      let all = all_slots opening 0 logs in
      bag_none (tries_by c all) (tries_by c slots) (same_flat_map (λ (e : SlotEntry). cond (is_cause c e.by) (try_of e.op) []) all slots paid.called)
      (not_tries c all (all_not opening done_acts slots c 0 logs other (facts made opening logs slots paid)))

  past_history : (k : ℕ) → length logs ≤ k → done_acts k ≡ []
  past_history k le = ap (acts_of (opening k)) (past k (histories_of logs) (subst (λ (n : ℕ). n ≤ k) (sym (count logs)) le))
    where
      past : {X : Type 0} (k : ℕ) (ls : List (List X)) → length ls ≤ k → at k ls ≡ []
      past k [] h = refl
      past zero (l ∷ ls) h = absurd (omega (arith, h))
      past (suc k) (l ∷ ls) h = past k ls (omega (arith, h))

      count : (ls : List (Log Event)) → length (histories_of ls) ≡ length ls
      count [] = refl
      count (l ∷ ls) = ap suc (count ls)

  tries_are : (cause : By) → MayTry (asked_by done_acts cause) (tries_by cause slots)
  tries_are (by.Caller who) = none_by (by.Caller who) (λ i lt p. refl)
  tries_are (by.Codec k p) = elim (le_or_lt (length logs) k) [
    | inl le ↦ subst (λ (o : Option CoderId). MayTry o (tries_by (by.Codec k p) slots)) (sym (ap (λ (l : List Act). asks_in l p) (past_history k le)))
        (none_by (by.Codec k p) (λ i lt q. other_codec k (0 + i) p q (λ same. omega (arith, le, lt, same))))
    | inr lt ↦ subst (MayTry (asks_in (done_acts k) p)) (tries_same k p lt)
        (tries_coming k p slots (done_acts k) (opened opening done_acts slots k) (at k logs) [] nothing_started (starts opening done_acts slots k) (paid.logs_are k lt) (paid.told k lt) (acts_here made opening logs slots paid k lt) (omega arith))
  ]
    where
      le_or_lt : (a b : ℕ) → (a ≤ b) ⊎ (b < a)
      le_or_lt zero b = inl (omega arith)
      le_or_lt (suc a) zero = inr (omega arith)
      le_or_lt (suc a) (suc b) = elim (le_or_lt a b) [ inl h ↦ inl (omega (arith, h)) | inr h ↦ inr (omega (arith, h)) ]

  ends_are : (k q epoch number moment : ℕ) (o : Outcome) → slice_get (at k (histories_of logs)) q ≡ Some (entry.Done epoch number moment o) → EndsAsTried (done_acts k) slots k q o
  ends_are k q epoch number moment o is =
      let there : slice_get (history_of (at k logs)) q ≡ Some (entry.Done epoch number moment o) = ap (λ (h : List Entry). slice_get h q) (sym (history_here k logs)) ∙ is in
      let lt = below k logs q (entry.Done epoch number moment o) there in
      let ends = log_ends k slots (done_acts k) (opened opening done_acts slots k) (at k logs) [] nothing_started (λ p. []) (starts opening done_acts slots k) (paid.logs_are k lt) (paid.told k lt) (acts_here made opening logs slots paid k lt)
      (λ p. sym (tries_same k p lt)) (λ p le. refl) (λ runs. refl) q epoch number moment o there in
      subst (λ (n : ℕ). EndsAsTried (done_acts k) slots k n o) (omega arith) ends
    where
      below : (k : ℕ) (ls : List (Log Event)) (q : ℕ) (e : Entry) → slice_get (history_of (at k ls)) q ≡ Some e → k < length ls
      below k [] q e is = absurd cc
      below zero (l ∷ ls) q e is = omega arith
      below (suc k) (l ∷ ls) q e is = let r = below k ls q e is in omega (arith, r)

  pub boxes_are_tried : BoxesAreTried made opening (histories_of logs) slots
  boxes_are_tried = record {
    legal = paid.legal;
    tries = tries_are;
    back = boxes_back made opening logs slots paid;
    ends = ends_are;
  }
