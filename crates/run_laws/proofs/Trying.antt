-- What the log of one codec says of the acquires of its items.
use Rattle.std.proofs.Common.{ℕ, zero, suc, ◌+◌, ◌≡◌, ◌≢◌, ◌≤◌, ◌<◌, inl, inr, Bool, true, false, cond, List, [], ◌∷◌, ◌++◌, ◌⊎◌, map, length, take, Option, Some, None, is_some, refl, ap, sym, subst, ◌∙◌, arith, append_assoc, append-nil, length-append, eq-eqb}
use Rattle.std.specs.Prelude.{slice_get}
use Rattle.std.proofs.lemmas.Bool.{cases_eq}
use Rattle.std.proofs.lemmas.List.Concat.{flat_map-append}
use Rattle.std.proofs.lemmas.List.{take-append-le, take_all}
use Rattle.wc_base.specs.declared.who.By.{By}
use Rattle.wc_base.specs.declared.who.By.TheVariants as by
use Rattle.wc_base.specs.Views.{Log}
use Rattle.wc_base.specs.declared.seat.Passage.TheVariants.{Made, Look}
use Rattle.wc_config.specs.declared.codec.CoderId.{CoderId}
use Rattle.coder_api.specs.declared.slot.SlotEntry.{SlotEntry}
use Rattle.coder_api.specs.declared.slot.SlotOp.{SlotOp}
use Rattle.coder_api.specs.declared.slot.SlotOp.TheVariants as slot
use Rattle.codec_model.specs.declared.entry.Outcome.{Outcome}
use Rattle.codec_model.specs.declared.entry.Outcome.TheVariants as outcome
use Rattle.codec_model.specs.declared.entry.Entry.{Entry}
use Rattle.codec_model.specs.declared.entry.Entry.TheVariants as entry
use Rattle.codec_model.specs.Control.{start_item}
use Rattle.codec_model.specs.Held.{is_removal}
use Rattle.codec_model.specs.Replay.{State}
use Rattle.codec_accounts.specs.Boxes.{Act, Asks, Begins, Ends, Removes, Other, asks_of, asks_in, start_in, start_after, Event as BoxEvent, Holds, holds_by, holds_after_end, holds_removed, lets_go_by, acts_in, MayCome}
use Rattle.codec_accounts.specs.Boxes as boxes
use Rattle.codec_accounts.specs.Registry.{Box, is_cause, acquire_of}
use Rattle.codec_logs.specs.declared.event.Event.{Event}
use Rattle.codec_logs.specs.Logs.{Track, entry_of, history_of, act_in, acquires_of, box_of, track_made, Follows, MayMake, AreAsked, Tells, box_events}
use Rattle.run_laws.specs.Tries.{try_of, tries_by, MayTry, IsGranted, EndSays, EndsAsTried}
use Rattle.run_laws.specs.Told.{Started, started_by, ops_of, EntryIsTold, EndIsTold, EndsAreTold}
use Rattle.shared_codec.specs.Dues.{give_by, slot_dues}
use Rattle.shared_codec.specs.OrderLaws.{other_place}
use Rattle.shared_codec.specs.Sums.{all_dues}
use Rattle.run_laws.proofs.Dues.{AreAcquires, event_tells}

-- ---- causes

pub itself : (c : By) → is_cause c c ≡ true
itself (by.Caller who) = rw (eq-eqb who.caller who.caller refl, eq-eqb who.step who.step refl) refl
itself (by.Codec k p) = rw (eq-eqb k k refl, eq-eqb p p refl) refl

pub tries_append : (c : By) (a b : List SlotEntry) → tries_by c (a ++ b) ≡ tries_by c a ++ tries_by c b
tries_append c a b = flat_map-append (λ (e : SlotEntry). cond (is_cause c e.by) (try_of e.op) []) a b

cond_none : {X : Type 0} (b : Bool) → ◌≡◌ {A = List X} (cond b [] []) []
cond_none true = refl
cond_none false = refl

-- gives are no tries
gives_tried : (c : By) (k place : ℕ) (bs : List (ℕ × Box)) → tries_by c (map (give_by k place) bs) ≡ []
gives_tried c k place [] = refl
gives_tried c k place (b ∷ bs) =
    let rest = gives_tried c k place bs in
    let none : cond (is_cause c (by.Codec k place)) [] [] ≡ [] = cond_none (is_cause c (by.Codec k place)) in
    λ i. none i ++ rest i

event_tries : (c : By) (k : ℕ) (e : Event) (x : Track) → tries_by c (slot_dues k e x) ≡ tries_by c (acquires_of e.acquires)
event_tries c k e x =
    let bs = lets_go_by (act_in e x) (box_of (acquires_of e.acquires)) x.holds in
    tries_append c (acquires_of e.acquires) (map (give_by k x.holds.place) bs)
    ∙ (ap (λ (l : List SlotOp). tries_by c (acquires_of e.acquires) ++ l) (gives_tried c k x.holds.place bs) ∙ append-nil (tries_by c (acquires_of e.acquires)))

-- ---- acquires of an item

abbrev pub ops : List SlotEntry → List SlotOp
ops es = map (λ a. a.op) es

some_is : {X : Type 0} (a b : X) → Some a ≡ Some b → a ≡ b
some_is a b h = cc

try_is : (op : SlotOp) (id : CoderId) → acquire_of op ≡ id ∷ [] → try_of op ≡ op ∷ []
try_is (slot.Acquire other number) id is = refl
try_is (slot.Refused other out made) id is = refl
try_is (slot.Give other number) id is = absurd cc

-- acquires that were asked for by the item that started here
asked_tries : (k p : ℕ) (h : Holds Box) (es : List SlotEntry) → (es ≢ [] → h.since ≡ Some p) → AreAsked k es h → AreAcquires es → tries_by (by.Codec k p) es ≡ ops es
asked_tries k p h [] since asked are = refl
asked_tries k p h (a ∷ rest) since asked are =
    let q = asked.0.0 in
    let now : h.since ≡ Some p = since (λ bad. absurd cc) in
    let same : q ≡ p = some_is q p (sym asked.0.2 ∙ now) in
    let mine : a.by ≡ by.Codec k p = asked.0.3 ∙ ap (λ (m : ℕ). by.Codec k m) same in
    let here : cond (is_cause (by.Codec k p) a.by) (try_of a.op) [] ≡ a.op ∷ [] = ap (λ (b : Bool). cond b (try_of a.op) []) (ap (is_cause (by.Codec k p)) mine ∙ itself (by.Codec k p)) ∙ try_is a.op are.0.0 are.0.1 in
    let later = asked_tries k p h rest (λ some. now) asked.1 are.1 in
    λ i. here i ++ later i

-- none of them is by another place
other_tries : (k p : ℕ) (h : Holds Box) (es : List SlotEntry) → ((q : ℕ) → h.waits ≡ true → h.since ≡ Some q → p ≢ q) → AreAsked k es h → tries_by (by.Codec k p) es ≡ []
other_tries k p h [] other asked = refl
other_tries k p h (a ∷ rest) other asked =
    let q = asked.0.0 in
    let apart = other q asked.0.1 asked.0.2 in
    let here : cond (is_cause (by.Codec k p) a.by) (try_of a.op) [] ≡ [] = ap (λ (b : Bool). cond b (try_of a.op) []) (ap (is_cause (by.Codec k p)) asked.0.3 ∙ other_place k p q apart) in
    let later = other_tries k p h rest other asked.1 in
    λ i. here i ++ later i

none_tries : (c : By) (es : List SlotEntry) → es ≡ [] → tries_by c es ≡ []
none_tries c es none = ap (tries_by c) none

event_other : (k p : ℕ) (a : Act) (h : Holds Box) (es : List SlotEntry) → ((q : ℕ) → h.waits ≡ true → h.since ≡ Some q → p ≢ q) → Tells k a es h → tries_by (by.Codec k p) es ≡ []
event_other k p (Asks id) h es other tells = none_tries (by.Codec k p) es tells
event_other k p Begins h es other tells = none_tries (by.Codec k p) es tells
event_other k p Ends h es other tells = other_tries k p h es other tells.0
event_other k p Removes h es other tells = none_tries (by.Codec k p) es tells
event_other k p Other h es other tells = none_tries (by.Codec k p) es tells

-- ---- the item at work

-- These are the acts so far, and this is the item at work: where one is, its start and what that asked for; where it waits for a
-- box, that of its start.
pub record Working (sofar : List Act) (x : Track) (s : Started) : Type 0 where
  pub long : length sofar ≡ x.holds.place
  pub starts : x.holds.runs ≡ true → start_in sofar ≡ Some s.place
  pub asked : x.holds.runs ≡ true → asks_in sofar s.place ≡ s.asked
  pub below : x.holds.runs ≡ true → s.place < x.holds.place
  pub runs : x.holds.waits ≡ true → x.holds.runs ≡ true
  pub since : x.holds.waits ≡ true → x.holds.since ≡ Some s.place
  pub asks : x.holds.waits ≡ true → is_some s.asked ≡ true

asks_kept : (l : List Act) (a : Act) (p : ℕ) → p < length l → asks_in (l ++ a ∷ []) p ≡ asks_in l p
asks_kept [] a p lt = absurd (omega (arith, lt))
asks_kept (b ∷ l) a zero lt = refl
asks_kept (b ∷ l) a (suc p) lt = asks_kept l a p (omega (arith, lt))

pub asks_more : (l m : List Act) (p : ℕ) → p < length l → asks_in (l ++ m) p ≡ asks_in l p
asks_more [] m p lt = absurd (omega (arith, lt))
asks_more (b ∷ l) m zero lt = refl
asks_more (b ∷ l) m (suc p) lt = asks_more l m p (omega (arith, lt))

asks_end : (l : List Act) (a : Act) → asks_in (l ++ a ∷ []) (length l) ≡ asks_of a
asks_end [] a = refl
asks_end (b ∷ l) a = asks_end l a

pub asks_past : (l : List Act) (p : ℕ) → length l ≤ p → asks_in l p ≡ None
asks_past [] p le = refl
asks_past (b ∷ l) zero le = absurd (omega (arith, le))
asks_past (b ∷ l) (suc p) le = asks_past l p (omega (arith, le))

start_snoc : (place n : ℕ) (since : Option ℕ) (l : List Act) (a : Act) → n ≡ place + length l → boxes.start_from place since (l ++ a ∷ []) ≡ start_after a n (boxes.start_from place since l)
start_snoc place n since [] a h = let e : place ≡ n = omega (arith, h) in ap (λ (m : ℕ). start_after a m since) e
start_snoc place n since (b ∷ l) a h = start_snoc (suc place) n (start_after b place since) l a (omega (arith, h))

start_more : (l : List Act) (a : Act) (n : ℕ) → length l ≡ n → start_in (l ++ a ∷ []) ≡ start_after a n (start_in l)
start_more l a n h = start_snoc 0 n None l a (omega (arith, h))

longer_by : (l : List Act) (a : Act) (n : ℕ) → length l ≡ n → length (l ++ a ∷ []) ≡ suc n
longer_by l a n h = let e = length-append l (a ∷ []) in omega (arith, e, h)

pub no_true : {X : Type 0} → false ≡ true → X
no_true h = absurd cc

-- an entry that is no start and no end, of an item that stays at work as it was
same_work : (l : List Act) (x : Track) (s : Started) (a : Act) (y : Track) → Working l x s → ((o : Option ℕ) (n : ℕ) → start_after a n o ≡ o) → y.holds.place ≡ suc x.holds.place → y.holds.runs ≡ x.holds.runs → y.holds.waits ≡ x.holds.waits
    → (x.holds.runs ≡ true → y.holds.since ≡ x.holds.since) → Working (l ++ a ∷ []) y s
same_work l x s a y w quiet place runs waits since = record {
  long = longer_by l a x.holds.place w.long ∙ sym place;
  starts = λ h. start_more l a (length l) refl ∙ (quiet (start_in l) (length l) ∙ w.starts (sym runs ∙ h));
  asked = λ h. (let lt = w.below (sym runs ∙ h) in let n = w.long in asks_kept l a s.place (omega (arith, lt, n)) ∙ w.asked (sym runs ∙ h));
  below = λ h. (let lt = w.below (sym runs ∙ h) in omega (arith, lt, place));
  runs = λ h. runs ∙ w.runs (sym waits ∙ h);
  since = λ h. since (w.runs (sym waits ∙ h)) ∙ w.since (sym waits ∙ h);
  asks = λ h. w.asks (sym waits ∙ h);
}

started_now : (l : List Act) (x : Track) (s : Started) (a : Act) (y : Track) (t : Started) → Working l x s → start_after a x.holds.place (start_in l) ≡ Some x.holds.place → t.place ≡ x.holds.place → t.asked ≡ asks_of a → y.holds.place ≡ suc x.holds.place
    → (y.holds.waits ≡ true → (y.holds.runs ≡ true) × (y.holds.since ≡ Some x.holds.place) × (is_some (asks_of a) ≡ true)) → Working (l ++ a ∷ []) y t
started_now l x s a y t w start at asked place waits = record {
  long = longer_by l a x.holds.place w.long ∙ sym place;
  starts = λ h. start_more l a x.holds.place w.long ∙ (start ∙ ap (λ (m : ℕ). Some m) (sym at));
  asked = λ h. ap (λ (m : ℕ). asks_in (l ++ a ∷ []) m) (at ∙ sym w.long) ∙ (asks_end l a ∙ sym asked);
  below = λ h. omega (arith, at, place);
  runs = λ h. (waits h).0;
  since = λ h. (waits h).1 ∙ ap (λ (m : ℕ). Some m) (sym at);
  asks = λ h. ap is_some asked ∙ (waits h).2;
}

idle_now : (l : List Act) (x : Track) (s : Started) (a : Act) (y : Track) → Working l x s → y.holds.place ≡ suc x.holds.place → y.holds.runs ≡ false → y.holds.waits ≡ false → Working (l ++ a ∷ []) y s
idle_now l x s a y w place runs waits = record {
  long = longer_by l a x.holds.place w.long ∙ sym place;
  starts = λ h. no_true (sym runs ∙ h);
  asked = λ h. no_true (sym runs ∙ h);
  below = λ h. no_true (sym runs ∙ h);
  runs = λ h. no_true (sym waits ∙ h);
  since = λ h. no_true (sym waits ∙ h);
  asks = λ h. no_true (sym waits ∙ h);
}

work_by : (l : List Act) (x : Track) (s : Started) (a : Act) (b : Option Box) (y : Track) → y.holds ≡ holds_by a b x.holds → Working l x s → Working (l ++ a ∷ []) y (started_by a x.holds.place s)
work_by l x s (Asks id) b y is w = started_now l x s (Asks id) y (record { place = x.holds.place; asked = Some id }) w refl refl refl (ap (λ (h : Holds Box). h.place) is) (λ h. (ap (λ (h : Holds Box). h.runs) is, ap (λ (h : Holds Box). h.since) is, refl))
work_by l x s Begins b y is w = started_now l x s Begins y (record { place = x.holds.place; asked = None }) w refl refl refl (ap (λ (h : Holds Box). h.place) is) (λ h. no_true (sym (ap (λ (h : Holds Box). h.waits) is) ∙ h))
work_by l x s Ends b y is w = by x.holds.old is
  where
    by : (old : Bool) → y.holds ≡ holds_after_end old b x.holds → Working (l ++ Ends ∷ []) y s
    by true is = idle_now l x s Ends y w (ap (λ (h : Holds Box). h.place) is) (ap (λ (h : Holds Box). h.runs) is) (ap (λ (h : Holds Box). h.waits) is)
    by false is = idle_now l x s Ends y w (ap (λ (h : Holds Box). h.place) is) (ap (λ (h : Holds Box). h.runs) is) (ap (λ (h : Holds Box). h.waits) is)
work_by l x s Removes b y is w = by x.holds.runs refl is
  where
    by : (runs : Bool) → x.holds.runs ≡ runs → y.holds ≡ holds_removed runs x.holds → Working (l ++ Removes ∷ []) y s
    by true at is = same_work l x s Removes y w (λ o n. refl) (ap (λ (h : Holds Box). h.place) is) (ap (λ (h : Holds Box). h.runs) is) (ap (λ (h : Holds Box). h.waits) is) (λ h. ap (λ (h : Holds Box). h.since) is)
    by false at is = same_work l x s Removes y w (λ o n. refl) (ap (λ (h : Holds Box). h.place) is) (ap (λ (h : Holds Box). h.runs) is) (ap (λ (h : Holds Box). h.waits) is) (λ h. no_true (sym at ∙ h))
work_by l x s Other b y is w = same_work l x s Other y w (λ o n. refl) (ap (λ (h : Holds Box). h.place) is) (ap (λ (h : Holds Box). h.runs) is) (ap (λ (h : Holds Box). h.waits) is) (λ h. ap (λ (h : Holds Box). h.since) is)

pub work_more : (l : List Act) (x : Track) (s : Started) (n : ℕ) (e : Event) → Working l x s → Working (l ++ act_in e x ∷ []) (track_made n e x) (started_by (act_in e x) x.holds.place s)
work_more l x s n e w = work_by l x s (act_in e x) (box_of (acquires_of e.acquires)) (track_made n e x) refl w

-- ---- acquires of a whole log

abbrev pub tries_in : ℕ → ℕ → Track → Log Event → List SlotOp
tries_in k p x log = tries_by (by.Codec k p) (all_dues slot_dues k x log)

pub tries_split : (k p n : ℕ) (e : Event) (x : Track) (ps : Log Event) → tries_in k p x ((n, Made e) ∷ ps) ≡ tries_by (by.Codec k p) (acquires_of e.acquires) ++ tries_in k p (track_made n e x) ps
tries_split k p n e x ps =
    tries_append (by.Codec k p) (slot_dues k e x) (all_dues slot_dues k (track_made n e x) ps)
    ∙ ap (λ (l : List SlotOp). l ++ tries_in k p (track_made n e x) ps) (event_tries (by.Codec k p) k e x)

-- the start of the item that waits, by the accounts
since_is : (l : List Act) (x : Track) (s : Started) → Working l x s → (q : ℕ) → x.holds.waits ≡ true → x.holds.since ≡ Some q → s.place ≡ q
since_is l x s w q waits is = some_is s.place q (sym (w.since waits) ∙ is)

pub past_event : (k p n : ℕ) (e : Event) (x : Track) (l : List Act) (s : Started) → Working l x s → MayMake k n e x → (x.holds.waits ≡ true → p ≢ s.place) → tries_by (by.Codec k p) (acquires_of e.acquires) ≡ []
past_event k p n e x l s w may other =
    event_other k p (act_in e x) x.holds (acquires_of e.acquires) (λ q waits is same. other waits (same ∙ sym (since_is l x s w q waits is))) may.acquires

waits_after : (a : Act) (b : Option Box) (h : Holds Box) (s : Started) (p : ℕ) → p < h.place → (h.waits ≡ true → p ≢ s.place) → (holds_by a b h).waits ≡ true → p ≢ (started_by a h.place s).place
waits_after (Asks id) b h s p lt other waits = λ same. omega (arith, lt, same)
waits_after Begins b h s p lt other waits = no_true waits
waits_after Ends b h s p lt other waits = by h.old waits
  where
    by : (old : Bool) → (holds_after_end old b h).waits ≡ true → p ≢ s.place
    by true w = no_true w
    by false w = no_true w
waits_after Removes b h s p lt other waits = by h.runs waits
  where
    by : (runs : Bool) → (holds_removed runs h).waits ≡ true → p ≢ s.place
    by true w = other w
    by false w = other w
waits_after Other b h s p lt other waits = other waits

pub longer_place : (l : List Act) (x : Track) (s : Started) (n : ℕ) (e : Event) → Working l x s → (track_made n e x).holds.place ≡ suc x.holds.place
longer_place l x s n e w =
    let a = w.long in
    let b = (work_more l x s n e w).long in
    let c = longer_by l (act_in e x) x.holds.place a in
    omega (arith, b, c)

-- an earlier start whose item is not at work tries no more
pub tries_past : (k p : ℕ) (x : Track) (log : Log Event) (l : List Act) (s : Started) → Working l x s → Follows k x log → p < x.holds.place → (x.holds.waits ≡ true → p ≢ s.place) → tries_in k p x log ≡ []
tries_past k p x [] l s w f lt other = refl
tries_past k p x ((n, Look) ∷ ps) l s w f lt other = tries_past k p x ps l s w f.1 lt other
tries_past k p x ((n, Made e) ∷ ps) l s w f lt other =
    let here = past_event k p n e x l s w f.0 other in
    let place = longer_place l x s n e w in
    let rest = tries_past k p (track_made n e x) ps (l ++ act_in e x ∷ []) (started_by (act_in e x) x.holds.place s) (work_more l x s n e w) f.1 (omega (arith, lt, place))
    (waits_after (act_in e x) (box_of (acquires_of e.acquires)) x.holds s p lt other) in
    tries_split k p n e x ps ∙ (λ i. here i ++ rest i)

-- what an end tells is what its start tried
told_at_end : (k : ℕ) (es : List SlotEntry) (x : Track) (l : List Act) (s : Started) → Working l x s → AreAsked k es x.holds → AreAcquires es → tries_by (by.Codec k s.place) es ≡ ops es
told_at_end k [] x l s w asked are = refl
told_at_end k (a ∷ rest) x l s w asked are = asked_tries k s.place x.holds (a ∷ rest) (λ some. w.since asked.0.1) asked are

pub done_is_end : (k : ℕ) (e : Event) (x : Track) (epoch number moment : ℕ) (o : Outcome) → entry_of e ≡ entry.Done epoch number moment o → act_in e x ≡ Ends
done_is_end k e x epoch number moment o is = ap (λ (y : Entry). boxes.act_of y x.state) is

may_try_none : (asked : Option CoderId) → MayTry asked []
may_try_none None = refl
may_try_none (Some id) = tt

end_told : (slots : List SlotEntry) (cause : By) (asked : Option CoderId) (told : List SlotOp) (e : Entry) (t : State) → boxes.act_of e t ≡ Ends → EntryIsTold slots cause asked told e → MayTry asked told
end_told slots cause asked told (entry.Done epoch number moment o) t is h = h.0
end_told slots cause asked told (entry.Start epoch number) t is h = by (boxes.lacking t.given (start_item t.control)) is
  where
    by : (o : Option CoderId) → boxes.start_act o ≡ Ends → MayTry asked told
    by None bad = absurd cc
    by (Some id) bad = absurd cc
end_told slots cause asked told (entry.Call who x) t is h = by (is_removal (entry.Call who x) t) is
  where
    by : (b : Bool) → boxes.removal_act b ≡ Ends → MayTry asked told
    by true bad = absurd cc
    by false bad = absurd cc
end_told slots cause asked told entry.Turn t is h = by (is_removal entry.Turn t) is
  where
    by : (b : Bool) → boxes.removal_act b ≡ Ends → MayTry asked told
    by true bad = absurd cc
    by false bad = absurd cc
end_told slots cause asked told (entry.Reclaim moment) t is h = by (is_removal (entry.Reclaim moment) t) is
  where
    by : (b : Bool) → boxes.removal_act b ≡ Ends → MayTry asked told
    by true bad = absurd cc
    by false bad = absurd cc

-- the event at hand is one of these
pub data Comes (a : Act) (x : Track) (s : Started) : Type 0 where
  Stops : a ≡ Ends → Comes a x s
  Goes : ((es : List SlotEntry) (k : ℕ) → Tells k a es x.holds → es ≡ []) → Comes a x s

comes : (a : Act) (x : Track) (s : Started) → Comes a x s
comes (Asks id) x s = Goes (λ es k tells. tells)
comes Begins x s = Goes (λ es k tells. tells)
comes Ends x s = Stops refl
comes Removes x s = Goes (λ es k tells. tells)
comes Other x s = Goes (λ es k tells. tells)

end_waits : (b : Option Box) (h : Holds Box) (a : Act) → a ≡ Ends → (holds_by a b h).waits ≡ false
end_waits b h a is = ap (λ (c : Act). (holds_by c b h).waits) is ∙ by h.old
  where
    by : (old : Bool) → (holds_after_end old b h).waits ≡ false
    by true = refl
    by false = refl

-- behind its end an item tries no more: what the end tells is all
pub end_tries : (k n : ℕ) (e : Event) (x : Track) (ps : Log Event) (l : List Act) (s : Started) → Working l x s → Follows k x ((n, Made e) ∷ ps) → act_in e x ≡ Ends → x.holds.runs ≡ true → AreAcquires (acquires_of e.acquires)
    → tries_in k s.place x ((n, Made e) ∷ ps) ≡ ops_of e
end_tries k n e x ps l s w f is runs are =
    let asked : AreAsked k (acquires_of e.acquires) x.holds = (subst (λ (a : Act). Tells k a (acquires_of e.acquires) x.holds) is f.0.acquires).0 in
    let here = told_at_end k (acquires_of e.acquires) x l s w asked are in
    let place = longer_place l x s n e w in
    let lt = w.below runs in
    let waits = end_waits (box_of (acquires_of e.acquires)) x.holds (act_in e x) is in
    let rest = tries_past k s.place (track_made n e x) ps (l ++ act_in e x ∷ []) (started_by (act_in e x) x.holds.place s) (work_more l x s n e w) f.1 (omega (arith, lt, place)) (λ h. no_true (sym waits ∙ h)) in
    tries_split k s.place n e x ps ∙ ((λ i. here i ++ rest i) ∙ append-nil (ops_of e))

cases_waits : (b : Bool) → (b ≡ true) ⊎ (b ≡ false)
cases_waits true = inl refl
cases_waits false = inr refl

-- the next item is another one, or it is the same
waits_still : (a : Act) (b : Option Box) (h : Holds Box) (s : Started) → h.waits ≡ true → s.place < h.place → ((holds_by a b h).waits ≡ true → s.place ≢ (started_by a h.place s).place) ⊎ (started_by a h.place s ≡ s)
waits_still (Asks id) b h s waits lt = inl (λ w same. omega (arith, lt, same))
waits_still Begins b h s waits lt = inl (λ w. no_true w)
waits_still Ends b h s waits lt = inr refl
waits_still Removes b h s waits lt = inr refl
waits_still Other b h s waits lt = inr refl

-- what the item at work tries, from here on
pub tries_running : (k : ℕ) (slots : List SlotEntry) (x : Track) (log : Log Event) (l : List Act) (s : Started) → Working l x s → Follows k x log → EndsAreTold k slots (λ n. true) s x log → x.holds.waits ≡ true → MayTry s.asked (tries_in k s.place x log)
tries_running k slots x [] l s w f told waits = may_try_none s.asked
tries_running k slots x ((n, Look) ∷ ps) l s w f told waits = tries_running k slots x ps l s w f.1 told waits
tries_running k slots x ((n, Made e) ∷ ps) l s w f told waits = cases (comes (act_in e x) x s) (λ v h is. tries_running k slots (track_made n e x) ps (l ++ act_in e x ∷ []) (started_by (act_in e x) x.holds.place s) (work_more l x s n e w) f.1 told.1 h)
  where
    y : Track
    y = track_made n e x

    z : Started
    z = started_by (act_in e x) x.holds.place s

    empty : tries_by (by.Codec k s.place) (acquires_of e.acquires) ≡ [] → tries_in k s.place y ps ≡ [] → MayTry s.asked (tries_in k s.place x ((n, Made e) ∷ ps))
    empty here rest = subst (MayTry s.asked) (sym (tries_split k s.place n e x ps ∙ (λ i. here i ++ rest i))) (may_try_none s.asked)

    cases : Comes (act_in e x) x s → ((v : Started) → (track_made n e x).holds.waits ≡ true → v ≡ z → MayTry z.asked (tries_in k z.place (track_made n e x) ps))
        → MayTry s.asked (tries_in k s.place x ((n, Made e) ∷ ps))
    cases (Stops is) more =
        let are = event_tells k slots s n e x f.0 (told.0 refl) in
        subst (MayTry s.asked) (sym (end_tries k n e x ps l s w f is (w.runs waits) are)) (end_told slots (by.Codec k s.place) s.asked (ops_of e) (entry_of e) x.state is (told.0 refl))
    cases (Goes none) more =
        let here : tries_by (by.Codec k s.place) (acquires_of e.acquires) ≡ [] = none_tries (by.Codec k s.place) (acquires_of e.acquires) (none (acquires_of e.acquires) k f.0.acquires) in
        let lt = w.below (w.runs waits) in
        let place = longer_place l x s n e w in
        elim (cases_waits (track_made n e x).holds.waits) [
          | inl still ↦ elim (waits_still (act_in e x) (box_of (acquires_of e.acquires)) x.holds s waits lt) [
            | inl other ↦ empty here (tries_past k s.place y ps (l ++ act_in e x ∷ []) z (work_more l x s n e w) f.1 (omega (arith, lt, place)) other)
            | inr same ↦ subst (MayTry s.asked) (sym (tries_split k s.place n e x ps ∙ ap (λ (t : List SlotOp). t ++ tries_in k s.place y ps) here)) (subst (λ (v : Started). MayTry v.asked (tries_in k v.place y ps)) same (more z still refl))
          ]
          | inr not ↦ empty here (tries_past k s.place y ps (l ++ act_in e x ∷ []) z (work_more l x s n e w) f.1 (omega (arith, lt, place)) (λ h. no_true (sym not ∙ h)))
        ]

-- what a start that is still to come tries
abbrev Parts : List Act → Track → Log Event → List Act → Type 0
Parts acts x log l = acts ≡ l ++ acts_in (box_events x log)

asks_none : (a : Act) → asks_of a ≡ None ⊎ ((id : CoderId) × (a ≡ Asks id))
asks_none (Asks id) = inr (id, refl)
asks_none Begins = inl refl
asks_none Ends = inl refl
asks_none Removes = inl refl
asks_none Other = inl refl

asks_here : (acts : List Act) (l : List Act) (a : Act) (rest : List Act) (p : ℕ) → acts ≡ l ++ a ∷ rest → length l ≡ p → asks_in acts p ≡ asks_of a
asks_here acts l a rest p is long = ap (λ (s : List Act). asks_in s p) is ∙ (ap (asks_in (l ++ a ∷ rest)) (sym long) ∙ at_end l)
  where
    at_end : (l : List Act) → asks_in (l ++ a ∷ rest) (length l) ≡ asks_of a
    at_end [] = refl
    at_end (b ∷ l) = at_end l

none_now : (a : Act) (b : Option Box) (h : Holds Box) (s : Started) → asks_of a ≡ None → (h.waits ≡ true → s.place < h.place) → (holds_by a b h).waits ≡ true → h.place ≢ (started_by a h.place s).place
none_now (Asks id) b h s none below waits = absurd cc
none_now Begins b h s none below waits = no_true waits
none_now Ends b h s none below waits = cases h.old waits
  where
    cases : (old : Bool) → (holds_after_end old b h).waits ≡ true → h.place ≢ s.place
    cases true w = no_true w
    cases false w = no_true w
none_now Removes b h s none below waits = cases h.runs waits
  where
    cases : (runs : Bool) → (holds_removed runs h).waits ≡ true → h.place ≢ s.place
    cases true w = λ same. (let lt = below w in omega (arith, lt, same))
    cases false w = λ same. (let lt = below w in omega (arith, lt, same))
none_now Other b h s none below waits = λ same. (let lt = below waits in omega (arith, lt, same))

asks_waits : (a : Act) (b : Option Box) (h : Holds Box) (id : CoderId) → a ≡ Asks id → (holds_by a b h).waits ≡ true
asks_waits a b h id is = ap (λ (c : Act). (holds_by c b h).waits) is

asks_start : (a : Act) (place : ℕ) (s : Started) (id : CoderId) → a ≡ Asks id → started_by a place s ≡ record { place = place; asked = Some id }
asks_start a place s id is = ap (λ (c : Act). started_by c place s) is

pub tries_coming : (k p : ℕ) (slots : List SlotEntry) (acts : List Act) (x : Track) (log : Log Event) (l : List Act) (s : Started) → Working l x s → Follows k x log → EndsAreTold k slots (λ n. true) s x log → Parts acts x log l → x.holds.place ≤ p
    → MayTry (asks_in acts p) (tries_in k p x log)
tries_coming k p slots acts x [] l s w f told is le = may_try_none (asks_in acts p)
tries_coming k p slots acts x ((n, Look) ∷ ps) l s w f told is le = tries_coming k p slots acts x ps l s w f.1 told is le
tries_coming k p slots acts x ((n, Made e) ∷ ps) l s w f told is le = cases (cases_eq p x.holds.place) (λ le. tries_coming k p slots acts y ps m z v f.1 told.1 parts le)
  where
    y : Track
    y = track_made n e x

    z : Started
    z = started_by (act_in e x) x.holds.place s

    m : List Act
    m = l ++ act_in e x ∷ []

    v : Working (l ++ act_in e x ∷ []) (track_made n e x) (started_by (act_in e x) x.holds.place s)
    v = work_more l x s n e w

    parts : Parts acts (track_made n e x) ps (l ++ act_in e x ∷ [])
    parts = is ∙ sym (append_assoc l (act_in e x ∷ []) (acts_in (box_events (track_made n e x) ps)))

    here : tries_by (by.Codec k p) (acquires_of e.acquires) ≡ []
    here = past_event k p n e x l s w f.0 (λ waits same. (let lt = w.below (w.runs waits) in omega (arith, lt, le, same)))

    split : tries_in k p x ((n, Made e) ∷ ps) ≡ tries_in k p (track_made n e x) ps
    split = tries_split k p n e x ps ∙ ap (λ (t : List SlotOp). t ++ tries_in k p (track_made n e x) ps) here

    cases : (p ≡ x.holds.place) ⊎ (p ≢ x.holds.place) → ((track_made n e x).holds.place ≤ p → MayTry (asks_in acts p) (tries_in k p (track_made n e x) ps)) → MayTry (asks_in acts p) (tries_in k p x ((n, Made e) ∷ ps))
    cases (inr other) more = subst (MayTry (asks_in acts p)) (sym split) (more (let place = longer_place l x s n e w in omega (arith, other, le, place)))
    cases (inl same) more =
        let place = longer_place l x s n e w in
        let asks : asks_in acts p ≡ asks_of (act_in e x) = asks_here acts l (act_in e x) (acts_in (box_events (track_made n e x) ps)) p is (w.long ∙ sym same) in
        elim (asks_none (act_in e x)) [
          | inl none ↦ subst (MayTry (asks_in acts p)) (sym (split ∙ tries_past k p y ps m z v f.1 (omega (arith, same, place))
              (subst (λ (q : ℕ). (track_made n e x).holds.waits ≡ true → q ≢ (started_by (act_in e x) x.holds.place s).place) (sym same)
              (none_now (act_in e x) (box_of (acquires_of e.acquires)) x.holds s none (λ waits. w.below (w.runs waits)))))) (may_try_none (asks_in acts p))
          | inr some ↦ (
              let start = asks_start (act_in e x) x.holds.place s some.0 some.1 in
              let now = tries_running k slots y ps m z v f.1 told.1 (asks_waits (act_in e x) (box_of (acquires_of e.acquires)) x.holds some.0 some.1) in
              let wanted : z.asked ≡ asks_in acts p = ap (λ (t : Started). t.asked) start ∙ sym (asks ∙ ap asks_of some.1) in
              let there : z.place ≡ p = ap (λ (t : Started). t.place) start ∙ sym same in
              subst (MayTry (asks_in acts p)) (sym split) (subst (λ (t : Option CoderId × ℕ). MayTry t.0 (tries_in k t.1 y ps)) (λ i. (wanted i, there i)) now)
              )
        ]

-- ---- ends

end_says : (slots : List SlotEntry) (cause : By) (asked : Option CoderId) (told : List SlotOp) (o : Outcome) → tries_by cause slots ≡ told → EndIsTold slots cause asked told o → EndSays slots cause asked o
end_says slots cause None told (outcome.NoSlot n) is h = absurd h
end_says slots cause None told outcome.NoMemory is h = tt
end_says slots cause None told outcome.Refused is h = tt
end_says slots cause None told (outcome.Ran units) is h = tt
end_says slots cause (Some id) told outcome.NoMemory is h = tt
end_says slots cause (Some id) told outcome.Refused is h = subst (IsGranted id) (sym is) h
end_says slots cause (Some id) told (outcome.Ran units) is h = subst (IsGranted id) (sym is) h
end_says slots cause (Some id) told (outcome.NoSlot n) is h = record {
  out = h.out;
  made = h.made;
  before = h.before;
  behind = h.behind;
  is = h.is;
  place = h.place;
  last = cancel (tries_by cause h.before) (slot.Refused id h.out h.made) (tries_by cause h.behind) (whole ∙ (is ∙ sym h.last));
}
  where
    whole : tries_by cause h.before ++ slot.Refused id h.out h.made ∷ tries_by cause h.behind ≡ tries_by cause slots
    whole =
        let e : SlotEntry = record { by = cause; op = slot.Refused id h.out h.made } in
        let here : tries_by cause (e ∷ h.behind) ≡ slot.Refused id h.out h.made ∷ tries_by cause h.behind = ap (λ (b : Bool). cond b (slot.Refused id h.out h.made ∷ []) [] ++ tries_by cause h.behind) (itself cause) in
        sym (ap (tries_by cause) h.is ∙ (tries_append cause h.before (e ∷ h.behind) ∙ ap (λ (l : List SlotOp). tries_by cause h.before ++ l) here))

    none_of : (op : SlotOp) (rest : List SlotOp) → op ∷ rest ≡ op ∷ [] → rest ≡ []
    none_of op rest same = cc

    tail_of : (a b : SlotOp) (l m : List SlotOp) → a ∷ l ≡ b ∷ m → l ≡ m
    tail_of a b l m same = cc

    cancel : (l : List SlotOp) (op : SlotOp) (rest : List SlotOp) → l ++ op ∷ rest ≡ l ++ op ∷ [] → rest ≡ []
    cancel [] op rest same = none_of op rest same
    cancel (a ∷ l) op rest same = cancel l op rest (tail_of a a (l ++ op ∷ rest) (l ++ op ∷ []) same)

take_here : (acts l rest : List Act) (q : ℕ) → acts ≡ l ++ rest → length l ≡ q → take q acts ≡ l
take_here acts l rest q is long = ap (take q) is ∙ (take-append-le q l rest (omega (arith, long)) ∙ take_all q l (omega (arith, long)))

told_of : (slots : List SlotEntry) (cause : By) (asked : Option CoderId) (told : List SlotOp) (e : Entry) (epoch number moment : ℕ) (o : Outcome) → e ≡ entry.Done epoch number moment o → EntryIsTold slots cause asked told e → EndIsTold slots cause asked told o
told_of slots cause asked told e epoch number moment o is h = (subst (EntryIsTold slots cause asked told) is h).1

-- of the next item at work nothing was tried yet
pub next_here : (a : Act) (b : Option Box) (h : Holds Box) (s : Started) (so_far : ℕ → List SlotOp) → ((p : ℕ) → h.place ≤ p → so_far p ≡ []) → (h.runs ≡ true → so_far s.place ≡ []) → (holds_by a b h).runs ≡ true → so_far (started_by a h.place s).place ≡ []
next_here (Asks id) b h s so_far later here runs = later h.place (omega arith)
next_here Begins b h s so_far later here runs = later h.place (omega arith)
next_here Ends b h s so_far later here runs = cases h.old runs
  where
    cases : (old : Bool) → (holds_after_end old b h).runs ≡ true → so_far s.place ≡ []
    cases true r = no_true r
    cases false r = no_true r
next_here Removes b h s so_far later here runs = cases h.runs runs
  where
    cases : (r : Bool) → (holds_removed r h).runs ≡ true → so_far s.place ≡ []
    cases true r = here r
    cases false r = here r
next_here Other b h s so_far later here runs = here runs

pub next_tries : (k p : ℕ) (a : Act) (b : Option Box) (es : List SlotEntry) (h : Holds Box) → Tells k a es h → (holds_by a b h).runs ≡ true → tries_by (by.Codec k p) es ≡ []
next_tries k p (Asks id) b es h tells runs = none_tries (by.Codec k p) es tells
next_tries k p Begins b es h tells runs = none_tries (by.Codec k p) es tells
next_tries k p Ends b es h tells runs = cases h.old runs
  where
    cases : (old : Bool) → (holds_after_end old b h).runs ≡ true → tries_by (by.Codec k p) es ≡ []
    cases true r = no_true r
    cases false r = no_true r
next_tries k p Removes b es h tells runs = none_tries (by.Codec k p) es tells
next_tries k p Other b es h tells runs = none_tries (by.Codec k p) es tells

-- the entries from here on, each at its place: what its end says is true. `so_far` has what was tried before
pub log_ends : (k : ℕ) (slots : List SlotEntry) (acts : List Act) (x : Track) (log : Log Event) (l : List Act) (s : Started) (so_far : ℕ → List SlotOp) → Working l x s → Follows k x log → EndsAreTold k slots (λ n. true) s x log → Parts acts x log l
    → ((p : ℕ) → tries_by (by.Codec k p) slots ≡ so_far p ++ tries_in k p x log) → ((p : ℕ) → x.holds.place ≤ p → so_far p ≡ []) → (x.holds.runs ≡ true → so_far s.place ≡ [])
    → (i epoch number moment : ℕ) (o : Outcome) → slice_get (history_of log) i ≡ Some (entry.Done epoch number moment o) → EndsAsTried acts slots k (x.holds.place + i) o
log_ends k slots acts x [] l s so_far w f told is whole later here i epoch number moment o stands = absurd cc
log_ends k slots acts x ((n, Look) ∷ ps) l s so_far w f told is whole later here i epoch number moment o stands = log_ends k slots acts x ps l s so_far w f.1 told is whole later here i epoch number moment o stands
log_ends k slots acts x ((n, Made e) ∷ ps) l s so_far w f told is whole later here zero epoch number moment o stands =
    let ends = done_is_end k e x epoch number moment o (some_is (entry_of e) (entry.Done epoch number moment o) stands) in
    let runs : x.holds.runs ≡ true = (subst (λ (a : Act). MayCome a (box_of (acquires_of e.acquires)) x.holds) ends f.0.box).0 in
    let are = event_tells k slots s n e x f.0 (told.0 refl) in
    let all : tries_by (by.Codec k s.place) slots ≡ ops_of e = whole s.place ∙ ((λ i. here runs i ++ tries_in k s.place x ((n, Made e) ∷ ps)) ∙ end_tries k n e x ps l s w f ends runs are) in
    let lt = w.below runs in
    let long = w.long in
    let asked : asks_in acts s.place ≡ s.asked = ap (λ (t : List Act). asks_in t s.place) is ∙ (asks_more l (acts_in (box_events x ((n, Made e) ∷ ps))) s.place (omega (arith, lt, long)) ∙ w.asked runs) in
    let end = told_of slots (by.Codec k s.place) s.asked (ops_of e) (entry_of e) epoch number moment o (some_is (entry_of e) (entry.Done epoch number moment o) stands) (told.0 refl) in
    record {
      place = s.place;
      started = ap start_in (take_here acts l (acts_in (box_events x ((n, Made e) ∷ ps))) (x.holds.place + 0) is (omega (arith, long))) ∙ w.starts runs;
      says = subst (λ (a : Option CoderId). EndSays slots (by.Codec k s.place) a o) (sym asked) (end_says slots (by.Codec k s.place) s.asked (ops_of e) o all end);
    }
log_ends k slots acts x ((n, Made e) ∷ ps) l s so_far w f told is whole later here (suc i) epoch number moment o stands =
    let y = track_made n e x in
    let place = longer_place l x s n e w in
    let v = work_more l x s n e w in
    let rest = log_ends k slots acts y ps (l ++ act_in e x ∷ []) (started_by (act_in e x) x.holds.place s) (λ p. so_far p ++ tries_by (by.Codec k p) (acquires_of e.acquires)) v f.1 told.1
    (is ∙ sym (append_assoc l (act_in e x ∷ []) (acts_in (box_events y ps))))
    (λ p. whole p ∙ (ap (λ (t : List SlotOp). so_far p ++ t) (tries_split k p n e x ps) ∙ sym (append_assoc (so_far p) (tries_by (by.Codec k p) (acquires_of e.acquires)) (tries_in k p y ps))))
    (λ p le. (let none = later p (omega (arith, le, place)) in let now = past_event k p n e x l s w f.0 (λ waits same. (let lt = w.below (w.runs waits) in omega (arith, lt, le, place, same))) in λ i. none i ++ now i))
    (λ runs. (let none = next_here (act_in e x) (box_of (acquires_of e.acquires)) x.holds s so_far later here runs in
    let now = next_tries k (started_by (act_in e x) x.holds.place s).place (act_in e x) (box_of (acquires_of e.acquires)) (acquires_of e.acquires) x.holds f.0.acquires runs in
    λ i. none i ++ now i)) i epoch number moment o stands in
    subst (λ (q : ℕ). EndsAsTried acts slots k q o) (omega (arith, place)) rest
