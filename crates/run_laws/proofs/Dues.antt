-- What the log of one codec calls for in the registry, by its events.
use Rattle.std.proofs.Common.{ℕ, ◌+◌, ◌-◌, ◌≡◌, ◌≤◌, Bool, true, false, cond, List, [], ◌∷◌, ◌++◌, map, length, take, Option, Some, None, is_some, refl, ap, sym, subst, ◌∙◌, arith, append_assoc, append-nil, length-append}
use Rattle.std.specs.Prelude.{slice_get, option_and_then}
use Rattle.std.specs.List.{flat_map, sum_by}
use Rattle.std.proofs.lemmas.List.Concat.{flat_map-append}
use Rattle.std.proofs.lemmas.List.{take-append-le, take_all}
use Rattle.std.proofs.lemmas.List.Sums.{sum_by-cons}
use Rattle.wc_base.specs.declared.who.By.{By}
use Rattle.wc_base.specs.declared.who.By.TheVariants as by
use Rattle.wc_base.specs.Views.{Log}
use Rattle.wc_base.specs.declared.seat.Passage.TheVariants.{Made, Look}
use Rattle.wc_config.specs.declared.codec.CoderId.{CoderId}
use Rattle.coder_api.specs.declared.slot.SlotEntry.{SlotEntry}
use Rattle.coder_api.specs.declared.slot.SlotOp.{SlotOp}
use Rattle.coder_api.specs.declared.slot.SlotOp.TheVariants as slot
use Rattle.codec_model.specs.declared.entry.Entry.{Entry}
use Rattle.codec_model.specs.declared.entry.Entry.TheVariants as entry
use Rattle.codec_model.specs.Control.{start_item}
use Rattle.codec_model.specs.Held.{is_removal}
use Rattle.codec_model.specs.Replay.{State}
use Rattle.codec_accounts.specs.ListLaws.{get_end, get_kept}
use Rattle.codec_accounts.specs.Owed.{owed}
use Rattle.codec_accounts.specs.Boxes.{Act, Asks, Begins, Ends, Removes, Other, asks_of, asks_in, Event as BoxEvent, Holds, holds_by, holds_after, holds_after_end, holds_removed, newer, box_with, gets, gets_since, lets_go_by, acts_in, MayCome}
use Rattle.codec_accounts.specs.Boxes as boxes
use Rattle.codec_accounts.specs.BagsLaws.{weigh_append}
use Rattle.codec_accounts.specs.Registry.{Box, BoxOut, Return, acquire_of, out_by, outs, out_at, back_at, gets_due, lets_go_due}
use Rattle.codec_logs.specs.declared.event.Event.{Event}
use Rattle.codec_logs.specs.Logs.{Track, entry_of, act_in, acquires_of, box_by, box_of, track_made, Follows, MayMake, AreAsked, AreTries, Tells, box_events}
use Rattle.run_laws.specs.Tries.{MayTry, IsRefusalOf}
use Rattle.run_laws.specs.Told.{Started, started_by, ops_of, EntryIsTold, EndsAreTold}
use Rattle.shared_codec.specs.Dues.{give_by, slot_dues}
use Rattle.shared_codec.specs.OrderLaws.{place_by}
use Rattle.shared_codec.specs.Sums.{all_dues}
use Rattle.run_laws.proofs.Latest.{latest, latest_more, ask_after}
use Rattle.run_laws.proofs.Returns.{OutIsAsked, OutsAreAsked, due_return, box_weight, entry_weight}

-- ---- what the codecs' acts say of places

abbrev pub asked_at : (ℕ → List Act) → ℕ → ℕ → Bool
asked_at acts k p = is_some (asks_in (acts k) p)

abbrev pub last_at : (ℕ → List Act) → ℕ → ℕ → ℕ
last_at acts k q = latest (take q (acts k))

abbrev pub top_of : (ℕ → List Act) → ℕ → ℕ
top_of acts k = latest (acts k)

-- the box that a codec has was asked for here, and by no act since
pub record IsLatest (acts : List Act) (p : ℕ) : Type 0 where
  pub id : CoderId
  pub last : latest acts ≡ p
  pub asks : slice_get acts p ≡ Some (Asks id)

-- These are the acts of a codec so far and from there on.
pub record At (acts : List Act) (x : Track) (log : Log Event) : Type 0 where
  pub sofar : List Act
  pub is : acts ≡ sofar ++ acts_in (box_events x log)
  pub long : length sofar ≡ x.holds.place
  pub since : (p : ℕ) → x.holds.since ≡ Some p → IsLatest sofar p

-- ---- one entry more

some_is : (a b : ℕ) → Some a ≡ Some b → a ≡ b
some_is a b h = cc

-- an act that asks for none leaves it
latest_kept : (l : List Act) (a : Act) (p : ℕ) → ((n : ℕ) → ask_after a n (latest l) ≡ latest l) → IsLatest l p → IsLatest (l ++ a ∷ []) p
latest_kept l a p quiet is = record {
  id = is.id;
  last = latest_more l a (length l) refl ∙ (quiet (length l) ∙ is.last);
  asks = get_kept l (a ∷ []) p (Asks is.id) is.asks;
}

since_more : (a : Act) (b : Option Box) (h : Holds Box) (l : List Act) → length l ≡ h.place → ((p : ℕ) → h.since ≡ Some p → IsLatest l p) → (p : ℕ) → (holds_by a b h).since ≡ Some p → IsLatest (l ++ a ∷ []) p
since_more (Asks id) b h l long since p is =
    let here : h.place ≡ p = some_is h.place p is in
    record {
      id = id;
      last = latest_more l (Asks id) (length l) refl ∙ (long ∙ here);
      asks = ap (λ (n : ℕ). slice_get (l ++ Asks id ∷ []) n) (sym (long ∙ here)) ∙ get_end l (Asks id);
    }
since_more Begins b h l long since p is = latest_kept l Begins p (λ n. refl) (since p is)
since_more Ends b h l long since p is = by h.old is
  where
    by : (old : Bool) → (holds_after_end old b h).since ≡ Some p → IsLatest (l ++ Ends ∷ []) p
    by true e = absurd cc
    by false e = latest_kept l Ends p (λ n. refl) (since p e)
since_more Removes b h l long since p is = by h.runs is
  where
    by : (runs : Bool) → (holds_removed runs h).since ≡ Some p → IsLatest (l ++ Removes ∷ []) p
    by true e = latest_kept l Removes p (λ n. refl) (since p e)
    by false e = absurd cc
since_more Other b h l long since p is = latest_kept l Other p (λ n. refl) (since p is)

pub at_more : (acts : List Act) (x : Track) (n : ℕ) (e : Event) (ps : Log Event) → At acts x ((n, Made e) ∷ ps) → At acts (track_made n e x) ps
at_more acts x n e ps at =
    let a = act_in e x in
    let b = box_of (acquires_of e.acquires) in
    record {
      sofar = at.sofar ++ a ∷ [];
      is = at.is ∙ sym (append_assoc at.sofar (a ∷ []) (acts_in (box_events (track_made n e x) ps)));
      long = (let l = length-append at.sofar (a ∷ []) in let p = place_by a b x.holds in let s = at.long in omega (arith, l, p, s));
      since = since_more a b x.holds at.sofar at.long at.since;
    }

-- the acts so far are those before this place
before_here : (acts : List Act) (x : Track) (log : Log Event) (at : At acts x log) → take x.holds.place acts ≡ at.sofar
before_here acts x log at =
    let s = at.long in
    ap (take x.holds.place) at.is
    ∙ (take-append-le x.holds.place at.sofar (acts_in (box_events x log)) (omega (arith, s))
    ∙ take_all x.holds.place at.sofar (omega (arith, s)))

-- ---- acquires

-- each is an acquire, and no give
abbrev pub AreAcquires : List SlotEntry → Type 0
AreAcquires [] = Unit {0}
AreAcquires (a ∷ rest) = ((id : CoderId) × (acquire_of a.op ≡ id ∷ [])) × AreAcquires rest

none_with : {B : Type 0} (s : Option ℕ) → box_with {B = B} s None ≡ []
none_with None = refl
none_with (Some p) = refl

newer_none : {B : Type 0} (o : Option B) → newer o None ≡ o
newer_none None = refl
newer_none (Some b) = refl

-- an acquire's box, as it went out
one_out : (k p : ℕ) (op : SlotOp) → out_by (by.Codec k p) op ≡ map (out_at k) (box_with (Some p) (box_by op))
one_out k p (slot.Acquire id number) = refl
one_out k p (slot.Refused id out made) = refl
one_out k p (slot.Give id number) = refl

acquires_out : (k : ℕ) (h : Holds Box) (es : List SlotEntry) → AreAsked k es h → AreTries es → outs es ≡ map (out_at k) (box_with h.since (box_of es))
acquires_out k h [] asked tries = ap (map (out_at k)) (sym (none_with h.since))
acquires_out k h (a ∷ []) asked tries =
    let p = asked.0.0 in
    let since : h.since ≡ Some p = asked.0.2 in
    append-nil (out_by a.by a.op)
    ∙ (ap (λ (c : By). out_by c a.op) asked.0.3
    ∙ (one_out k p a.op ∙ ap (λ (s : Option ℕ). map (out_at k) (box_with s (box_by a.op))) (sym since)))
acquires_out k h (a ∷ b ∷ rest) asked tries =
    let none : out_by a.by a.op ≡ [] = none_out a.op tries.0 in
    let later = acquires_out k h (b ∷ rest) asked.1 tries.1 in
    (λ i. none i ++ later i) ∙ ap (λ (o : Option Box). map (out_at k) (box_with h.since o)) (sym (newer_none (box_of (b ∷ rest))) ∙ ap (newer (box_of (b ∷ rest))) (sym tries.0))
  where
    none_out : (op : SlotOp) → box_by op ≡ None → out_by a.by op ≡ []
    none_out (slot.Acquire id number) none = absurd cc
    none_out (slot.Refused id out made) none = refl
    none_out (slot.Give id number) none = refl

-- gives take no box out
gives_out : (k place : ℕ) (bs : List (ℕ × Box)) → outs (map (give_by k place) bs) ≡ []
gives_out k place [] = refl
gives_out k place (b ∷ bs) = gives_out k place bs

map_none : {X Y : Type 0} (f : X → Y) (l : List X) → l ≡ [] → map f l ≡ []
map_none f l none = ap (map f) none

-- no acquires were told: none went out
out_none : (k : ℕ) (s : Option ℕ) (es : List SlotEntry) → es ≡ [] → outs es ≡ map (out_at k) (box_with s (box_of es))
out_none k s es none =
    ap outs none ∙ (ap (map (out_at k)) (sym (none_with s)) ∙ ap (λ (l : List SlotEntry). map (out_at k) (box_with s (box_of l))) (sym none))

event_acquires : (k : ℕ) (a : Act) (es : List SlotEntry) (h : Holds Box) → Tells k a es h → outs es ≡ map (out_at k) (box_with (gets_since a h.place h.since) (box_of es))
event_acquires k (Asks id) es h tells = out_none k (Some h.place) es tells
event_acquires k Begins es h tells = out_none k h.since es tells
event_acquires k Ends es h tells = acquires_out k h es tells.0 tells.1
event_acquires k Removes es h tells = out_none k h.since es tells
event_acquires k Other es h tells = out_none k h.since es tells

-- the boxes that went out for an event are those that it gets
pub event_outs : (k : ℕ) (e : Event) (x : Track) → Tells k (act_in e x) (acquires_of e.acquires) x.holds
    → outs (slot_dues k e x) ≡ gets_due k x.holds.place (record { act = act_in e x; box = box_of (acquires_of e.acquires) }) x.holds
event_outs k e x tells =
    let bs = lets_go_by (act_in e x) (box_of (acquires_of e.acquires)) x.holds in
    flat_map-append (λ (e : SlotEntry). out_by e.by e.op) (acquires_of e.acquires) (map (give_by k x.holds.place) bs)
    ∙ (ap (λ (l : List BoxOut). outs (acquires_of e.acquires) ++ l) (gives_out k x.holds.place bs)
    ∙ (append-nil (outs (acquires_of e.acquires)) ∙ event_acquires k (act_in e x) (acquires_of e.acquires) x.holds tells))

-- all of a log
pub log_outs : (k : ℕ) (x : Track) (log : Log Event) → Follows k x log → outs (all_dues slot_dues k x log) ≡ owed holds_after (gets_due k) x.holds.place x.holds (box_events x log)
log_outs k x [] f = refl
log_outs k x ((n, Look) ∷ ps) f = log_outs k x ps f.1
log_outs k x ((n, Made e) ∷ ps) f =
    let event : BoxEvent Box = record { act = act_in e x; box = box_of (acquires_of e.acquires) } in
    let rest = log_outs k (track_made n e x) ps f.1 in
    let place = place_by (act_in e x) (box_of (acquires_of e.acquires)) x.holds in
    flat_map-append (λ (e : SlotEntry). out_by e.by e.op) (slot_dues k e x) (all_dues slot_dues k (track_made n e x) ps)
    ∙ ((λ i. event_outs k e x f.0.acquires i ++ rest i)
    ∙ ap (λ (m : ℕ). gets_due k x.holds.place event x.holds ++ owed holds_after (gets_due k) m (track_made n e x).holds (box_events (track_made n e x) ps)) place)

-- ---- gives

-- each of these boxes was asked for last before this place
abbrev AreLatest : (ℕ → List Act) → ℕ → ℕ → List (ℕ × Box) → Type 0
AreLatest acts k place [] = Unit {0}
AreLatest acts k place (b ∷ bs) = (last_at acts k place ≡ b.0) × AreLatest acts k place bs

latest_with : (acts : ℕ → List Act) (k place : ℕ) (s : Option ℕ) (b : Option Box) → ((p : ℕ) → s ≡ Some p → last_at acts k place ≡ p) → AreLatest acts k place (box_with s b)
latest_with acts k place None b h = tt
latest_with acts k place (Some p) None h = tt
latest_with acts k place (Some p) (Some b) h = (h p refl, tt)

latest_lets : (acts : ℕ → List Act) (k place : ℕ) (a : Act) (b : Option Box) (x : Holds Box) → ((p : ℕ) → x.since ≡ Some p → last_at acts k place ≡ p) → AreLatest acts k place (lets_go_by a b x)
latest_lets acts k place (Asks id) b x h = latest_with acts k place x.since x.box h
latest_lets acts k place Begins b x h = tt
latest_lets acts k place Ends b x h = by x.old
  where
    by : (old : Bool) → AreLatest acts k place (cond old (box_with x.since (newer b x.box)) [])
    by true = latest_with acts k place x.since (newer b x.box) h
    by false = tt
latest_lets acts k place Removes b x h = by x.runs
  where
    by : (runs : Bool) → AreLatest acts k place (cond runs [] (box_with x.since x.box))
    by true = tt
    by false = latest_with acts k place x.since x.box h
latest_lets acts k place Other b x h = tt

here_latest : (acts : ℕ → List Act) (k : ℕ) (x : Track) (log : Log Event) → At (acts k) x log → (p : ℕ) → x.holds.since ≡ Some p → last_at acts k x.holds.place ≡ p
here_latest acts k x log at p is = ap latest (before_here (acts k) x log at) ∙ (at.since p is).last

module _ (acts : ℕ → List Act) where
  -- the returns that the gives call for
  abbrev pub returns_due : List SlotEntry → List Return
  returns_due es = flat_map (λ (e : SlotEntry). due_return (asked_at acts) (last_at acts) (top_of acts) e.op e.by) es

  due_none : (op : SlotOp) (cause : By) (id : CoderId) → acquire_of op ≡ id ∷ [] → due_return (asked_at acts) (last_at acts) (top_of acts) op cause ≡ []
  due_none (slot.Acquire other number) cause id is = refl
  due_none (slot.Refused other out made) cause id is = refl
  due_none (slot.Give other number) cause id is = absurd cc

  acquires_due : (es : List SlotEntry) → AreAcquires es → returns_due es ≡ []
  acquires_due [] are = refl
  acquires_due (a ∷ rest) are =
      let none = due_none a.op a.by are.0.0 are.0.1 in
      let later = acquires_due rest are.1 in
      λ i. none i ++ later i

  gives_due : (k place : ℕ) (bs : List (ℕ × Box)) → AreLatest acts k place bs → returns_due (map (give_by k place) bs) ≡ map (back_at k) (map (λ b. (place, b)) bs)
  gives_due k place [] are = refl
  gives_due k place (b ∷ bs) are =
      let rest = gives_due k place bs are.1 in
      let here : returns_due (give_by k place b ∷ []) ≡ back_at k (place, b) ∷ [] = ap (λ (p : ℕ). record { box = record { id = b.1.id; number = b.1.number; by = by.Codec k p }; giver = by.Codec k place } ∷ []) are.0 in
      λ i. here i ++ rest i

  pub event_due : (k : ℕ) (e : Event) (x : Track) (log : Log Event) → At (acts k) x log → AreAcquires (acquires_of e.acquires)
      → returns_due (slot_dues k e x) ≡ lets_go_due k x.holds.place (record { act = act_in e x; box = box_of (acquires_of e.acquires) }) x.holds
  event_due k e x log at are =
      let bs = lets_go_by (act_in e x) (box_of (acquires_of e.acquires)) x.holds in
      let none = acquires_due (acquires_of e.acquires) are in
      let gives = gives_due k x.holds.place bs (latest_lets acts k x.holds.place (act_in e x) (box_of (acquires_of e.acquires)) x.holds (here_latest acts k x log at)) in
      flat_map-append (λ (e : SlotEntry). due_return (asked_at acts) (last_at acts) (top_of acts) e.op e.by) (acquires_of e.acquires) (map (give_by k x.holds.place) bs)
      ∙ (λ i. none i ++ gives i)

-- ---- what an end tells

refusal_acquires : (id : CoderId) (op : SlotOp) → IsRefusalOf id op → acquire_of op ≡ id ∷ []
refusal_acquires id (slot.Acquire other number) is = absurd is
refusal_acquires id (slot.Refused other out made) is = ap (λ (o : CoderId). o ∷ []) is
refusal_acquires id (slot.Give other number) is = absurd is

abbrev ops : List SlotEntry → List SlotOp
ops es = map (λ a. a.op) es

tried_acquires : (asked : Option CoderId) (es : List SlotEntry) → MayTry asked (ops es) → AreAcquires es
tried_acquires None [] may = tt
tried_acquires None (a ∷ rest) may = absurd cc
tried_acquires (Some id) [] may = tt
tried_acquires (Some id) (a ∷ []) may = ((id, may), tt)
tried_acquires (Some id) (a ∷ b ∷ []) may = ((id, refusal_acquires id a.op may.0), ((id, may.1), tt))
tried_acquires (Some id) (a ∷ b ∷ c ∷ rest) may = absurd may

no_acquires : (es : List SlotEntry) → es ≡ [] → AreAcquires es
no_acquires es none = subst AreAcquires (sym none) tt

told_acquires : (slots : List SlotEntry) (cause : By) (asked : Option CoderId) (k : ℕ) (es : List SlotEntry) (h : Holds Box) (e : Entry) (t : State) → EntryIsTold slots cause asked (ops es) e → Tells k (boxes.act_of e t) es h → AreAcquires es
told_acquires slots cause asked k es h (entry.Done epoch number moment o) t told tells = tried_acquires asked es told.0
told_acquires slots cause asked k es h (entry.Start epoch number) t told tells = by (boxes.lacking t.given (start_item t.control)) tells
  where
    by : (o : Option CoderId) → Tells k (boxes.start_act o) es h → AreAcquires es
    by None none = no_acquires es none
    by (Some id) none = no_acquires es none
told_acquires slots cause asked k es h (entry.Call who x) t told tells = by (is_removal (entry.Call who x) t) tells
  where
    by : (b : Bool) → Tells k (boxes.removal_act b) es h → AreAcquires es
    by true none = no_acquires es none
    by false none = no_acquires es none
told_acquires slots cause asked k es h entry.Turn t told tells = by (is_removal entry.Turn t) tells
  where
    by : (b : Bool) → Tells k (boxes.removal_act b) es h → AreAcquires es
    by true none = no_acquires es none
    by false none = no_acquires es none
told_acquires slots cause asked k es h (entry.Reclaim moment) t told tells = by (is_removal (entry.Reclaim moment) t) tells
  where
    by : (b : Bool) → Tells k (boxes.removal_act b) es h → AreAcquires es
    by true none = no_acquires es none
    by false none = no_acquires es none

pub event_tells : (k : ℕ) (slots : List SlotEntry) (s : Started) (n : ℕ) (e : Event) (x : Track) → MayMake k n e x → EntryIsTold slots (by.Codec k s.place) s.asked (ops_of e) (entry_of e) → AreAcquires (acquires_of e.acquires)
event_tells k slots s n e x may told = told_acquires slots (by.Codec k s.place) s.asked k (acquires_of e.acquires) x.holds (entry_of e) x.state told may.acquires

-- ---- what a codec had and what came is what went and what it has

balance : (x : Holds Box) (a : Act) (b : Option Box) → MayCome a b x → box_with x.since x.box ++ box_with (gets_since a x.place x.since) b ≡ lets_go_by a b x ++ box_with (holds_by a b x).since (holds_by a b x).box
balance x (Asks id) b may = refl
balance x Begins b may = ap (λ (o : Option Box). box_with x.since x.box ++ box_with x.since o) may.1 ∙ (ap (λ (l : List (ℕ × Box)). box_with x.since x.box ++ l) (none_with x.since) ∙ append-nil (box_with x.since x.box))
balance x Ends b may = by_old x.old
  where
    newest : (c : Option Box) → (is_some c ≡ true → (x.waits ≡ true) × (x.box ≡ None)) → box_with x.since x.box ++ box_with x.since c ≡ box_with x.since (newer c x.box)
    newest None h = ap (λ (l : List (ℕ × Box)). box_with x.since x.box ++ l) (none_with x.since) ∙ append-nil (box_with x.since x.box)
    newest (Some v) h = ap (λ (o : Option Box). box_with x.since o ++ box_with x.since (Some v)) (h refl).1 ∙ ap (λ (l : List (ℕ × Box)). l ++ box_with x.since (Some v)) (none_with x.since)

    by_old : (o : Bool) → box_with x.since x.box ++ box_with x.since b ≡ cond o (box_with x.since (newer b x.box)) [] ++ box_with (holds_after_end o b x).since (holds_after_end o b x).box
    by_old true = newest b may.1 ∙ sym (append-nil (box_with x.since (newer b x.box)))
    by_old false = newest b may.1
balance x Removes b may = ap (λ (o : Option Box). box_with x.since x.box ++ box_with x.since o) may ∙ (ap (λ (l : List (ℕ × Box)). box_with x.since x.box ++ l) (none_with x.since) ∙ (append-nil (box_with x.since x.box) ∙ by_runs x.runs))
  where
    by_runs : (r : Bool) → box_with x.since x.box ≡ cond r [] (box_with x.since x.box) ++ box_with (holds_removed r x).since (holds_removed r x).box
    by_runs true = refl
    by_runs false = sym (append-nil (box_with x.since x.box))
balance x Other b may = ap (λ (o : Option Box). box_with x.since x.box ++ box_with x.since o) may ∙ (ap (λ (l : List (ℕ × Box)). box_with x.since x.box ++ l) (none_with x.since) ∙ append-nil (box_with x.since x.box))

module _ (acts : ℕ → List Act) where
  -- all of a log
  pub log_due : (k : ℕ) (slots : List SlotEntry) (s : Started) (x : Track) (log : Log Event) → At (acts k) x log → Follows k x log → EndsAreTold k slots (λ n. true) s x log
      → returns_due acts (all_dues slot_dues k x log) ≡ owed holds_after (lets_go_due k) x.holds.place x.holds (box_events x log)
  log_due k slots s x [] at f told = refl
  log_due k slots s x ((n, Look) ∷ ps) at f told = log_due k slots s x ps (record { sofar = at.sofar; is = at.is; long = at.long; since = at.since }) f.1 told
  log_due k slots s x ((n, Made e) ∷ ps) at f told =
      let event : BoxEvent Box = record { act = act_in e x; box = box_of (acquires_of e.acquires) } in
      let here = event_due acts k e x ((n, Made e) ∷ ps) at (event_tells k slots s n e x f.0 (told.0 refl)) in
      let rest = log_due k slots (started_by (act_in e x) x.holds.place s) (track_made n e x) ps (at_more (acts k) x n e ps at) f.1 told.1 in
      let place = place_by (act_in e x) (box_of (acquires_of e.acquires)) x.holds in
      flat_map-append (λ (e : SlotEntry). due_return (asked_at acts) (last_at acts) (top_of acts) e.op e.by) (slot_dues k e x) (all_dues slot_dues k (track_made n e x) ps)
      ∙ ((λ i. here i ++ rest i)
      ∙ ap (λ (m : ℕ). lets_go_due k x.holds.place event x.holds ++ owed holds_after (lets_go_due k) m (track_made n e x).holds (box_events (track_made n e x) ps)) place)

  -- ---- weights

  abbrev out_weight : BoxOut → ℕ
  out_weight b = box_weight (asked_at acts) (last_at acts) (top_of acts) b

  abbrev due_weight : SlotEntry → ℕ
  due_weight e = entry_weight (asked_at acts) (last_at acts) (top_of acts) e

  gives_weigh : (k place : ℕ) (bs : List (ℕ × Box)) → AreLatest acts k place bs → sum_by due_weight (map (give_by k place) bs) ≡ sum_by out_weight (map (out_at k) bs)
  gives_weigh k place [] are = refl
  gives_weigh k place (b ∷ bs) are =
      let rest = gives_weigh k place bs are.1 in
      let l = sum_by-cons due_weight (give_by k place b) (map (give_by k place) bs) in
      let r = sum_by-cons out_weight (out_at k b) (map (out_at k) bs) in
      let here = ap (λ (m : ℕ). top_of acts k - m) are.0 in
      omega (arith, rest, l, r, here)

  -- the box that is held at the end was asked for last
  held_last : (k : ℕ) (s : Option ℕ) (b : Option Box) → ((p : ℕ) → s ≡ Some p → latest (acts k) ≡ p) → sum_by out_weight (map (out_at k) (box_with s b)) ≡ 0
  held_last k None b h = refl
  held_last k (Some p) None h = refl
  held_last k (Some p) (Some b) h =
      let one = sum_by-cons out_weight (out_at k (p, b)) [] in
      let same = h p refl in
      omega (arith, one, same)

  map_both : (k : ℕ) (a b : List (ℕ × Box)) → sum_by out_weight (map (out_at k) (a ++ b)) ≡ sum_by out_weight (map (out_at k) a) + sum_by out_weight (map (out_at k) b)
  map_both k [] b = omega arith
  map_both k (g ∷ a) b =
      let rest = map_both k a b in
      let l = sum_by-cons out_weight (out_at k g) (map (out_at k) (a ++ b)) in
      let r = sum_by-cons out_weight (out_at k g) (map (out_at k) a) in
      omega (arith, rest, l, r)

  -- What went out weighs no more than the gives.
  pub log_weighs : (k : ℕ) (x : Track) (log : Log Event) → At (acts k) x log → Follows k x log
      → sum_by out_weight (outs (all_dues slot_dues k x log)) + sum_by out_weight (map (out_at k) (box_with x.holds.since x.holds.box)) ≤ sum_by due_weight (all_dues slot_dues k x log)
  log_weighs k x [] at f =
      let now : (p : ℕ) → x.holds.since ≡ Some p → latest (acts k) ≡ p = λ p is. ap latest (at.is ∙ append-nil at.sofar) ∙ (at.since p is).last in
      let h = held_last k x.holds.since x.holds.box now in
      omega (arith, h)
  log_weighs k x ((n, Look) ∷ ps) at f = log_weighs k x ps (record { sofar = at.sofar; is = at.is; long = at.long; since = at.since }) f.1
  log_weighs k x ((n, Made e) ∷ ps) at f =
      let a = act_in e x in
      let b = box_of (acquires_of e.acquires) in
      let y = track_made n e x in
      let h = x.holds in
      let bs = lets_go_by a b h in
      let got = box_with (gets_since a h.place h.since) b in
      let held = box_with h.since h.box in
      let later = box_with y.holds.since y.holds.box in
      let rest = log_weighs k y ps (at_more (acts k) x n e ps at) f.1 in
      let same = ap (λ (l : List (ℕ × Box)). sum_by out_weight (map (out_at k) l)) (balance h a b f.0.box) in
      let left = map_both k held got in
      let right = map_both k bs later in
      let went = ap (sum_by out_weight) (event_outs k e x f.0.acquires) in
      let outs_split = ap (sum_by out_weight) (flat_map-append (λ (e : SlotEntry). out_by e.by e.op) (slot_dues k e x) (all_dues slot_dues k y ps)) in
      let outs_sum = weigh_append out_weight (outs (slot_dues k e x)) (outs (all_dues slot_dues k y ps)) in
      let dues_sum = weigh_append due_weight (slot_dues k e x) (all_dues slot_dues k y ps) in
      let here_sum = weigh_append due_weight (acquires_of e.acquires) (map (give_by k h.place) bs) in
      let gives = gives_weigh k h.place bs (latest_lets acts k h.place a b h (here_latest acts k x ((n, Made e) ∷ ps) at)) in
      omega (arith, rest, same, left, right, went, outs_split, outs_sum, dues_sum, here_sum, gives)

  -- each box that went out was asked for
  acquires_asked : (k : ℕ) (h : Holds Box) (es : List SlotEntry) → ((p : ℕ) → h.since ≡ Some p → asked_at acts k p ≡ true) → AreAsked k es h → OutsAreAsked (asked_at acts) (last_at acts) (top_of acts) es
  acquires_asked k h [] since are = tt
  acquires_asked k h (a ∷ rest) since are = (here a.op, acquires_asked k h rest since are.1)
    where
      here : (op : SlotOp) → OutIsAsked (asked_at acts) (last_at acts) (top_of acts) op a.by
      here (slot.Acquire id number) = subst (λ (c : By). OutIsAsked (asked_at acts) (last_at acts) (top_of acts) (slot.Acquire id number) c) (sym are.0.3) (since are.0.0 are.0.2)
      here (slot.Refused id out made) = tt
      here (slot.Give id number) = tt

  none_asked : (es : List SlotEntry) → es ≡ [] → OutsAreAsked (asked_at acts) (last_at acts) (top_of acts) es
  none_asked es none = subst (λ (l : List SlotEntry). OutsAreAsked (asked_at acts) (last_at acts) (top_of acts) l) (sym none) tt

  event_asked : (k : ℕ) (a : Act) (h : Holds Box) (es : List SlotEntry) → ((p : ℕ) → h.since ≡ Some p → asked_at acts k p ≡ true) → Tells k a es h → OutsAreAsked (asked_at acts) (last_at acts) (top_of acts) es
  event_asked k (Asks id) h es since tells = none_asked es tells
  event_asked k Begins h es since tells = none_asked es tells
  event_asked k Ends h es since tells = acquires_asked k h es since tells.0
  event_asked k Removes h es since tells = none_asked es tells
  event_asked k Other h es since tells = none_asked es tells

  gives_asked : (k place : ℕ) (bs : List (ℕ × Box)) (rest : List SlotEntry) → OutsAreAsked (asked_at acts) (last_at acts) (top_of acts) rest → OutsAreAsked (asked_at acts) (last_at acts) (top_of acts) (map (give_by k place) bs ++ rest)
  gives_asked k place [] rest h = h
  gives_asked k place (b ∷ bs) rest h = (tt, gives_asked k place bs rest h)

  pub both_asked : (a b : List SlotEntry) → OutsAreAsked (asked_at acts) (last_at acts) (top_of acts) a → OutsAreAsked (asked_at acts) (last_at acts) (top_of acts) b → OutsAreAsked (asked_at acts) (last_at acts) (top_of acts) (a ++ b)
  both_asked [] b x y = y
  both_asked (e ∷ es) b x y = (x.0, both_asked es b x.1 y)

  since_asked : (k : ℕ) (x : Track) (log : Log Event) → At (acts k) x log → (p : ℕ) → x.holds.since ≡ Some p → asked_at acts k p ≡ true
  since_asked k x log at p is =
      let l = at.since p is in
      let there : slice_get (acts k) p ≡ Some (Asks l.id) = ap (λ (s : List Act). slice_get s p) at.is ∙ get_kept at.sofar (acts_in (box_events x log)) p (Asks l.id) l.asks in
      ap (λ (o : Option Act). is_some (option_and_then asks_of o)) there

  pub log_asked : (k : ℕ) (x : Track) (log : Log Event) → At (acts k) x log → Follows k x log → OutsAreAsked (asked_at acts) (last_at acts) (top_of acts) (all_dues slot_dues k x log)
  log_asked k x [] at f = tt
  log_asked k x ((n, Look) ∷ ps) at f = log_asked k x ps (record { sofar = at.sofar; is = at.is; long = at.long; since = at.since }) f.1
  log_asked k x ((n, Made e) ∷ ps) at f =
      let a = act_in e x in
      let es = acquires_of e.acquires in
      let bs = lets_go_by a (box_of es) x.holds in
      let rest = log_asked k (track_made n e x) ps (at_more (acts k) x n e ps at) f.1 in
      subst (λ (l : List SlotEntry). OutsAreAsked (asked_at acts) (last_at acts) (top_of acts) l) (sym (append_assoc es (map (give_by k x.holds.place) bs) (all_dues slot_dues k (track_made n e x) ps)))
      (both_asked es (map (give_by k x.holds.place) bs ++ all_dues slot_dues k (track_made n e x) ps) (event_asked k a x.holds es (since_asked k x ((n, Made e) ∷ ps) at) f.0.acquires)
      (gives_asked k x.holds.place bs (all_dues slot_dues k (track_made n e x) ps) rest))
