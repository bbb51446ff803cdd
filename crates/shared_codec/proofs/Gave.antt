-- Calls that are neither starts nor ends of items, in one passage.
use Rattle.std.proofs.Common.{ℕ, ◌≡◌, ◌≤◌, ◌<◌, arith, Bool, true, false, not, cond, List, [], ◌∷◌, ◌++◌, map, length, length-append, Option, Some, None, is_some, refl, ap, sym, subst, ◌∙◌, append-nil}
use Rattle.std.specs.Prelude.{unwrap_or, if◌then◌else◌, Result, Ok, Err, IfSome, IfNone, OnSome}
use Rattle.std.specs.Result.{is_ok}
use Rattle.atomic_table.specs.Seated.{TableId}
use Rattle.atomic_table.specs.declared.shared.Seat.{Seat}
use Rattle.wc_base.specs.declared.error.NoMemory.{NoMemory}
use Rattle.wc_base.specs.declared.who.Who.{Who}
use Rattle.wc_base.specs.Views.{Log}
use Rattle.wc_base.specs.declared.seat.Passage.{Passage}
use Rattle.wc_base.specs.declared.seat.Passage.TheVariants.{Made, Look}
use Rattle.wc_base.specs.declared.seat.View.{View}
use Rattle.wc_pool.specs.declared.reference.MediaRef.{MediaRef}
use Rattle.coder_api.specs.Lent.{Lent}
use Rattle.codec_model.specs.declared.entry.{Opening.Opening, Entry.Entry, Call.Call, Task.Task}
use Rattle.codec_model.specs.Control.{may_reclaim, turn_closes}
use Rattle.codec_model.specs.Held.{in_order, closes_codec, is_removal, adds_held, lets_go, waiting_held}
use Rattle.codec_model.specs.Replay.{State, sends, call_error}
use Rattle.codec_model.specs.Shown.{exception_of}
use Rattle.codec_accounts.specs.Boxes.{Other, Holds, holds_by, holds_removed, box_with, lets_go_by, MayCome, removal_act, act_of}
use Rattle.codec_accounts.specs.Registry.{Box}
use Rattle.codec_core.specs.declared.out.Out.{Out}
use Rattle.codec_core.specs.Job.{stopped_box}
use Rattle.codec_core.specs.Codec.{Codec, state_at, Makes, kept_box, handed_back, closes_now}
use Rattle.codec_core.specs.Owning.{GoesBack}
use Rattle.codec_media.specs.Holding.{Holding, ReplyValue, RemovedValue, TurnedValue, SameHeld, LetsGo, all_of, pair_of}
use Rattle.seat_lock.specs.Passages.{Passes}
use Rattle.seat_lock.specs.Seats.{Sitting}
use Rattle.codec_logs.specs.declared.event.Acquires.{Acquires}
use Rattle.codec_logs.specs.declared.event.Event.{Event}
use Rattle.codec_logs.specs.Logs.{entry_of, history_of, acquires_of, box_of, Track, track, act_in, IsOwn, Tells, BoxIs, HomeIs}
use Rattle.codec_logs.specs.LogLaws.{legal_log, home_removal}
use Rattle.shared_pool.specs.Refs.{AreOf}
use Rattle.shared_slots.specs.Boxes.{IfOut}
use Rattle.shared_codec.specs.Dues.{give_by, clones_at, ends_at, gives_of}
use Rattle.shared_codec.specs.Shared.{Shared, no_mint, no_spend, StandsFor, WentIs, PassageIs, places_in, codec_of}
use Rattle.shared_codec.specs.Calls.{GaveIn, RepliedIn, CallTells, TurnTells, ReclaimTells, media_in, box_in}
use Rattle.shared_codec.specs.Gives.{Calls, CallGives}
use Rattle.shared_codec.specs.Looks.{Saw}
use Rattle.shared_codec.proofs.Dues.{OfCodec, of_box, later_of, due_box, gives_stopped}
use Rattle.shared_codec.proofs.Stands.{Leaves, StandsAt, event_is, same_places, stands_look, stands_made, made_in, looked_in, are_split, are_both, out_stopped, goes_in}

-- What such a call of the codec gives: its entry, whether that removes what waits, what it lets go, and what it brings.
pub record Gives (old new : Holding) (e : Entry) (place : ℕ) (media : List MediaRef) (coder : Option Lent) (brought : List MediaRef) : Type 0 where
  pub removes : Bool
  pub act : act_of e (state_at old.codec) ≡ removal_act removes
  pub made : Makes old.codec new.codec e
  pub is_place : place ≡ length old.codec.history
  pub slot : new.codec.slot ≡ cond removes None old.codec.slot
  pub hands : coder ≡ cond removes (stopped_box old.codec.slot) None
  pub lets : GoesBack new.codec place coder
  pub out : new.codec.out ≡ old.codec.out
  pub places : Leaves old.codec new.codec e
  pub media_is : media ≡ cond removes old.waiting []
  pub pairs : map pair_of media ≡ lets_go e (state_at old.codec)
  pub working : new.working ≡ old.working
  pub waiting : new.waiting ≡ cond removes [] old.waiting ++ brought

went_same : (k : ℕ) (h g : Holds Box) (out : Out) → g.waits ≡ h.waits → g.since ≡ h.since → g.box ≡ h.box → WentIs k h out → WentIs k g out
went_same k h g (Out.With box) waits since same w = (waits ∙ w.0, subst (λ (z : Option ℕ × Option Box). BoxIs k z.0 z.1 box) (λ i. (sym since i, sym same i)) w.1, w.2)
went_same k h g (Out.Asked place) waits since same w = since ∙ w

-- an item at work keeps what went out with it
went_removal : (k : ℕ) (h : Holds Box) (out : Out) (b : Bool) → (h.runs ≡ true → WentIs k h out) → (holds_by (removal_act b) None h).runs ≡ true → WentIs k (holds_by (removal_act b) None h) out
went_removal k h out false w = λ runs. went_same k h (holds_by Other None h) out refl refl refl (w runs)
went_removal k h out true w = by h.runs refl
  where
    by : (r : Bool) → h.runs ≡ r → (holds_removed r h).runs ≡ true → WentIs k (holds_removed r h) out
    by true is = λ runs. went_same k h (holds_removed true h) out refl refl refl (w is)
    by false is = λ runs. absurd (let bad = sym is ∙ runs in cc)

pub of_home : (k : ℕ) (runs : Bool) (since : Option ℕ) (box : Option Box) (coder : Option Lent) → HomeIs k runs since box coder → OfCodec k coder
of_home k true since box coder home = subst (λ (z : Option Lent). OfCodec k z) (sym home) tt
of_home k false since box coder home = of_box k since box coder home

pub of_removed : (k : ℕ) (b : Bool) (coder : Option Lent) → OfCodec k coder → OfCodec k (cond b (stopped_box coder) None)
of_removed k true None h = tt
of_removed k true (Some lent) h = h
of_removed k false coder h = tt

-- the box that an entry lets go goes back
home_due : (k : ℕ) (runs : Bool) (since : Option ℕ) (box : Option Box) (at place : ℕ) (slot : Option Lent) → HomeIs k runs since box slot → at ≡ place → map (give_by k at) (cond runs [] (box_with since box)) ≡ gives_of k place (stopped_box slot)
home_due k true since box at place slot home e = sym (ap (λ (z : Option Lent). gives_of k place (stopped_box z)) home)
home_due k false since box at place slot home e = due_box k since box at place slot home e ∙ gives_stopped k place slot

pub removal_due : (k : ℕ) (b : Bool) (h : Holds Box) (place : ℕ) (slot : Option Lent) → HomeIs k h.runs h.since h.box slot → h.place ≡ place → map (give_by k h.place) (lets_go_by (removal_act b) None h) ≡ gives_of k place (cond b (stopped_box slot) None)
removal_due k true h place slot home e = home_due k h.runs h.since h.box h.place place slot home e
removal_due k false h place slot home e = refl

if_kept : (slots : TableId) (b : Bool) (coder : Option Lent) → IfOut slots coder → IfOut slots (cond b None coder)
if_kept slots true coder out = tt
if_kept slots false coder out = out

pub if_handed : (slots : TableId) (b : Bool) (coder : Option Lent) → IfOut slots coder → IfOut slots (cond b (stopped_box coder) None)
if_handed slots true coder out = out_stopped slots coder out
if_handed slots false coder out = tt

left_of : (pool : TableId) (b : Bool) (rs : List MediaRef) → AreOf pool rs → AreOf pool (cond b [] rs)
left_of pool true rs h = tt
left_of pool false rs h = h

pub gone_of : (pool : TableId) (b : Bool) (rs : List MediaRef) → AreOf pool rs → AreOf pool (cond b rs [])
gone_of pool true rs h = h
gone_of pool false rs h = tt

pub more_than : (old new : Codec) (e : Entry) → Makes old new e → 0 < length new.history
more_than old new e m = let n = ap (λ (h : List Entry). length h) m.longer ∙ length-append old.history (e ∷ []) in omega (arith, n)

module _ (k : ℕ) (o : Opening) (calls : ℕ) (pool slots : TableId) where
  abbrev Sg : Holding → Log Event → Type 0
  Sg h log = StandsFor k o calls pool slots h log

  gave : (n : ℕ) (old new : Holding) (ev : Event) (e : Entry) (place : ℕ) (media : List MediaRef) (coder : Option Lent) (brought : List MediaRef) (log : Log Event) → Sg old log → Gives old new e place media coder brought → AreOf pool brought
      → entry_of ev ≡ e → acquires_of ev.acquires ≡ [] → Sg new (log ++ (n, Made ev) ∷ [])
  gave n old new ev e place media coder brought log st g of eq none =
      let x : Track = track o log in
      let b : Bool = g.removes in
      let two = are_split pool (in_order old.working) old.waiting st.held in
      stands_made k o calls pool slots n old new ev log (removal_act b) None st (subst (λ (z : Entry). Makes old.codec new.codec z) (sym eq) g.made)
      (ap (λ (z : Entry). act_of z (state_at old.codec)) eq ∙ g.act) (ap box_of none) (own b) (may b) (tells b)
      (subst (λ (z : Option Lent). HomeIs k (holds_by (removal_act b) None x.holds).runs (holds_by (removal_act b) None x.holds).since (holds_by (removal_act b) None x.holds).box z) (sym g.slot) (home_removal k x.holds old.codec.slot b st.box))
      (subst (λ (z : Out). (holds_by (removal_act b) None x.holds).runs ≡ true → WentIs k (holds_by (removal_act b) None x.holds) z) (sym g.out) (went_removal k x.holds old.codec.out b st.went))
      (subst (λ (z : Option Lent). IfOut slots z) (sym g.slot) (if_kept slots b old.codec.slot st.out))
      (subst (λ (l : List MediaRef). AreOf pool l) (λ i. in_order (sym g.working i) ++ sym g.waiting i)
      (are_both pool (in_order old.working) (cond b [] old.waiting ++ brought) two.0 (are_both pool (cond b [] old.waiting) brought (left_of pool b old.waiting two.1) of)))
      (subst (λ (z : Entry). Leaves old.codec new.codec z) (sym eq) g.places)
    where
      own : (b : Bool) → IsOwn (removal_act b) n (track o log).runner
      own true = tt
      own false = tt

      may : (b : Bool) → MayCome (removal_act b) None (track o log).holds
      may true = refl
      may false = refl

      tells : (b : Bool) → Tells k (removal_act b) (acquires_of ev.acquires) (track o log).holds
      tells true = none
      tells false = none

  -- the passage of the call's entry
  pub stands_gave : (n : ℕ) (old new : Holding) (e : Entry) (place : ℕ) (media : List MediaRef) (coder : Option Lent) (brought : List MediaRef) (log : Log Event) (p : Passage Event) (acq : Acquires) → acquires_of acq ≡ [] → Gives old new e place media coder brought → AreOf pool brought
      → PassageIs true new.codec.history acq p → Sg old log → Sg new (log ++ (n, p) ∷ [])
  stands_gave n old new e place media coder brought log p acq none g of is st =
      subst (λ (q : Passage Event). Sg new (log ++ (n, q) ∷ [])) (sym is.1)
      (gave n old new is.0 e place media coder brought log st g of (event_is old.codec new.codec (entry_of is.0) e is.2 g.made) (ap acquires_of is.3 ∙ none))

  -- a passage by which nothing changed
  pub stands_same : (n : ℕ) (old new : Holding) (log : Log Event) (p : Passage Event) → new ≡ old → p ≡ Look → Sg old log → Sg new (log ++ (n, p) ∷ [])
  stands_same n old new log p same is st =
      subst (λ (q : Passage Event). Sg new (log ++ (n, q) ∷ [])) (sym is)
      (stands_look k o calls pool slots n old new log st (ap (λ (h : Holding). h.codec) same) (subst (λ (h : Holding). AreOf pool (all_of h)) (sym same) st.held))

module _ {S : Type 0} (s : Shared) where
  -- what it tells
  abbrev pub gave_in : (old new : Holding) (e : Entry) (place : ℕ) (media : List MediaRef) (coder : Option Lent) (brought : List MediaRef) (p : Passage Event) (acq : Acquires) (a c : Seat (Option S) (View Event)) (passes : Passes no_mint no_spend p a c) → acquires_of acq ≡ []
      → Gives old new e place media coder brought → PassageIs true new.codec.history acq p → StandsAt s old passes.log → StandsAt s new (passes.log ++ (a.me.0.number, p) ∷ []) → GaveIn s e place media coder a c
  gave_in old new e place media coder brought p acq a c passes nothing g is st next =
      let x : Track = track s.opening passes.log in
      let ev : Event = is.0 in
      let eq : entry_of ev ≡ e = event_is old.codec new.codec (entry_of ev) e is.2 g.made in
      let none : acquires_of ev.acquires ≡ [] = ap acquires_of is.3 ∙ nothing in
      let here : act_in ev x ≡ removal_act g.removes = (λ i. act_of (eq i) (sym st.state i)) ∙ g.act in
      let at : x.holds.place ≡ place = (legal_log s.codec s.opening passes.log st.legal).place ∙ (ap length (sym st.history) ∙ sym g.is_place) in
      let gone : lets_go (entry_of ev) x.state ≡ map pair_of media = (λ i. lets_go (eq i) (sym st.state i)) ∙ sym g.pairs in
      record {
        made = made_in s e [] p ev new a c passes is.1 eq none st.legal next;
        is_place = g.is_place ∙ ap length st.history;
        of = subst (λ (l : List MediaRef). AreOf s.pool l) (sym g.media_is) (gone_of s.pool g.removes old.waiting (are_split s.pool (in_order old.working) old.waiting st.held).1);
        pairs = g.pairs ∙ ap (lets_go e) st.state;
        out = subst (λ (z : Option Lent). IfOut s.slots z) (sym g.hands) (if_handed s.slots g.removes old.codec.slot st.out);
        goes = goes_in new.codec (codec_of s c.me.0.log) place coder (sym next.opening) (ap (λ (m : Sitting S Event). history_of m.0.log) passes.view ∙ sym next.history) g.lets;
        later = later_of s.codec new.codec place coder (subst (λ (z : Option Lent). OfCodec s.codec z) (sym g.hands) (of_removed s.codec g.removes old.codec.slot (of_home s.codec _ _ _ old.codec.slot st.box))) g.lets;
        gives = (λ i. none i ++ map (give_by s.codec x.holds.place) (lets_go_by (here i) (box_of (none i)) x.holds))
            ∙ (removal_due s.codec g.removes x.holds place old.codec.slot st.box at ∙ ap (gives_of s.codec place) (sym g.hands));
        ends = (λ i. clones_at (at i) (adds_held (eq i)) ++ ends_at (at i) (gone i));
      }

-- ---- a call of a caller

kept_not : (b : Bool) (slot : Option Lent) → kept_box (not b) slot ≡ cond b None slot
kept_not true slot = refl
kept_not false slot = refl

handed_not : (b : Bool) (slot : Option Lent) → handed_back (not b) slot ≡ cond b (stopped_box slot) None
handed_not true slot = refl
handed_not false slot = refl

place_bit : (b : Bool) → ◌≡◌ {A = ℕ} (if b then 0 else 1) (cond (not b) 1 0)
place_bit true = refl
place_bit false = refl

pub call_gives : (old new : Holding) (who : Who) (x : Call) (r : ReplyValue) (brought : List MediaRef) → Calls old new who x r brought → Gives old new (Entry.Call who x) r.place r.media r.coder brought
call_gives old new who x r brought g =
    let b : Bool = is_removal (Entry.Call who x) (state_at old.codec) in
    record {
      removes = b;
      act = refl;
      made = g.replied.made;
      is_place = g.replied.is_place;
      slot = g.replied.slot ∙ kept_not b old.codec.slot;
      hands = g.replied.coder ∙ handed_not b old.codec.slot;
      lets = g.lets;
      out = g.replied.out;
      places = (let spare = g.replied.spare in let bit = place_bit (sends x) in omega (arith, spare, bit));
      media_is = g.gone;
      pairs = g.pairs;
      working = g.working;
      waiting = g.waiting;
    }

module _ (k : ℕ) (o : Opening) (calls : ℕ) (pool slots : TableId) where
  pub stands_call : (n : ℕ) (who : Who) (x : Call) (result : Result ReplyValue NoMemory) (old new : Holding) (log : Log Event) (p : Passage Event) (acq : Acquires) → acquires_of acq ≡ [] → CallGives old new who x result
      → PassageIs (is_ok result) new.codec.history acq p → StandsFor k o calls pool slots old log → StandsFor k o calls pool slots new (log ++ (n, p) ∷ [])
  stands_call n who x (Ok r) old new log p acq none gives is st = stands_gave k o calls pool slots n old new (Entry.Call who x) r.place r.media r.coder [] log p acq none (call_gives old new who x r [] gives) tt is st
  stands_call n who x (Err e) old new log p acq none gives is st = stands_same k o calls pool slots n old new log p gives.0 is st

-- there was no place left
pub full_at : (s : Shared) (h : Holding) (log : Log Event) → StandsAt s h log → h.codec.spare ≡ 0 → s.calls ≤ places_in (history_of log)
full_at s h log st none = let room = st.room in omega (arith, room, none)

module _ {S : Type 0} (s : Shared) where
  abbrev pub replied_in : (who : Who) (x : Call) (r : ReplyValue) (brought : List MediaRef) (old new : Holding) (p : Passage Event) (acq : Acquires) (a c : Seat (Option S) (View Event)) (passes : Passes no_mint no_spend p a c) → acquires_of acq ≡ [] → Calls old new who x r brought → PassageIs true new.codec.history acq p
      → StandsAt s old passes.log → StandsAt s new (passes.log ++ (a.me.0.number, p) ∷ []) → RepliedIn s who x r a c
  replied_in who x r brought old new p acq a c passes none g is st next = record {
    gave = gave_in s old new (Entry.Call who x) r.place r.media r.coder brought p acq a c passes none (call_gives old new who x r brought g) is st next;
    exception = ap (λ (t : State). exception_of x (call_error x t.control)) (sym st.state) ∙ g.replied.exception;
    promise = g.replied.promise;
  }

  pub tells_call : (who : Who) (x : Call) (result : Result ReplyValue NoMemory) (old new : Holding) (p : Passage Event) (acq : Acquires) (a c : Seat (Option S) (View Event)) (passes : Passes no_mint no_spend p a c) → acquires_of acq ≡ [] → CallGives old new who x result → PassageIs (is_ok result) new.codec.history acq p
      → StandsAt s old passes.log → StandsAt s new (passes.log ++ (a.me.0.number, p) ∷ []) → CallTells s who x result a c
  tells_call who x (Ok r) old new p acq a c passes none gives is st next = replied_in who x r [] old new p acq a c passes none gives is st next
  tells_call who x (Err e) old new p acq a c passes none gives is st next = record { looked = looked_in s p a c passes is st.legal; full = λ quiet. full_at s old passes.log st (gives.1 quiet) }

-- ---- turns and reclaims

closes_same : (ts : List Task) → closes_codec ts ≡ unwrap_or (turn_closes ts) false
closes_same [] = refl
closes_same (t ∷ ts) = refl

pub record Turns (old new : Holding) (t : TurnedValue) : Type 0 where
  pub made : Makes old.codec new.codec Entry.Turn
  pub place : t.place ≡ length old.codec.history
  pub closes : is_some t.removed ≡ closes_now (state_at old.codec).control
  pub same_place : IfSome t.removed (λ r. r.place ≡ t.place)
  pub gives : Gives old new Entry.Turn t.place (media_in t.removed) (box_in t.removed) []

abbrev pub TurnGives : Holding → Holding → Option TurnedValue → Type 0
TurnGives old new None = ((state_at old.codec).control.tasks ≡ []) × (new ≡ old)
TurnGives old new (Some t) = Turns old new t

turn_by : (old new : Holding) (at : ℕ) (removed : Option RemovedValue) → Makes old.codec new.codec Entry.Turn → at ≡ length old.codec.history → is_some removed ≡ closes_now (state_at old.codec).control → IfSome removed (λ r. (r.place ≡ at) × (r.coder ≡ stopped_box old.codec.slot))
    → IfSome removed (λ r. GoesBack new.codec r.place r.coder) → new.codec.slot ≡ kept_box (not (closes_now (state_at old.codec).control)) old.codec.slot → new.codec.out ≡ old.codec.out → new.codec.spare ≡ old.codec.spare
    → IfNone removed (SameHeld old new) → IfSome removed (λ r. LetsGo old new r.media) → Gives old new Entry.Turn at (media_in removed) (box_in removed) []
turn_by old new at None made place closes coder lets slot out spare kept gone =
    let same : closes_codec (state_at old.codec).control.tasks ≡ false = closes_same (state_at old.codec).control.tasks ∙ sym closes in
    record {
      removes = false;
      act = ap removal_act same;
      made = made;
      is_place = place;
      slot = slot ∙ (ap (λ (b : Bool). kept_box (not b) old.codec.slot) (sym closes));
      hands = refl;
      lets = tt;
      out = out;
      places = same_places old.codec new.codec Entry.Turn spare;
      media_is = refl;
      pairs = sym (ap (λ (b : Bool). if b then waiting_held (state_at old.codec).control else []) same);
      working = kept.working;
      waiting = kept.waiting ∙ sym (append-nil old.waiting);
    }
turn_by old new at (Some r) made place closes coder lets slot out spare kept gone =
    let same : closes_codec (state_at old.codec).control.tasks ≡ true = closes_same (state_at old.codec).control.tasks ∙ sym closes in
    record {
      removes = true;
      act = ap removal_act same;
      made = made;
      is_place = place;
      slot = slot ∙ (ap (λ (b : Bool). kept_box (not b) old.codec.slot) (sym closes));
      hands = coder.1;
      lets = subst (λ (n : ℕ). GoesBack new.codec n r.coder) coder.0 lets;
      out = out;
      places = same_places old.codec new.codec Entry.Turn spare;
      media_is = gone.media_is;
      pairs = gone.pairs ∙ sym (ap (λ (b : Bool). if b then waiting_held (state_at old.codec).control else []) same);
      working = gone.working;
      waiting = gone.none;
    }

pub turn_gives : (old new : Holding) (result : Option TurnedValue) → IfNone result ((state_at old.codec).control.tasks ≡ []) → IfNone result (new ≡ old) → OnSome result (Makes old.codec new.codec Entry.Turn) → IfSome result (λ t. t.place ≡ length old.codec.history)
    → IfSome result (λ t. is_some t.removed ≡ closes_now (state_at old.codec).control) → IfSome result (λ t. IfSome t.removed (λ r. (r.place ≡ t.place) × (r.coder ≡ stopped_box old.codec.slot))) → IfSome result (λ t. IfSome t.removed (λ r. GoesBack new.codec r.place r.coder))
    → new.codec.slot ≡ kept_box (not (closes_now (state_at old.codec).control)) old.codec.slot → new.codec.out ≡ old.codec.out → new.codec.spare ≡ old.codec.spare → IfSome result (λ t. IfNone t.removed (SameHeld old new)) → IfSome result (λ t. IfSome t.removed (λ r. LetsGo old new r.media)) → TurnGives old new result
turn_gives old new None none same made place closes coder lets slot out spare kept gone = (none, same)
turn_gives old new (Some t) none same made place closes coder lets slot out spare kept gone = record {
  made = made;
  place = place;
  closes = closes;
  same_place = places t.removed coder;
  gives = turn_by old new t.place t.removed made place closes coder lets slot out spare kept gone;
}
  where
    places : (removed : Option RemovedValue) → IfSome removed (λ r. (r.place ≡ t.place) × (r.coder ≡ stopped_box old.codec.slot)) → IfSome removed (λ r. r.place ≡ t.place)
    places None h = tt
    places (Some r) h = h.0

abbrev pub ReclaimGives : Holding → Holding → ℕ → Option RemovedValue → Type 0
ReclaimGives old new now None = (may_reclaim now (state_at old.codec).control ≡ false) × (new ≡ old)
ReclaimGives old new now (Some r) = Gives old new (Entry.Reclaim now) r.place r.media r.coder []

pub reclaim_gives : (old new : Holding) (now : ℕ) (result : Option RemovedValue) → IfNone result (may_reclaim now (state_at old.codec).control ≡ false) → IfNone result (new ≡ old) → OnSome result (Makes old.codec new.codec (Entry.Reclaim now))
    → IfSome result (λ r. r.place ≡ length old.codec.history) → IfSome result (λ r. r.coder ≡ stopped_box old.codec.slot) → IfSome result (λ r. GoesBack new.codec r.place r.coder) → OnSome result (new.codec.slot ≡ None) → new.codec.out ≡ old.codec.out → new.codec.spare ≡ old.codec.spare → IfSome result (λ r. LetsGo old new r.media)
    → ReclaimGives old new now result
reclaim_gives old new now None none same made place coder lets slot out spare gone = (none, same)
reclaim_gives old new now (Some r) none same made place coder lets slot out spare gone = record {
  removes = true;
  act = refl;
  made = made;
  is_place = place;
  slot = slot;
  hands = coder;
  lets = lets;
  out = out;
  places = same_places old.codec new.codec (Entry.Reclaim now) spare;
  media_is = gone.media_is;
  pairs = gone.pairs;
  working = gone.working;
  waiting = gone.none;
}

module _ (k : ℕ) (o : Opening) (calls : ℕ) (pool slots : TableId) where
  pub stands_turn : (n : ℕ) (result : Option TurnedValue) (old new : Holding) (log : Log Event) (p : Passage Event) (acq : Acquires) → acquires_of acq ≡ [] → TurnGives old new result → PassageIs (is_some result) new.codec.history acq p
      → StandsFor k o calls pool slots old log → StandsFor k o calls pool slots new (log ++ (n, p) ∷ [])
  stands_turn n (Some t) old new log p acq none gives is st = stands_gave k o calls pool slots n old new Entry.Turn t.place (media_in t.removed) (box_in t.removed) [] log p acq none gives.gives tt is st
  stands_turn n None old new log p acq none gives is st = stands_same k o calls pool slots n old new log p gives.1 is st

  pub stands_reclaim : (n now : ℕ) (result : Option RemovedValue) (old new : Holding) (log : Log Event) (p : Passage Event) (acq : Acquires) → acquires_of acq ≡ [] → ReclaimGives old new now result → PassageIs (is_some result) new.codec.history acq p
      → StandsFor k o calls pool slots old log → StandsFor k o calls pool slots new (log ++ (n, p) ∷ [])
  stands_reclaim n now (Some r) old new log p acq none gives is st = stands_gave k o calls pool slots n old new (Entry.Reclaim now) r.place r.media r.coder [] log p acq none gives tt is st
  stands_reclaim n now None old new log p acq none gives is st = stands_same k o calls pool slots n old new log p gives.1 is st

module _ {S : Type 0} (s : Shared) where
  pub tells_turn : (result : Option TurnedValue) (old new : Holding) (p : Passage Event) (acq : Acquires) (a c : Seat (Option S) (View Event)) (passes : Passes no_mint no_spend p a c) → acquires_of acq ≡ [] → TurnGives old new result → PassageIs (is_some result) new.codec.history acq p
      → StandsAt s old passes.log → StandsAt s new (passes.log ++ (a.me.0.number, p) ∷ []) → TurnTells s result a c
  tells_turn (Some t) old new p acq a c passes none gives is st next = record {
    gave = gave_in s old new Entry.Turn t.place (media_in t.removed) (box_in t.removed) [] p acq a c passes none gives.gives is st next;
    closes = gives.closes ∙ ap (λ (t : State). closes_now t.control) st.state;
    same_place = gives.same_place;
  }
  tells_turn None old new p acq a c passes none gives is st next = record {
    looked = looked_in s p a c passes is st.legal;
    none = ap (λ (t : State). t.control.tasks) (sym st.state) ∙ gives.0;
  }

  pub tells_reclaim : (now : ℕ) (result : Option RemovedValue) (old new : Holding) (p : Passage Event) (acq : Acquires) (a c : Seat (Option S) (View Event)) (passes : Passes no_mint no_spend p a c) → acquires_of acq ≡ [] → ReclaimGives old new now result → PassageIs (is_some result) new.codec.history acq p
      → StandsAt s old passes.log → StandsAt s new (passes.log ++ (a.me.0.number, p) ∷ []) → ReclaimTells s now result a c
  tells_reclaim now (Some r) old new p acq a c passes none gives is st next = gave_in s old new (Entry.Reclaim now) r.place r.media r.coder [] p acq a c passes none gives is st next
  tells_reclaim now None old new p acq a c passes none gives is st next = record {
    looked = looked_in s p a c passes is st.legal;
    none = ap (λ (t : State). may_reclaim now t.control) (sym st.state) ∙ gives.0;
  }

  -- a look that tells what is so of the log
  pub saw : (P : Log Event → Type 0) (p : Passage Event) (a c : Seat (Option S) (View Event)) (passes : Passes no_mint no_spend p a c) → p ≡ Look → (h : Holding) → StandsAt s h passes.log → P passes.log → Saw s P a c
  saw P p a c passes is h st so = record { looked = looked_in s p a c passes is st.legal; is = so }
