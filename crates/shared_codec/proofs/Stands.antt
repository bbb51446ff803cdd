-- What the locked value stands for after one passage more.
use Rattle.std.proofs.Common.{ℕ, ◌≡◌, ◌+◌, ◌≤◌, arith, Bool, true, false, eqb, not, ◌&&◌, cond, List, [], ◌∷◌, ◌++◌, length, Option, Some, None, is_some, refl, ap, sym, subst, ◌∙◌}
use Rattle.std.specs.Prelude.{unwrap_or, option_map}
use Rattle.std.proofs.lemmas.List.Sums.{sum_by_push}
use Rattle.atomic_table.specs.Seated.{TableId}
use Rattle.atomic_table.specs.declared.shared.Seat.{Seat}
use Rattle.wc_base.specs.{Options.some_same, Views.Log}
use Rattle.wc_base.specs.declared.who.By.{By}
use Rattle.wc_base.specs.declared.who.By.TheVariants as by
use Rattle.wc_base.specs.declared.seat.Passage.{Passage}
use Rattle.wc_base.specs.declared.seat.Passage.TheVariants.{Made, Look}
use Rattle.wc_base.specs.declared.seat.View.{View}
use Rattle.wc_pool.specs.declared.reference.MediaRef.{MediaRef}
use Rattle.wc_config.specs.declared.codec.CoderId.{CoderId}
use Rattle.wc_config.specs.Configs.{coder_id_of, is_supported}
use Rattle.coder_api.specs.{Lent.Lent, Meaning.Stopped, declared.slot.SlotEntry.SlotEntry}
use Rattle.codec_model.specs.declared.entry.{Opening.Opening, Entry.Entry, Item.Item, Work.Work, Running.Running}
use Rattle.codec_model.specs.{Control.start_item, Held.in_order}
use Rattle.codec_model.specs.Replay.{State, Given, step, missing_coder, given_more}
use Rattle.codec_accounts.specs.Boxes.{Act, Asks, Begins, Ends, Holds, holds_by, holds_after_end, newer, MayCome, start_act, lacking, act_of, after, lets}
use Rattle.codec_accounts.specs.{Registry.Box, Codec.is_old, ActLaws.act_makes, ActLaws.ActMakes}
use Rattle.codec_core.specs.declared.out.Out.{Out}
use Rattle.codec_core.specs.Job.{JobValue, DoneValue, IsJobOf, IsEndOf, missing_id, missing_for, outcome_of, stopped_box, named_box, IsEnd}
use Rattle.codec_core.specs.Job as job
use Rattle.codec_core.specs.Codec.{Codec, state_at, Makes, item_parts, kept_box, handed_back, went_out, IsAskedAt, IsBy, IsBack}
use Rattle.codec_core.specs.Owning.{GoesBack}
use Rattle.codec_media.specs.Holding.{Holding, all_of}
use Rattle.seat_lock.specs.Logs.{Has, Continues}
use Rattle.seat_lock.specs.Claims.{HasClaim, spends_in}
use Rattle.seat_lock.specs.Passages.{Passes, Enters}
use Rattle.seat_lock.specs.Passages.{Leaves as LeavesLock}
use Rattle.seat_lock.specs.Own.{view_of_passage}
use Rattle.seat_lock.specs.Seats.{HasView, IsSameSeat, IsIdleAt, Sitting, after_passage}
use Rattle.codec_logs.specs.declared.event.Event.{Event}
use Rattle.codec_logs.specs.Logs.{entry_of, history_of, acquires_of, box_of, Track, opening_track, act_in, track_made, track, track_from, runner_by, IsOwn, AreAsked, AreTries, Tells, MayMake, IsLog, BoxIs, HomeIs, SameItem}
use Rattle.codec_logs.specs.LogLaws.{track_append, follows_more, follows_rest, item_stays, legal_log}
use Rattle.shared_pool.specs.Refs.{AreOf, IfOf}
use Rattle.shared_slots.specs.Boxes.{IfOut}
use Rattle.shared_codec.specs.Shared.{Shared, no_mint, no_spend, StandsFor, WentIs, IsLast, takes_place, places_in, MadeIn, LookedIn, MayEndAt, HasJobAt}
use Rattle.shared_codec.specs.Keeps.{Keeps}

-- ---- histories

pub history_more : (log : Log Event) (n : ℕ) (ev : Event) → history_of (log ++ (n, Made ev) ∷ []) ≡ history_of log ++ entry_of ev ∷ []
history_more [] n ev = refl
history_more ((m, Made e) ∷ ps) n ev = ap (λ (h : List Entry). entry_of e ∷ h) (history_more ps n ev)
history_more ((m, Look) ∷ ps) n ev = history_more ps n ev

pub history_look : (log : Log Event) (n : ℕ) → history_of (log ++ (n, Look) ∷ []) ≡ history_of log
history_look [] n = refl
history_look ((m, Made e) ∷ ps) n = ap (λ (h : List Entry). entry_of e ∷ h) (history_look ps n)
history_look ((m, Look) ∷ ps) n = history_look ps n

abbrev last_of : Entry → List Entry → Entry
last_of d [] = d
last_of d (x ∷ xs) = last_of x xs

last_is : (d : Entry) (xs : List Entry) (e : Entry) → last_of d (xs ++ e ∷ []) ≡ e
last_is d [] e = refl
last_is d (x ∷ xs) e = last_is x xs e

-- the last entry is the one that was made
pub event_is : (old new : Codec) (d e : Entry) → IsLast new.history d → Makes old new e → d ≡ e
event_is old new d e last makes = sym (last_is d last.0 d) ∙ (ap (last_of d) (sym last.1 ∙ makes.longer) ∙ last_is d old.history e)

places_more : (h : List Entry) (e : Entry) → places_in (h ++ e ∷ []) ≡ places_in h + cond (takes_place e) 1 0
places_more h e = sum_by_push (λ x. cond (takes_place x) 1 0) h e

-- no place is lost by an entry, but for one that the entry takes
abbrev pub Leaves : Codec → Codec → Entry → Type 0
Leaves old new e = old.spare ≤ new.spare + cond (takes_place e) 1 0

after_is : (e : Entry) (s t : State) → step e s ≡ Some t → after e s ≡ t
after_is e s t is = ap (λ (o : Option State). unwrap_or o s) is

pub same_places : (old new : Codec) (e : Entry) → new.spare ≡ old.spare → Leaves old new e
same_places old new e is = omega (arith, is)

wanted_is : (b : Bool) (wanted : Option CoderId) (id : CoderId) → cond b wanted None ≡ Some id → wanted ≡ Some id
wanted_is true wanted id h = h
wanted_is false wanted id h = absurd cc

-- a job lacks a box of the coder that the config asks for which it brings
lacking_asks : (w : Work) (coder : Option Lent) (id : CoderId) (before g : Given) → missing_for w coder ≡ Some id → given_more w before ≡ g → coder_id_of g.config ≡ Some id
lacking_asks (Work.Configure config) coder id before g lacks more =
    ap (λ (x : Given). coder_id_of x.config) (sym more) ∙ wanted_is (is_supported config && not (job.holds coder config)) (coder_id_of config) id lacks
lacking_asks (Work.Coded input) coder id before g lacks more = absurd cc
lacking_asks Work.Flush coder id before g lacks more = absurd cc

module _ (k : ℕ) (o : Opening) (calls : ℕ) (pool slots : TableId) where
  abbrev St : Holding → Log Event → Type 0
  St h log = StandsFor k o calls pool slots h log

  -- a look, by which nothing changed
  pub stands_look : (n : ℕ) (old new : Holding) (log : Log Event) → St old log → new.codec ≡ old.codec → AreOf pool (all_of new) → St new (log ++ (n, Look) ∷ [])
  stands_look n old new log st same held =
      let grown : track o (log ++ (n, Look) ∷ []) ≡ track o log = track_append (opening_track o) log ((n, Look) ∷ []) in
      record {
        legal = follows_more k (opening_track o) log ((n, Look) ∷ []) st.legal (tt, tt);
        opening = ap (λ (c : Codec). c.opening) same ∙ st.opening;
        history = ap (λ (c : Codec). c.history) same ∙ (st.history ∙ sym (history_look log n));
        state = ap state_at same ∙ (st.state ∙ sym (ap (λ (x : Track). x.state) grown));
        box = subst (λ (x : Track). HomeIs k x.holds.runs x.holds.since x.holds.box new.codec.slot) (sym grown) (subst (λ (c : Codec). HomeIs k (track o log).holds.runs (track o log).holds.since (track o log).holds.box c.slot) (sym same) st.box);
        out = subst (λ (c : Codec). IfOut slots c.slot) (sym same) st.out;
        held = held;
        went = subst (λ (x : Track). x.holds.runs ≡ true → WentIs k x.holds new.codec.out) (sym grown) (subst (λ (c : Codec). (track o log).holds.runs ≡ true → WentIs k (track o log).holds c.out) (sym same) st.went);
        room = (let kept = st.room in let spare = ap (λ (c : Codec). c.spare) same in let all = ap places_in (history_look log n) in omega (arith, kept, spare, all));
      }

  -- an event that may come
  pub stands_made : (n : ℕ) (old new : Holding) (ev : Event) (log : Log Event) (a : Act) (b : Option Box) → St old log → Makes old.codec new.codec (entry_of ev)
      → act_of (entry_of ev) (state_at old.codec) ≡ a → box_of (acquires_of ev.acquires) ≡ b
      → IsOwn a n (track o log).runner → MayCome a b (track o log).holds → Tells k a (acquires_of ev.acquires) (track o log).holds
      → HomeIs k (holds_by a b (track o log).holds).runs (holds_by a b (track o log).holds).since (holds_by a b (track o log).holds).box new.codec.slot
      → ((holds_by a b (track o log).holds).runs ≡ true → WentIs k (holds_by a b (track o log).holds) new.codec.out)
      → IfOut slots new.codec.slot → AreOf pool (all_of new) → Leaves old.codec new.codec (entry_of ev) → St new (log ++ (n, Made ev) ∷ [])
  stands_made n old new ev log a b st m is box own may tells home went out held places =
      let x : Track = track o log in
      let e : Entry = entry_of ev in
      let act : act_in ev x ≡ a = ap (act_of e) (sym st.state) ∙ is in
      let moved : after e (state_at old.codec) ≡ state_at new.codec = after_is e (state_at old.codec) (state_at new.codec) m.steps in
      let more : MayMake k n ev x = record {
        legal = subst (λ (t : State). step e t ≡ Some (after e t)) st.state (m.steps ∙ ap Some (sym moved));
        own = subst (λ (z : Act). IsOwn z n x.runner) (sym act) own;
        box = subst (λ (z : Act × Option Box). MayCome z.0 z.1 x.holds) (λ i. (sym act i, sym box i)) may;
        acquires = subst (λ (z : Act). Tells k z (acquires_of ev.acquires) x.holds) (sym act) tells;
      } in
      let grown : track o (log ++ (n, Made ev) ∷ []) ≡ track_made n ev x = track_append (opening_track o) log ((n, Made ev) ∷ []) in
      record {
        legal = follows_more k (opening_track o) log ((n, Made ev) ∷ []) st.legal (more, tt);
        opening = m.same_opening ∙ st.opening;
        history = m.longer ∙ (ap (λ (h : List Entry). h ++ e ∷ []) st.history ∙ sym (history_more log n ev));
        state = sym moved ∙ (ap (after e) st.state ∙ sym (ap (λ (z : Track). z.state) grown));
        box = subst (λ (z : Track). HomeIs k z.holds.runs z.holds.since z.holds.box new.codec.slot) (sym grown)
            (subst (λ (z : Act × Option Box). HomeIs k (holds_by z.0 z.1 x.holds).runs (holds_by z.0 z.1 x.holds).since (holds_by z.0 z.1 x.holds).box new.codec.slot) (λ i. (sym act i, sym box i)) home);
        out = out;
        held = held;
        went = subst (λ (z : Track). z.holds.runs ≡ true → WentIs k z.holds new.codec.out) (sym grown)
            (subst (λ (z : Act × Option Box). (holds_by z.0 z.1 x.holds).runs ≡ true → WentIs k (holds_by z.0 z.1 x.holds) new.codec.out) (λ i. (sym act i, sym box i)) went);
        room = (let kept = st.room in let all = ap places_in (history_more log n ev) in let one = places_more (history_of log) e in omega (arith, kept, places, all, one));
      }

-- ---- what a passage tells

abbrev pub StandsAt : Shared → Holding → Log Event → Type 0
StandsAt s h log = StandsFor s.codec s.opening s.calls s.pool s.slots h log

-- a codec has no claims
pub nothing_spent : (log : Log Event) (p : Passage Event) (claims : List ℕ) → HasClaim (spends_in no_mint no_spend log p) claims
nothing_spent log (Made e) claims = tt
nothing_spent log Look claims = tt

-- who enters and leaves makes a passage
abbrev pub passes_in : {S : Type 0} (tells : S → Log Event → Type 0) (value : S) (p : Passage Event) (a b c : Seat (Option S) (View Event)) → Enters no_mint no_spend tells value a b → LeavesLock no_mint no_spend p b c → Passes no_mint no_spend p a c
passes_in tells value p a b c enters leaves = record {
  log = enters.log;
  continues = enters.continues;
  has_number = enters.has_number;
  live = enters.live;
  view = view_of_passage no_mint no_spend p enters.log a b c enters.goes_in leaves;
}

pub keeps_passage : {S : Type 0} (id : TableId) (p : Passage Event) (a c : Seat (Option S) (View Event)) → Passes no_mint no_spend p a c → IsIdleAt id a → IsSameSeat a c → Keeps id a c
keeps_passage {S} id p a c m idle same = record {
  same = same;
  idle = (same.0 ∙ idle.0, (ap (λ (x : Sitting S Event). x.0.phase) m.view, ap (λ (x : Sitting S Event). x.1) m.view));
  number = ap (λ (x : Sitting S Event). x.0.number) m.view;
  numbers = ap (λ (x : Sitting S Event). x.0.numbers) m.view;
  parts = ap (λ (x : Sitting S Event). x.0.parts) m.view;
}

module _ {S : Type 0} (s : Shared) where
  abbrev pub made_in : (e : Entry) (acquires : List SlotEntry) (p : Passage Event) (ev : Event) (new : Holding) (a c : Seat (Option S) (View Event)) (passes : Passes no_mint no_spend p a c)
      → p ≡ Made ev → entry_of ev ≡ e → acquires_of ev.acquires ≡ acquires → IsLog s.codec s.opening passes.log → StandsAt s new (passes.log ++ (a.me.0.number, p) ∷ []) → MadeIn s e acquires a c
  made_in e acquires p ev new a c passes is entry_is asks before st = record {
    event = ev;
    entry_is = entry_is;
    acquires_are = asks;
    passes = record { log = passes.log; continues = passes.continues; has_number = passes.has_number; live = passes.live; view = subst (λ (q : Passage Event). HasView (after_passage no_mint no_spend a.me.0 passes.log q) c) is passes.view };
    before = before;
    legal = subst (λ (l : Log Event). IsLog s.codec s.opening l) (sym (ap (λ (m : Sitting S Event). m.0.log) passes.view)) st.legal;
  }

  abbrev pub looked_in : (p : Passage Event) (a c : Seat (Option S) (View Event)) (passes : Passes no_mint no_spend p a c) → p ≡ Look → IsLog s.codec s.opening passes.log → LookedIn s a c
  looked_in p a c passes is legal = record {
    passes = record { log = passes.log; continues = passes.continues; has_number = passes.has_number; live = passes.live; view = subst (λ (q : Passage Event). HasView (after_passage no_mint no_spend a.me.0 passes.log q) c) is passes.view };
    legal = legal;
  }

-- ---- which box went out

box_named : (k : ℕ) (since : Option ℕ) (box : Option Box) (coder : Option Lent) → BoxIs k since box coder → BoxIs k since box (named_box coder)
box_named k since box None is = is
box_named k since box (Some lent) is = record { place = is.place; asked = is.asked; box_is = is.box_is; cause = is.cause }

named_twice : (coder : Option Lent) → named_box (named_box coder) ≡ named_box coder
named_twice None = refl
named_twice (Some lent) = refl

-- two boxes of which the accounts say the same are one
same_named : (k : ℕ) (since : Option ℕ) (box : Option Box) (a b : Option Lent) → BoxIs k since box a → BoxIs k since box b → named_box a ≡ named_box b
same_named k since box None None x y = refl
same_named k since box None (Some b) x y = absurd (let bad = sym x ∙ y.box_is in cc)
same_named k since box (Some a) None x y = absurd (let bad = sym y ∙ x.box_is in cc)
same_named k since box (Some a) (Some b) x y =
    let places : Some x.place ≡ Some y.place = sym x.asked ∙ y.asked in
    let same : x.place ≡ y.place = cc in
    let boxes = sym x.box_is ∙ y.box_is in
    let one = some_same (record { id = a.id; number = a.number }) (record { id = b.id; number = b.number }) boxes in
    let cause : a.by ≡ b.by = x.cause ∙ (ap (λ (p : ℕ). by.Codec k p) same ∙ sym y.cause) in
    (λ i. Some (record { id = (one i).id; meaning = Stopped; number = (one i).number; by = cause i; token = None }))

is_asked : (k : ℕ) (since : Option ℕ) (box : Option Box) (coder : Option Lent) → BoxIs k since box coder → IsAskedAt since coder
is_asked k since box None is = tt
is_asked k since box (Some lent) is = subst (λ (c : By). IsBy c since) (sym is.cause) is.asked

-- the box that comes back is the one that went out, or was asked for by the start
is_back : (k : ℕ) (h : Holds Box) (out : Out) (came : Option Box) (coder : Option Lent) → WentIs k h out → (is_some came ≡ true → (h.waits ≡ true) × (h.box ≡ None)) → BoxIs k h.since (newer came h.box) coder → IsBack out coder
is_back k h (Out.With box) None coder went may is = same_named k h.since h.box coder box is went.1 ∙ went.2
is_back k h (Out.With box) (Some b) coder went may is = absurd (let waits = (may refl).0 in let not_so = went.0 in cc)
is_back k h (Out.Asked place) came coder went may is = subst (λ (at : Option ℕ). IsAskedAt at coder) went (is_asked k h.since (newer came h.box) coder is)

-- ---- a start

lacking_is : (o : Option Item) (n : ℕ) (w : Work) (g : Given) → option_map item_parts o ≡ Some (n, w) → lacking g o ≡ missing_coder g w
lacking_is None n w g is = absurd cc
lacking_is (Some i) n w g is =
    let pair : item_parts i ≡ (n, w) = cc in
    ap (missing_coder g) (ap (λ (z : ℕ × Work). z.1) pair)

none_of : (o : Option ℕ) → is_some o ≡ false → o ≡ None
none_of None h = refl
none_of (Some x) h = absurd cc

idle_by : (m : Option CoderId) (t u : State) → ActMakes (start_act m) t u → t.control.running ≡ None
idle_by None t u makes = makes.idle
idle_by (Some id) t u makes = makes.0.idle

module _ (k : ℕ) (o : Opening) (calls : ℕ) (pool slots : TableId) where
  abbrev Ss : Holding → Log Event → Type 0
  Ss h log = StandsFor k o calls pool slots h log

  -- what a start finds: nothing is at work
  pub record Idle (log : Log Event) : Type 0 where
    pub runner : (track o log).runner ≡ None
    pub runs : (track o log).holds.runs ≡ false

  pub start_act_is : (old : Holding) (job : JobValue) → option_map item_parts (start_item (state_at old.codec).control) ≡ Some (job.number, job.work) → missing_id job ≡ missing_coder (state_at old.codec).given job.work
      → act_of (Entry.Start job.epoch job.number) (state_at old.codec) ≡ start_act (missing_id job)
  start_act_is old job item lacks = ap start_act (lacking_is (start_item (state_at old.codec).control) job.number job.work (state_at old.codec).given item ∙ sym lacks)

  pub start_idle : (old new : Holding) (job : JobValue) (log : Log Event) → Ss old log → Makes old.codec new.codec (Entry.Start job.epoch job.number) → act_of (Entry.Start job.epoch job.number) (state_at old.codec) ≡ start_act (missing_id job) → Idle log
  start_idle old new job log st m act =
      let makes = subst (λ (a : Act). ActMakes a (state_at old.codec) (state_at new.codec)) act (act_makes (Entry.Start job.epoch job.number) (state_at old.codec) (state_at new.codec) m.steps) in
      let idle = idle_by (missing_id job) (state_at old.codec) (state_at new.codec) makes in
      let legal = legal_log k o log st.legal in
      let runs : (track o log).holds.runs ≡ false = legal.runs ∙ (ap (λ (t : State). is_some t.control.running) (sym st.state) ∙ ap is_some idle) in
      record { runner = none_of (track o log).runner (legal.runner ∙ runs); runs = runs }

  start_own : (m : Option CoderId) (n : ℕ) (x : Track) → x.runner ≡ None → IsOwn (start_act m) n x.runner
  start_own None n x h = h
  start_own (Some id) n x h = h

  start_may : (m : Option CoderId) (h : Holds Box) → h.runs ≡ false → MayCome (start_act m) None h
  start_may None h is = (is, refl)
  start_may (Some id) h is = is

  start_tells : (m : Option CoderId) (es : List SlotEntry) (h : Holds Box) → es ≡ [] → Tells k (start_act m) es h
  start_tells None es h is = is
  start_tells (Some id) es h is = is

  start_went : (m : Option CoderId) (h : Holds Box) (place : ℕ) (coder : Option Lent) (out : Out) → out ≡ went_out (is_some m) place coder → h.place ≡ place → BoxIs k h.since h.box coder → (holds_by (start_act m) None h).runs ≡ true → WentIs k (holds_by (start_act m) None h) out
  start_went None h place coder out is at box = λ runs. subst (λ (z : Out). WentIs k (holds_by Begins None h) z) (sym is) (refl, box_named k h.since h.box coder box, named_twice coder)
  start_went (Some id) h place coder out is at box = λ runs. subst (λ (z : Out). WentIs k (holds_by (Asks id) None h) z) (sym is) (ap Some at)

  start_home : (m : Option CoderId) (h : Holds Box) (coder : Option Lent) → coder ≡ None → HomeIs k (holds_by (start_act m) None h).runs (holds_by (start_act m) None h).since (holds_by (start_act m) None h).box coder
  start_home None h coder is = is
  start_home (Some id) h coder is = is

  pub home_box : (h : Holds Box) (coder : Option Lent) → h.runs ≡ false → HomeIs k h.runs h.since h.box coder → BoxIs k h.since h.box coder
  home_box h coder is home = subst (λ (z : Bool). HomeIs k z h.since h.box coder) is home

  pub stands_start : (n : ℕ) (old new : Holding) (ev : Event) (job : JobValue) (log : Log Event) → Ss old log → Makes old.codec new.codec (Entry.Start job.epoch job.number) → entry_of ev ≡ Entry.Start job.epoch job.number → acquires_of ev.acquires ≡ []
      → act_of (Entry.Start job.epoch job.number) (state_at old.codec) ≡ start_act (missing_id job) → new.codec.slot ≡ None → new.codec.out ≡ went_out (is_some (missing_id job)) job.place job.coder → job.coder ≡ old.codec.slot → job.place ≡ length old.codec.history
      → AreOf pool (all_of new) → new.codec.spare ≡ old.codec.spare → Ss new (log ++ (n, Made ev) ∷ [])
  stands_start n old new ev job log st m eq none act slot out coder place held spare =
      let idle = start_idle old new job log st m act in
      let at : (track o log).holds.place ≡ job.place = (legal_log k o log st.legal).place ∙ (ap length (sym st.history) ∙ sym place) in
      let box : BoxIs k (track o log).holds.since (track o log).holds.box job.coder = subst (λ (z : Option Lent). BoxIs k (track o log).holds.since (track o log).holds.box z) (sym coder) (home_box (track o log).holds old.codec.slot idle.runs st.box) in
      stands_made k o calls pool slots n old new ev log (start_act (missing_id job)) None st (subst (λ (e : Entry). Makes old.codec new.codec e) (sym eq) m)
      (ap (λ (e : Entry). act_of e (state_at old.codec)) eq ∙ act) (ap box_of none)
      (start_own (missing_id job) n (track o log) idle.runner) (start_may (missing_id job) (track o log).holds idle.runs) (start_tells (missing_id job) (acquires_of ev.acquires) (track o log).holds none)
      (start_home (missing_id job) (track o log).holds new.codec.slot slot) (start_went (missing_id job) (track o log).holds job.place job.coder new.codec.out out at box) (subst (λ (z : Option Lent). IfOut slots z) (sym slot) tt) held (same_places old.codec new.codec (entry_of ev) spare)

  -- what its seat has then
  pub has_job : (n : ℕ) (old new : Holding) (ev : Event) (job : JobValue) (log : Log Event) → Ss old log → Makes old.codec new.codec (Entry.Start job.epoch job.number) → entry_of ev ≡ Entry.Start job.epoch job.number → acquires_of ev.acquires ≡ []
      → act_of (Entry.Start job.epoch job.number) (state_at old.codec) ≡ start_act (missing_id job) → job.coder ≡ old.codec.slot → job.place ≡ length old.codec.history → IsJobOf (state_at new.codec) job
      → Ss new (log ++ (n, Made ev) ∷ []) → HasJobAt k o slots n (log ++ (n, Made ev) ∷ []) job
  has_job n old new ev job log st m eq none act coder place is next =
      let x : Track = track o log in
      let idle = start_idle old new job log st m act in
      let here : act_in ev x ≡ start_act (missing_id job) = (λ i. act_of (eq i) (sym st.state i)) ∙ act in
      let grown : track o (log ++ (n, Made ev) ∷ []) ≡ track_made n ev x = track_append (opening_track o) log ((n, Made ev) ∷ []) in
      let box : box_of (acquires_of ev.acquires) ≡ None = ap box_of none in
      let runner : (track o (log ++ (n, Made ev) ∷ [])).runner ≡ runner_by (start_act (missing_id job)) n x.runner = ap (λ (z : Track). z.runner) grown ∙ ap (λ (a : Act). runner_by a n x.runner) here in
      let holds : (track o (log ++ (n, Made ev) ∷ [])).holds ≡ holds_by (start_act (missing_id job)) None x.holds = ap (λ (z : Track). z.holds) grown ∙ (λ i. holds_by (here i) (box i) x.holds) in
      let at : x.holds.place ≡ job.place = (legal_log k o log st.legal).place ∙ (ap length (sym st.history) ∙ sym place) in
      let home : BoxIs k x.holds.since x.holds.box job.coder = subst (λ (z : Option Lent). BoxIs k x.holds.since x.holds.box z) (sym coder) (home_box x.holds old.codec.slot idle.runs st.box) in
      record {
        runner = runner ∙ runs_by (missing_id job);
        runs = ap (λ (h : Holds Box). h.runs) holds ∙ busy_by (missing_id job);
        job_is = subst (λ (t : State). IsJobOf t job) next.state is;
        has = λ lacks. subst (λ (h : Holds Box). BoxIs k h.since h.box job.coder) (sym holds) (has_by (missing_id job) lacks home);
        asked = ap (λ (h : Holds Box). cond h.waits (coder_id_of (track o (log ++ (n, Made ev) ∷ [])).state.running_given.config) None) holds
            ∙ asked_by (missing_id job) (coder_id_of (track o (log ++ (n, Made ev) ∷ [])).state.running_given.config) (λ id lacks. lacking_asks job.work job.coder id is.given.before (track o (log ++ (n, Made ev) ∷ [])).state.running_given lacks (is.given.more ∙ ap (λ (t : State). t.running_given) next.state));
        asks = λ some. subst (λ (h : Holds Box). (h.waits ≡ true) × (h.since ≡ Some job.place) × (h.box ≡ None)) (sym holds) (asks_by (missing_id job) some at);
        out = subst (λ (z : Option Lent). IfOut slots z) (sym coder) st.out;
      }
    where
      runs_by : (m : Option CoderId) → runner_by (start_act m) n (track o log).runner ≡ Some n
      runs_by None = refl
      runs_by (Some id) = refl

      asked_by : (m : Option CoderId) (wanted : Option CoderId) → ((id : CoderId) → m ≡ Some id → wanted ≡ Some id) → cond (holds_by (start_act m) None (track o log).holds).waits wanted None ≡ m
      asked_by None wanted f = refl
      asked_by (Some id) wanted f = f id refl

      busy_by : (m : Option CoderId) → (holds_by (start_act m) None (track o log).holds).runs ≡ true
      busy_by None = refl
      busy_by (Some id) = refl

      has_by : (m : Option CoderId) → m ≡ None → BoxIs k (track o log).holds.since (track o log).holds.box job.coder → BoxIs k (holds_by (start_act m) None (track o log).holds).since (holds_by (start_act m) None (track o log).holds).box job.coder
      has_by None lacks home = home
      has_by (Some id) lacks home = absurd cc

      asks_by : (m : Option CoderId) → is_some m ≡ true → (track o log).holds.place ≡ job.place → ((holds_by (start_act m) None (track o log).holds).waits ≡ true) × ((holds_by (start_act m) None (track o log).holds).since ≡ Some job.place) × ((holds_by (start_act m) None (track o log).holds).box ≡ None)
      asks_by None some at = absurd cc
      asks_by (Some id) some at = (refl, ap Some at, refl)

-- ---- the end of an item

end_stays : (s t : State) (d : DoneValue) → t.control.running ≡ s.control.running → t.running_given ≡ s.running_given → IsEndOf s d → IsEndOf t d
end_stays s t d running given e = record {
  running = e.running;
  is_running = running ∙ e.is_running;
  same_epoch = e.same_epoch;
  same_number = e.same_number;
  same_kind = e.same_kind;
  end = subst (λ (g : Given). IsEnd g d) (sym given) e.end;
}

asked_stays : (k : ℕ) (es : List SlotEntry) (x y : Holds Box) → y.waits ≡ x.waits → y.since ≡ x.since → AreAsked k es x → AreAsked k es y
asked_stays k [] x y waits since a = tt
asked_stays k (e ∷ es) x y waits since a = ((a.0.0, waits ∙ a.0.1, since ∙ a.0.2, a.0.3), asked_stays k es x y waits since a.1)

-- what is at work stays so after passages of others
pub ends_later : (k : ℕ) (o : Opening) (slots : TableId) (n : ℕ) (numbers : List ℕ) (seen log : Log Event) (d : DoneValue) (es : List SlotEntry) → Has n numbers → Continues numbers seen log → IsLog k o log → MayEndAt k o slots n seen d es → MayEndAt k o slots n log d es
ends_later k o slots n numbers seen log d es has goes legal may =
    let x : Track = track o seen in
    let rest = follows_rest k (opening_track o) seen goes.more (subst (λ (l : Log Event). IsLog k o l) goes.is legal) in
    let now : track o log ≡ track_from x goes.more = ap (track o) goes.is ∙ track_append (opening_track o) seen goes.more in
    let same : SameItem x (track o log) = subst (λ (y : Track). SameItem x y) (sym now) (item_stays k n numbers x goes.more may.runner may.runs has goes.by_others rest) in
    record {
      runner = same.runner ∙ may.runner;
      runs = same.runs ∙ may.runs;
      end = end_stays x.state (track o log).state d same.running same.given may.end;
      may = λ some. (let z = may.may some in (same.waits ∙ z.0, same.box ∙ z.1));
      box = subst (λ (z : Option ℕ × Option Box). BoxIs k z.0 (newer (box_of es) z.1) d.coder) (λ i. (sym same.since i, sym same.box i)) may.box;
      asked = asked_stays k es x.holds (track o log).holds same.waits same.since may.asked;
      tries = may.tries;
      out = may.out;
    }

pub out_stopped : (slots : TableId) (coder : Option Lent) → IfOut slots coder → IfOut slots (stopped_box coder)
out_stopped slots None out = tt
out_stopped slots (Some lent) out = record { token = out.token; view = out.view; claim = out.claim; has = out.has; ours = out.ours; is_token = out.is_token; bare = out.bare; weightless = out.weightless; claims = out.claims; out = record { holder = out.out.holder; last = out.out.last } }

pub out_kept : (slots : TableId) (b : Bool) (coder : Option Lent) → IfOut slots coder → IfOut slots (kept_box b coder)
out_kept slots true coder out = out
out_kept slots false coder out = tt

pub out_back : (slots : TableId) (b : Bool) (coder : Option Lent) → IfOut slots coder → IfOut slots (handed_back b coder)
out_back slots true coder out = tt
out_back slots false coder out = out_stopped slots coder out

home_end : (k : ℕ) (b : Option Box) (h : Holds Box) (coder : Option Lent) (old current : Bool) → old ≡ not current → BoxIs k h.since (newer b h.box) coder
    → HomeIs k (holds_after_end old b h).runs (holds_after_end old b h).since (holds_after_end old b h).box (kept_box current coder)
home_end k b h coder true true is box = absurd cc
home_end k b h coder true false is box = refl
home_end k b h coder false true is box = box
home_end k b h coder false false is box = absurd cc

-- after the end nothing is at work
none_runs : (k : ℕ) (old : Bool) (b : Option Box) (h : Holds Box) (out : Out) → (holds_after_end old b h).runs ≡ true → WentIs k (holds_after_end old b h) out
none_runs k true b h out runs = absurd cc
none_runs k false b h out runs = absurd cc

pub are_split : (pool : TableId) (a b : List MediaRef) → AreOf pool (a ++ b) → AreOf pool a × AreOf pool b
are_split pool [] b h = (tt, h)
are_split pool (r ∷ rs) b h = let t = are_split pool rs b h.1 in ((h.0, t.0), t.1)

pub are_both : (pool : TableId) (a b : List MediaRef) → AreOf pool a → AreOf pool b → AreOf pool (a ++ b)
are_both pool [] b one other = other
are_both pool (r ∷ rs) b one other = (one.0, are_both pool rs b one.1 other)

pub if_of : (pool : TableId) (r : Option MediaRef) → AreOf pool (in_order r) → IfOf pool r
if_of pool None h = tt
if_of pool (Some r) h = h.0

pub goes_in : (c d : Codec) (at : ℕ) (coder : Option Lent) → d.opening ≡ c.opening → d.history ≡ c.history → GoesBack c at coder → GoesBack d at coder
goes_in c d at None same longer goes = tt
goes_in c d at (Some lent) same longer goes = (goes.0, goes.1, (λ i. lets (same i) (longer i) goes.0) ∙ goes.2)

module _ (k : ℕ) (o : Opening) (calls : ℕ) (pool slots : TableId) where
  abbrev Sd : Holding → Log Event → Type 0
  Sd h log = StandsFor k o calls pool slots h log

  -- what the end of an item asks of the codec
  pub end_now : (n : ℕ) (old : Holding) (log : Log Event) (d : DoneValue) (es : List SlotEntry) → Sd old log → MayEndAt k o slots n log d es → IsEndOf (state_at old.codec) d × IsBack old.codec.out d.coder
  end_now n old log d es st may = (
    subst (λ (t : State). IsEndOf t d) (sym st.state) may.end,
    is_back k (track o log).holds old.codec.out (box_of es) d.coder (st.went may.runs) may.may may.box,
  )

  pub stands_done : (n : ℕ) (old new : Holding) (ev : Event) (d : DoneValue) (es : List SlotEntry) (moment : ℕ) (log : Log Event) → Sd old log → MayEndAt k o slots n log d es → Makes old.codec new.codec (Entry.Done d.epoch d.number moment (outcome_of d.ended)) → entry_of ev ≡ Entry.Done d.epoch d.number moment (outcome_of d.ended)
      → acquires_of ev.acquires ≡ es → new.codec.slot ≡ kept_box (eqb d.epoch (state_at old.codec).control.epoch) d.coder → new.working ≡ None → new.waiting ≡ old.waiting → new.codec.spare ≡ old.codec.spare → Sd new (log ++ (n, Made ev) ∷ [])
  stands_done n old new ev d es moment log st may m eq asks slot working waiting spare =
      let x : Track = track o log in
      let legal = legal_log k o log st.legal in
      let current : Bool = eqb d.epoch (state_at old.codec).control.epoch in
      let old_is : x.holds.old ≡ not current =
      legal.old
      ∙ (ap (λ (r : Option Running). is_old r x.state.control.epoch) may.end.is_running
      ∙ (λ i. not (eqb (may.end.same_epoch i) (sym st.state i).control.epoch))) in
      stands_made k o calls pool slots n old new ev log Ends (box_of es) st (subst (λ (e : Entry). Makes old.codec new.codec e) (sym eq) m)
      (ap (λ (e : Entry). act_of e (state_at old.codec)) eq) (ap box_of asks)
      may.runner (may.runs, may.may) (subst (λ (l : List SlotEntry). AreAsked k l x.holds × AreTries l) (sym asks) (may.asked, may.tries))
      (subst (λ (z : Option Lent). HomeIs k (holds_after_end x.holds.old (box_of es) x.holds).runs (holds_after_end x.holds.old (box_of es) x.holds).since (holds_after_end x.holds.old (box_of es) x.holds).box z) (sym slot) (home_end k (box_of es) x.holds d.coder x.holds.old current old_is may.box))
      (none_runs k x.holds.old (box_of es) x.holds new.codec.out)
      (subst (λ (z : Option Lent). IfOut slots z) (sym slot) (out_kept slots current d.coder may.out))
      (subst (λ (l : List MediaRef). AreOf pool l) (λ i. in_order (sym working i) ++ sym waiting i) (are_split pool (in_order old.working) old.waiting st.held).1) (same_places old.codec new.codec (entry_of ev) spare)
