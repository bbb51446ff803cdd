-- Steps of a codec that keeps no history: where it stands after each, and where its box is.
use Rattle.std.proofs.Common.{ℕ, ◌≡◌, ◌+◌, ◌≤◌, ◌<◌, ◌&&◌, not, Bool, true, false, eqb, cond, List, [], ◌∷◌, ◌++◌, drop, length-append, Option, Some, None, is_none, refl, ap, sym, subst, eq-eqb, ◌∙◌, arith}
use Rattle.std.specs.Prelude.{unwrap_or, max, IfNone, option_and_then}
use Rattle.std.proofs.lemmas.Bool.{and_parts, eqb-true, eqb-false, not-true}
use Rattle.wc_base.specs.{Options.cond_is, Options.some_same, declared.error.DomError.DomError, declared.who.Who.Who}
use Rattle.codec_definitions.specs.declared.unit.Unit as media
use Rattle.coder_api.specs.Lent.{Lent}
use Rattle.wc_config.specs.{declared.config.Config.Config, Configs.coder_id_of}
use Rattle.codec_model.specs.declared.entry.{Opening.Opening, Call.Call, Entry.Entry, Shown.Shown}
use Rattle.codec_model.specs.declared.entry.{Handed.Handed, Work.Work, Item.Item, Running.Running, Task.Task, Ended.Ended}
use Rattle.codec_model.specs.ShownLaws.{replay_more, each_more}
use Rattle.codec_model.specs.Shown.{each_shown, shown_at, call_shows, reclaim_shows, turn_shows, turn_word, exception_of}
use Rattle.codec_model.specs.Control.{Control, process, with_message, at_next_place, is_close, turn_closes, run_task, run_front, kind_of, after_done, done_running, after_end, after_turn, after_close, after_reset, may_reclaim, front, may_start, start_item, after_start, after_take, after_ground}
use Rattle.codec_model.specs.Replay.{State, Given, missing_coder, opening_state, step, with_control, removed, after_call, call_error, may_call, message_of, removes, accepted, config_asked, coder_wanted, serves_too}
use Rattle.codec_model.specs.StepLaws.{by_items, begun, start_made, asked, call_sends, senders_stay}
use Rattle.codec_live.specs.Job.{DoneValue, missing_for, CoderAt, CoderFor, StillAt, IsEndOf, IsJobOf, outcome_of, holds}
use Rattle.codec_live.specs.Live.{Live, CoderHome, StandsAfter, GoesFrom, state_after, nothing_shown, kept_box}

-- what processing leaves as it is
pub record Rest : Type 0 where
  pub running : Option Running
  pub halted : Bool
  pub epoch : ℕ
  pub place : ℕ
  pub opening : Opening

abbrev pub rest_of : Control → Rest
rest_of c = record { running = c.running; halted = c.halted; epoch = c.epoch; place = c.place; opening = c.opening }

process_keeps : (s : Control) → rest_of (process s) ≡ rest_of s
process_keeps s = by_items (λ c. rest_of c ≡ rest_of s) (λ m ms c blocked saturated scheduled event size few e h. h) s.messages s refl refl

pub queued_keeps : (place : ℕ) (w : Work) (s : Control) → rest_of (with_message place w s) ≡ rest_of s
queued_keeps place w s = process_keeps (record s { messages = s.messages ++ record { place = place; work = w } ∷ [] })

pub run_keeps : (t : Task) (s : Control) → is_close t ≡ false → rest_of (run_task t s) ≡ rest_of s
run_keeps Task.Process s h = process_keeps s
run_keeps Task.Desaturate s h = process_keeps (record s { saturated = false })
run_keeps (Task.Close x) s h = absurd cc
run_keeps _ s h = refl

-- the control state with this of it
abbrev pub with_rest : Rest → Control → Control
with_rest r c = record c { running = r.running; halted = r.halted; epoch = r.epoch; place = r.place; opening = r.opening }

-- what a step leaves: the box is at home, at the next place
pub record Leaves (slot : Option Lent) (s t : State) (r : Rest) : Type 0 where
  pub home : CoderHome slot (with_control (with_rest r t.control) t)
  pub next_place : r.place ≡ s.control.place + 1
  pub same_opening : r.opening ≡ s.control.opening

-- a legal step to a control state, with the box at home there
pub record Moved (slot : Option Lent) (e : Entry) (s : State) (k : Control) : Type 0 where
  pub after : State
  pub steps : step e s ≡ Some after
  pub is_control : after.control ≡ k
  pub leaves : Leaves slot s after (rest_of k)

moved_to : {slot : Option Lent} {e : Entry} {s : State} (t : State) (r : Rest) → rest_of t.control ≡ r → step e s ≡ Some t → Leaves slot s t r → Moved slot e s t.control
moved_to {slot = slot} {e = e} {s = s} t r same steps leaves = record { after = t; steps = steps; is_control = refl; leaves = subst (Leaves slot s t) (sym same) leaves }

-- an entry at which the running item and the epoch stay
moved_by : (slot : Option Lent) (e : Entry) (s : State) (k : Control) → rest_of k ≡ rest_of (at_next_place s.control) → step e s ≡ Some (with_control k s) → CoderHome slot s → Moved slot e s k
moved_by slot e s k same steps home = moved_to (with_control k s) _ same steps (record {
  home = record { idle = home.idle; out = home.out; busy = home.busy; stale = home.stale; older = home.older };
  next_place = refl;
  same_opening = refl;
})

-- a removal begins a new epoch, with no box at home
removed_moved : (slot : Option Lent) (e : Entry) (s : State) (k : Control) → rest_of k ≡ rest_of (record (at_next_place s.control) { epoch = s.control.epoch + 1; halted = false }) → step e s ≡ Some (removed k s) → CoderHome slot s → Moved None e s k
removed_moved slot e s k same steps home = moved_to (removed k s) _ same steps (record {
  home = record { idle = λ _ _. refl; out = λ r i. refl; busy = λ r i o. absurd (omega (arith, home.older r i, o)); stale = λ r i l. refl; older = λ r i. omega (arith, home.older r i) };
  next_place = refl;
  same_opening = refl;
})

turn_moved : (slot : Option Lent) (s : State) (ts : List Task) (b : Bool) → s.control.tasks ≡ ts → turn_closes ts ≡ Some b → CoderHome slot s → Moved (kept_box (not b) slot) Entry.Turn s (after_turn s.control)
turn_moved slot s [] b e h home = absurd cc
turn_moved slot s (Task.Close x ∷ ts) true e h home =
    let m = removed_moved slot Entry.Turn s (run_front (at_next_place s.control)) (rw e refl) (rw e refl) home in
    rw e (rw e at m)
turn_moved slot s (Task.Close x ∷ ts) false e h home = absurd cc
turn_moved slot s (t ∷ ts) true e h home = absurd cc
turn_moved slot s (t ∷ ts) false e h home =
    moved_by slot Entry.Turn s (after_turn s.control) (rw e (run_keeps t (record (at_next_place s.control) { tasks = ts }) refl)) (rw e refl) home

-- ---- a start

-- what a start needs: a codec that may start, and the item at the front
abbrev pub CanStart : Control → Item → Type 0
CanStart c i = (may_start c ≡ true) × (c.work ≡ i ∷ drop 1 c.work)

front_is : (is : List Item) (i : Item) → front is ≡ Some i → is ≡ i ∷ drop 1 is
front_is [] i e = absurd cc
front_is (j ∷ rest) i e = cc

pub can_start : (c : Control) (i : Item) → start_item c ≡ Some i → CanStart c i
can_start c i h = let k = cond_is (may_start c) (front c.work) i h in (k.0, front_is c.work i k.1)

pub starts : (s : State) (i : Item) (can : CanStart s.control i) → step (Entry.Start s.control.epoch i.number) s ≡ Some (begun (i ∷ drop 1 s.control.work) i s)
starts s i can = start_made i (drop 1 s.control.work) s.control.epoch i.number s can.1 (rw (can.0, eq-eqb s.control.epoch s.control.epoch refl, eq-eqb i.number i.number refl) refl)

-- the box at home of an idle codec was given all that was given
home_idle : (s : State) (slot : Option Lent) → may_start s.control ≡ true → CoderHome slot s → CoderAt slot s.given
home_idle s slot may home =
    let idle = and_parts (is_none s.control.running) (not s.control.halted) may in
    home.idle (none_runs s.control.running idle.0) (not-true s.control.halted idle.1)
  where
    none_runs : (o : Option Running) → is_none o ≡ true → o ≡ None
    none_runs None h = refl
    none_runs (Some r) h = absurd cc

-- the box at home is missing for an item exactly where the coder that was given all does not serve it
lacks_at : (w : Work) (slot : Option Lent) (g : Given) → CoderAt slot g → missing_for w slot ≡ missing_coder g w
lacks_at w slot g at = by (config_asked w) slot at
  where
    by : (o : Option Config) (slot : Option Lent) → CoderAt slot g → option_and_then (coder_wanted (holds slot)) o ≡ option_and_then (coder_wanted (serves_too (coder_id_of g.config))) o
    by (Some config) None at = rw at refl
    by (Some config) (Some lent) at = rw at.asked refl
    by None slot at = refl

coder_for : (w : Work) (slot : Option Lent) (before : Given) → CoderAt slot before → CoderFor w slot before
coder_for w slot before at = elim (config_asked w) as (λ (o : Option Config). IfNone o (CoderAt slot before)) [ None ↦ at | Some config ↦ tt ]

-- ---- an end

done_steps : (s : State) (d : DoneValue) (moment : ℕ) (end : IsEndOf s d) → step (Entry.Done d.epoch d.number moment (outcome_of d.ended)) s ≡ Some (with_control (after_done d.ended moment s.control) s)
done_steps s d moment end = rw (end.is_running, eq-eqb end.running.epoch d.epoch end.same_epoch, eq-eqb end.running.number d.number end.same_number, end.same_kind, end.end.legal) refl

-- what the end of an item leaves, but for whether the codec is halted
done_leaves : (r : Running) (e : Ended) (moment : ℕ) (s : Control) → rest_of (done_running r e moment s) ≡ record (rest_of s) { running = None; halted = (done_running r e moment s).halted }
done_leaves r e moment s =
    let idle : Control = record s { running = None } in
    let end : Bool → Control = λ b. cond b (after_end r e (record idle { progress = Some (max moment (unwrap_or s.progress moment)) })) idle in
    elim (eqb r.epoch s.epoch) as (λ b. rest_of (end b) ≡ record (rest_of s) { running = None; halted = (end b).halted }) [ true ↦ refl | false ↦ refl ]

-- a codec that is not halted by it was told units
pub done_fine : (r : Running) (e : Ended) (moment : ℕ) (s : Control) → r.epoch ≡ s.epoch → (done_running r e moment s).halted ≡ false → (units : List media.Unit) × (e ≡ Ended.Ran units)
done_fine r (Ended.Ran units) moment s o h = (units, refl)
done_fine r e moment s o h = absurd (let g = rw (eq-eqb r.epoch s.epoch o) at h in cc)

below : (a b : ℕ) → a ≤ b → (a ≡ b → ⊥) → a < b
below a b le ne = omega (arith, le, ne)

-- the box that comes home was given all that this epoch was
idle_after : (slot next : Option Lent) (s : State) (d : DoneValue) (moment : ℕ) (end : IsEndOf s d) → CoderHome slot s → (b : Bool) → eqb d.epoch s.control.epoch ≡ b → next ≡ cond b d.coder None → (done_running end.running d.ended moment (at_next_place s.control)).halted ≡ false → CoderAt next s.given
idle_after slot next s d moment end home true same next_is fine =
    let o : end.running.epoch ≡ s.control.epoch = end.same_epoch ∙ eqb-true d.epoch s.control.epoch same in
    let ran = done_fine end.running d.ended moment (at_next_place s.control) o fine in
    let still : StillAt (Ended.Ran ran.0) d.coder s.running_given = rw ran.1 at end.end.box in
    rw (next_is, ← home.busy end.running end.is_running o) still
idle_after slot next s d moment end home false other next_is fine =
    let le = home.older end.running end.is_running in
    let apart : d.epoch ≡ s.control.epoch → ⊥ = eqb-false d.epoch s.control.epoch other in
    let lt : end.running.epoch < s.control.epoch = below end.running.epoch s.control.epoch le (λ e. apart (sym end.same_epoch ∙ e)) in
    rw next_is (home.stale end.running end.is_running lt)

-- ---- calls

refused_moved : (slot : Option Lent) (who : Who) (x : Call) (error : DomError) (s : State) → may_call x s.control ≡ true → call_error x s.control ≡ Some error → CoderHome slot s → Moved slot (Entry.Call who x) s (at_next_place s.control)
refused_moved slot who x error s may e home = moved_by slot (Entry.Call who x) s (at_next_place s.control) refl (rw (may, e) refl) home

sent_moved : (slot : Option Lent) (who : Who) (x : Call) (w : Work) (s : State) → message_of x ≡ Some w → may_call x s.control ≡ true → call_error x s.control ≡ None → CoderHome slot s → Moved (kept_box (not (removes x && true)) slot) (Entry.Call who x) s (accepted x s.control)
sent_moved slot who x w s m may e home =
    let k = call_sends x w s.control m in
    let same = ap rest_of k.is ∙ queued_keeps s.control.place w (asked s.control k.phase k.key_required k.size k.pending) in
    rw (senders_stay x w m) (moved_by slot (Entry.Call who x) s (accepted x s.control) same (rw (may, e, senders_stay x w m) refl) home)

accepted_moved : (slot : Option Lent) (who : Who) (x : Call) (s : State) → may_call x s.control ≡ true → call_error x s.control ≡ None → CoderHome slot s → Moved (kept_box (not (removes x && true)) slot) (Entry.Call who x) s (accepted x s.control)
accepted_moved slot who Call.Reset s may e home = removed_moved slot (Entry.Call who Call.Reset) s (after_reset (at_next_place s.control)) refl (rw e refl) home
accepted_moved slot who Call.Close s may e home = removed_moved slot (Entry.Call who Call.Close) s (after_close (at_next_place s.control)) refl (rw e refl) home
accepted_moved slot who (Call.Ground to) s may e home = moved_by slot (Entry.Call who (Call.Ground to)) s (after_ground to (at_next_place s.control)) refl refl home
accepted_moved slot who (Call.Take n) s may e home = moved_by slot (Entry.Call who (Call.Take n)) s (after_take (at_next_place s.control)) refl (rw may refl) home
accepted_moved slot who (Call.Configure config) s may e home = sent_moved slot who (Call.Configure config) _ s refl may e home
accepted_moved slot who (Call.Decode chunk) s may e home = sent_moved slot who (Call.Decode chunk) _ s refl may e home
accepted_moved slot who (Call.Encode (Handed.Cloned medium)) s may e home = sent_moved slot who (Call.Encode (Handed.Cloned medium)) _ s refl may e home
accepted_moved slot who (Call.Encode Handed.Gone) s may e home = absurd cc
accepted_moved slot who (Call.Encode Handed.Kept) s may e home = absurd cc
accepted_moved slot who Call.Flush s may e home = sent_moved slot who Call.Flush _ s refl may e home

call_moved : (slot : Option Lent) (who : Who) (x : Call) (s : State) → may_call x s.control ≡ true → (o : Option DomError) → call_error x s.control ≡ o → CoderHome slot s → Moved (kept_box (not (removes x && is_none o)) slot) (Entry.Call who x) s (after_call o x s.control)
call_moved slot who x s may (Some error) e home =
    let m = refused_moved slot who x error s may e home in
    elim (removes x) as (λ b. Moved (kept_box (not (b && false)) slot) (Entry.Call who x) s (at_next_place s.control)) [ true ↦ m | false ↦ m ]
call_moved slot who x s may None e home = accepted_moved slot who x s may e home

-- ---- the history goes on

module _ {h : List Entry} {old : Live} (kept : StandsAfter h old) where
  -- the history goes on by the step
  goes : {new : Live} {e : Entry} → Moved new.slot e kept.state new.control → StandsAfter (h ++ e ∷ []) new
  goes {new = new} {e = e} m = record {
    state = m.after;
    replays = rw (m.leaves.same_opening, kept.is_control, replay_more h (opening_state old.control.opening) e, kept.replays) m.steps;
    is_control = m.is_control;
    is_place = m.leaves.next_place ∙ (ap (λ (c : Control). c.place + 1) kept.is_control ∙ (ap (λ n. n + 1) kept.is_place ∙ sym (length-append h (e ∷ []))));
    home = subst (λ (c : Control). CoderHome _ (with_control (with_rest (rest_of c) m.after.control) m.after)) (sym m.is_control) m.leaves.home;
    some_saturate = rw (m.leaves.same_opening, kept.is_control) kept.some_saturate;
  }

  goes_from : {new : Live} {e : Entry} (x : Shown) → Moved new.slot e kept.state new.control → x ≡ shown_at e (with_control old.control kept.state) → GoesFrom h old new e x
  goes_from {new = new} {e = e} x m shows = record {
    stands = goes m;
    shows =
        each_more old.control.opening h e kept.state kept.replays
        ∙ ap (λ (y : Shown). each_shown old.control.opening h ++ y ∷ []) (ap (λ (c : Control). shown_at e (with_control c kept.state)) kept.is_control ∙ sym shows);
  }

  pub state_is : state_after old h ≡ kept.state
  state_is = ap (λ o. unwrap_or o (opening_state old.control.opening)) kept.replays

  can_here : (i : Item) → start_item old.control ≡ Some i → CanStart kept.state.control i
  can_here i item = can_start kept.state.control i (rw kept.is_control item)

  idle_here : (i : Item) → start_item old.control ≡ Some i → CoderAt old.slot kept.state.given
  idle_here i item = home_idle kept.state old.slot (can_here i item).0 kept.home

  start_moves : {k : Control} (i : Item) → start_item old.control ≡ Some i → k ≡ after_start old.control → Moved None (Entry.Start old.control.epoch i.number) kept.state k
  start_moves i item after =
      let s = kept.state in
      let can = can_here i item in
      let t = begun (i ∷ drop 1 s.control.work) i s in
      let out : Running = record { epoch = s.control.epoch; number = i.number; place = i.place; kind = kind_of i.work } in
      let is_out : (r : Running) → Some out ≡ Some r → out.epoch ≡ r.epoch = λ r e. ap (λ (x : Running). x.epoch) (some_same out r e) in
      let is : after_start s.control ≡ t.control = rw (can.0, can.1) refl in
      rw (after, ← kept.is_control, is) (moved_to t (rest_of t.control) refl (starts s i can) (record {
        home = record { idle = λ r e. absurd cc; out = λ r e. refl; busy = λ r e o. refl; stale = λ r e l. absurd (omega (arith, is_out r e)); older = λ r e. omega (arith, is_out r e) };
        next_place = refl;
        same_opening = refl;
      }))

  -- the start of the front item
  pub start_goes : {new : Live} (i : Item) → start_item old.control ≡ Some i → new.slot ≡ None → new.control ≡ after_start old.control → GoesFrom h old new (Entry.Start old.control.epoch i.number) nothing_shown
  start_goes i item slot after = goes_from nothing_shown (rw slot (start_moves i item after)) refl

  -- what its job lacks
  pub start_lacks : (i : Item) → start_item old.control ≡ Some i → missing_for i.work old.slot ≡ missing_coder (state_after old h).given i.work
  start_lacks i item = rw state_is (lacks_at i.work old.slot kept.state.given (idle_here i item))

  start_job_at : (i : Item) (t : State) (at : ℕ) → start_item old.control ≡ Some i → step (Entry.Start old.control.epoch i.number) kept.state ≡ Some t → IsJobOf t (record { epoch = old.control.epoch; number = i.number; place = at; work = i.work; coder = old.slot })
  start_job_at i t at item steps =
      let s = kept.state in
      let same = some_same (begun (i ∷ drop 1 s.control.work) i s) t (sym (starts s i (can_here i item)) ∙ rw (← kept.is_control) at steps) in
      rw (← same, ← kept.is_control) (record {
        running = record { epoch = s.control.epoch; number = i.number; place = i.place; kind = kind_of i.work };
        is_running = refl;
        same_epoch = refl;
        same_number = refl;
        same_kind = refl;
        given = record { before = s.given; more = refl; box = coder_for i.work old.slot s.given (idle_here i item) };
      })

  -- its job is that of the running item
  pub start_job : {new : Live} (i : Item) (at : ℕ) → start_item old.control ≡ Some i → new.slot ≡ None → new.control ≡ after_start old.control → IsJobOf (state_after new (h ++ Entry.Start old.control.epoch i.number ∷ [])) (record { epoch = old.control.epoch; number = i.number; place = at; work = i.work; coder = old.slot })
  unfolding goes
  start_job {new = new} i at item slot after =
      let m : Moved new.slot (Entry.Start old.control.epoch i.number) kept.state new.control = rw slot (start_moves i item after) in
      let next = goes m in
      rw (ap (λ o. unwrap_or o (opening_state new.control.opening)) next.replays) (start_job_at i m.after at item m.steps)

  done_moves : {next : Option Lent} {k : Control} (d : DoneValue) (moment : ℕ) → IsEndOf (state_after old h) d → next ≡ kept_box (eqb d.epoch old.control.epoch) d.coder → k ≡ after_done d.ended moment old.control → Moved next (Entry.Done d.epoch d.number moment (outcome_of d.ended)) kept.state k
  done_moves {next = next} d moment end slot_is after =
      let s = kept.state in
      let own : IsEndOf s d = rw state_is at end in
      let k = done_running own.running d.ended moment (at_next_place s.control) in
      let is : after_done d.ended moment s.control ≡ k = rw own.is_running refl in
      let next_is : next ≡ kept_box (eqb d.epoch s.control.epoch) d.coder = rw kept.is_control slot_is in
      rw (after, ← kept.is_control, is) (moved_to (with_control k s) _ (done_leaves own.running d.ended moment (at_next_place s.control)) (rw is at (done_steps s d moment own)) (record {
        home = record { idle = λ run fine. idle_after old.slot next s d moment own kept.home (eqb d.epoch s.control.epoch) refl next_is fine; out = λ r e. absurd cc; busy = λ r e o. absurd cc; stale = λ r e o. absurd cc; older = λ r e. absurd cc };
        next_place = refl;
        same_opening = refl;
      }))

  -- the end of the running item
  pub done_goes : {new : Live} (d : DoneValue) (moment : ℕ) → IsEndOf (state_after old h) d → new.slot ≡ kept_box (eqb d.epoch old.control.epoch) d.coder → new.control ≡ after_done d.ended moment old.control → GoesFrom h old new (Entry.Done d.epoch d.number moment (outcome_of d.ended)) nothing_shown
  done_goes d moment end slot after = goes_from nothing_shown (done_moves d moment end slot after) refl

  -- the turn of the front task
  pub turn_goes : {new : Live} (b : Bool) (x : Shown) → turn_closes old.control.tasks ≡ Some b → new.slot ≡ kept_box (not b) old.slot → new.control ≡ after_turn old.control → x ≡ record { turn = turn_word old.control.tasks; events = turn_shows old.control.tasks old.control } → GoesFrom h old new Entry.Turn x
  turn_goes b x closes slot_is after shows =
      goes_from x (rw (slot_is, after, ← kept.is_control) (turn_moved old.slot kept.state old.control.tasks b (ap (λ (c : Control). c.tasks) kept.is_control) closes kept.home)) shows

  -- a call
  pub call_goes : {new : Live} (who : Who) (call : Call) (x : Shown) → may_call call old.control ≡ true → new.slot ≡ kept_box (not (removes call && is_none (call_error call old.control))) old.slot → new.control ≡ after_call (call_error call old.control) call old.control → x ≡ record { turn = None; events = call_shows call old.control.place old.control.pending (call_error call old.control) } → GoesFrom h old new (Entry.Call who call) x
  call_goes who call x may slot_is after shows =
      let s = kept.state in
      goes_from x (rw (slot_is, after, ← kept.is_control) (call_moved old.slot who call s (ap (may_call call) kept.is_control ∙ may) (call_error call s.control) refl kept.home)) shows

  -- a reclaim
  pub reclaim_goes : {new : Live} (now : ℕ) (x : Shown) → may_reclaim now old.control ≡ true → new.slot ≡ None → new.control ≡ after_close (at_next_place old.control) → x ≡ record { turn = None; events = reclaim_shows old.control.pending } → GoesFrom h old new (Entry.Reclaim now) x
  reclaim_goes now x may slot_is after shows =
      let here : may_reclaim now kept.state.control ≡ true = rw kept.is_control may in
      goes_from x (rw (slot_is, after, ← kept.is_control) (removed_moved old.slot (Entry.Reclaim now) kept.state (after_close (at_next_place kept.state.control)) refl (rw here refl) kept.home)) shows

-- a call that removes has its error as its exception
pub removes_by_exception : (x : Call) (o : Option DomError) → (removes x && is_none (exception_of x o)) ≡ (removes x && is_none o)
removes_by_exception Call.Flush o = refl
removes_by_exception x o = refl
