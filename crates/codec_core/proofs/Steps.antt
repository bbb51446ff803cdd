-- Steps of a history, and where the box is after each.
use Rattle.std.proofs.Common.{ℕ, ◌≡◌, ◌+◌, ◌≤◌, ◌<◌, ◌&&◌, not, Bool, true, false, eqb, cond, List, [], ◌∷◌, ◌++◌, drop, length-append, Option, Some, None, is_some, is_none, refl, ap, sym, subst, eq-eqb, ◌∙◌, arith}
use Rattle.std.specs.Prelude.{unwrap_or, max, IfNone, option_and_then}
use Rattle.std.proofs.lemmas.Bool.{and_parts, eqb-true, not-true}
use Rattle.std.proofs.lemmas.Bool.Decides.{nat_tests}
use Rattle.wc_base.specs.{Options.cond_is, Options.some_same, declared.error.DomError.DomError, declared.who.Who.Who}
use Rattle.codec_definitions.specs.declared.unit.Unit as media
use Rattle.coder_api.specs.Lent.{Lent}
use Rattle.wc_config.specs.{declared.config.Config.Config, Configs.coder_id_of}
use Rattle.codec_model.specs.declared.entry.{CodecState.CodecState, Opening.Opening, Call.Call, Entry.Entry}
use Rattle.codec_model.specs.declared.entry.CodecState.TheVariants.{Unconfigured, Configured, Closed}
use Rattle.codec_model.specs.declared.entry.{Handed.Handed, Work.Work, Item.Item, Running.Running, Task.Task}
use Rattle.codec_model.specs.{declared.entry.Ended.Ended, ShownLaws.replay_more}
use Rattle.codec_model.specs.Control.{Control, process, with_message, at_next_place, is_close, turn_closes, run_task, run_front, kind_of, after_done, done_running, after_end, after_turn, after_close, after_reset, may_reclaim, front, may_start, start_item, after_start, after_take, may_take, after_ground}
use Rattle.codec_model.specs.Replay.{State, Given, missing_coder, opening_state, step, with_control, removed, after_call, call_error, may_call, message_of, sends, removes, takes, accepted, config_asked, coder_wanted, serves_too}
use Rattle.codec_model.specs.StepLaws.{by_items, by_removals, begun, start_made, asked, call_sends, closed_refuses, senders_stay}
use Rattle.codec_core.specs.Job.{DoneValue, missing_for, CoderAt, CoderFor, StillAt, IsEndOf, IsJobOf, outcome_of, holds}
use Rattle.codec_core.specs.declared.out.Out.{Out}
use Rattle.codec_core.specs.Codec.{state_at, Makes, CoderHome, IsKept, kept_box, reclaims}

-- what processing leaves as it is
pub record Rest : Type 0 where
  pub running : Option Running
  pub halted : Bool
  pub epoch : ℕ
  pub place : ℕ
  pub opening : Opening
  pub phase : CodecState
  pub taken : ℕ

abbrev pub rest_of : Control → Rest
rest_of c = record { running = c.running; halted = c.halted; epoch = c.epoch; place = c.place; opening = c.opening; phase = c.phase; taken = c.taken }

process_keeps : (s : Control) → rest_of (process s) ≡ rest_of s
process_keeps s = by_items (λ c. rest_of c ≡ rest_of s) (λ m ms c blocked saturated scheduled event size few e h. h) s.messages s refl refl

queued_keeps : (place : ℕ) (w : Work) (s : Control) → rest_of (with_message place w s) ≡ rest_of s
queued_keeps place w s = process_keeps (record s { messages = s.messages ++ record { place = place; work = w } ∷ [] })

run_keeps : (t : Task) (s : Control) → is_close t ≡ false → rest_of (run_task t s) ≡ rest_of s
run_keeps Task.Process s h = process_keeps s
run_keeps Task.Desaturate s h = process_keeps (record s { saturated = false })
run_keeps (Task.Close x) s h = absurd cc
run_keeps _ s h = refl

-- an entry takes an output
abbrev pub takes_one : Entry → Bool
takes_one (Entry.Call who x) = takes x
takes_one _ = false

-- the control state with this of it
abbrev pub with_rest : Rest → Control → Control
with_rest r c = record c { running = r.running; halted = r.halted; epoch = r.epoch; place = r.place; opening = r.opening; phase = r.phase; taken = r.taken }

-- what a step leaves: the box is at home, and the place that is kept for a reclaim stays until the codec is closed
pub record Leaves (slot : Option Lent) (e : Entry) (s t : State) (r : Rest) : Type 0 where
  pub home : CoderHome slot (with_control (with_rest r t.control) t)
  pub next_place : r.place ≡ s.control.place + 1
  pub same_opening : r.opening ≡ s.control.opening
  pub taken : takes_one e ≡ false → r.taken ≡ s.control.taken
  pub kept_place : reclaims r.phase ≤ reclaims s.control.phase

-- a legal step to a control state, with the box at home there
pub record Moved (slot : Option Lent) (e : Entry) (s : State) (k : Control) : Type 0 where
  pub after : State
  pub steps : step e s ≡ Some after
  pub is_control : after.control ≡ k
  pub leaves : Leaves slot e s after (rest_of k)

moved_to : {slot : Option Lent} {e : Entry} {s : State} (t : State) (r : Rest) → rest_of t.control ≡ r → step e s ≡ Some t → Leaves slot e s t r → Moved slot e s t.control
moved_to {slot = slot} {e = e} {s = s} t r same steps leaves = record { after = t; steps = steps; is_control = refl; leaves = subst (Leaves slot e s t) (sym same) leaves }

-- an entry at which the running item and the epoch stay, with this phase and so many outputs taken after it
moved_by : (slot : Option Lent) (e : Entry) (s : State) (k : Control) (phase : CodecState) (taken : ℕ) → rest_of k ≡ rest_of (record (at_next_place s.control) { phase = phase; taken = taken }) → reclaims phase ≤ reclaims s.control.phase → (takes_one e ≡ false → taken ≡ s.control.taken) → step e s ≡ Some (with_control k s) → CoderHome slot s → Moved slot e s k
moved_by slot e s k phase taken same le none steps home = moved_to (with_control k s) _ same steps (record {
  home = record { idle = home.idle; out = home.out; busy = home.busy; stale = home.stale; older = home.older };
  next_place = refl;
  same_opening = refl;
  taken = none;
  kept_place = le;
})

-- a removal begins a new epoch, with no box at home
removed_moved : (slot : Option Lent) (e : Entry) (s : State) (k : Control) (phase : CodecState) → rest_of k ≡ rest_of (record (at_next_place s.control) { epoch = s.control.epoch + 1; halted = false; phase = phase }) → reclaims phase ≤ reclaims s.control.phase → step e s ≡ Some (removed k s) → CoderHome slot s → Moved None e s k
removed_moved slot e s k phase same le steps home = moved_to (removed k s) _ same steps (record {
  home = record { idle = λ _ _. refl; out = λ r i. refl; busy = λ r i o. absurd (omega (arith, home.older r i, o)); stale = λ r i l. refl; older = λ r i. omega (arith, home.older r i) };
  next_place = refl;
  same_opening = refl;
  taken = λ none. refl;
  kept_place = le;
})

-- a codec that may be configured, or removed, is not closed
open_phase : (b : Bool) (p : CodecState) → cond b (elim p as (λ _. Option DomError) [ Unconfigured ↦ None | Configured ↦ None | Closed ↦ Some DomError.InvalidState ]) (Some DomError.TypeErr) ≡ None → reclaims p ≡ 1
open_phase true Closed e = absurd cc
open_phase true p e = refl
open_phase false p e = absurd cc

pub most_reclaims : (p : CodecState) → reclaims p ≤ 1
most_reclaims Closed = omega arith
most_reclaims p = omega arith

turn_moved : (slot : Option Lent) (s : State) (ts : List Task) (b : Bool) → s.control.tasks ≡ ts → turn_closes ts ≡ Some b → CoderHome slot s → Moved (kept_box (not b) slot) Entry.Turn s (after_turn s.control)
turn_moved slot s [] b e h home = absurd cc
turn_moved slot s (Task.Close x ∷ ts) true e h home =
    let m = removed_moved slot Entry.Turn s (run_front (at_next_place s.control)) Closed (rw e refl) (omega arith) (rw e refl) home in
    rw e (rw e at m)
turn_moved slot s (Task.Close x ∷ ts) false e h home = absurd cc
turn_moved slot s (t ∷ ts) true e h home = absurd cc
turn_moved slot s (t ∷ ts) false e h home =
    moved_by slot Entry.Turn s (after_turn s.control) s.control.phase s.control.taken (rw e (run_keeps t (record (at_next_place s.control) { tasks = ts }) refl)) (omega arith) (λ none. refl) (rw e refl) home

-- ---- a start

-- what a start needs: a codec that may start, and the item at the front
abbrev CanStart : Control → Item → Type 0
CanStart c i = (may_start c ≡ true) × (c.work ≡ i ∷ drop 1 c.work)

front_is : (is : List Item) (i : Item) → front is ≡ Some i → is ≡ i ∷ drop 1 is
front_is [] i e = absurd cc
front_is (j ∷ rest) i e = cc

can_start : (c : Control) (i : Item) → start_item c ≡ Some i → CanStart c i
can_start c i h = let k = cond_is (may_start c) (front c.work) i h in (k.0, front_is c.work i k.1)

starts : (s : State) (i : Item) (can : CanStart s.control i) → step (Entry.Start s.control.epoch i.number) s ≡ Some (begun (i ∷ drop 1 s.control.work) i s)
starts s i can = start_made i (drop 1 s.control.work) s.control.epoch i.number s can.1 (rw (can.0, eq-eqb s.control.epoch s.control.epoch refl, eq-eqb i.number i.number refl) refl)

-- the box at home of an idle codec was given all that was given
home_idle : (s : State) (slot : Option Lent) → may_start s.control ≡ true → CoderHome slot s → CoderAt slot s.given
home_idle s slot may home =
    let idle = and_parts (is_none s.control.running) (not s.control.halted) may in
    home.idle (none_runs s.control.running idle.0) (not-true s.control.halted idle.1)
  where
    none_runs : (o : Option Running) → is_none o ≡ true → o ≡ None
    none_runs None h = refl
    none_runs (Some r) h = absurd cc

-- the box at home is missing for an item exactly where the coder that was given all does not serve it
lacks_at : (w : Work) (slot : Option Lent) (g : Given) → CoderAt slot g → missing_for w slot ≡ missing_coder g w
lacks_at w slot g at = by (config_asked w) slot at
  where
    by : (o : Option Config) (slot : Option Lent) → CoderAt slot g → option_and_then (coder_wanted (holds slot)) o ≡ option_and_then (coder_wanted (serves_too (coder_id_of g.config))) o
    by (Some config) None at = rw at refl
    by (Some config) (Some lent) at = rw at.asked refl
    by None slot at = refl

coder_for : (w : Work) (slot : Option Lent) (before : Given) → CoderAt slot before → CoderFor w slot before
coder_for w slot before at = elim (config_asked w) as (λ (o : Option Config). IfNone o (CoderAt slot before)) [ None ↦ at | Some config ↦ tt ]

-- ---- an end

done_steps : (s : State) (d : DoneValue) (moment : ℕ) (end : IsEndOf s d) → step (Entry.Done d.epoch d.number moment (outcome_of d.ended)) s ≡ Some (with_control (after_done d.ended moment s.control) s)
done_steps s d moment end = rw (end.is_running, eq-eqb end.running.epoch d.epoch end.same_epoch, eq-eqb end.running.number d.number end.same_number, end.same_kind, end.end.legal) refl

-- what the end of an item leaves, but for whether the codec is halted
done_leaves : (r : Running) (e : Ended) (moment : ℕ) (s : Control) → rest_of (done_running r e moment s) ≡ record (rest_of s) { running = None; halted = (done_running r e moment s).halted }
done_leaves r e moment s =
    let idle : Control = record s { running = None } in
    let end : Bool → Control = λ b. cond b (after_end r e (record idle { progress = Some (max moment (unwrap_or s.progress moment)) })) idle in
    elim (eqb r.epoch s.epoch) as (λ b. rest_of (end b) ≡ record (rest_of s) { running = None; halted = (end b).halted }) [ true ↦ refl | false ↦ refl ]

-- a codec that is not halted by it was told units
done_fine : (r : Running) (e : Ended) (moment : ℕ) (s : Control) → r.epoch ≡ s.epoch → (done_running r e moment s).halted ≡ false → (units : List media.Unit) × (e ≡ Ended.Ran units)
done_fine r (Ended.Ran units) moment s o h = (units, refl)
done_fine r e moment s o h = absurd (let g = rw (eq-eqb r.epoch s.epoch o) at h in cc)

-- the box that comes home was given all that this epoch was
idle_after : (slot next : Option Lent) (s : State) (d : DoneValue) (moment : ℕ) (end : IsEndOf s d) → CoderHome slot s → (b : Bool) → eqb d.epoch s.control.epoch ≡ b → next ≡ cond b d.coder None → (done_running end.running d.ended moment (at_next_place s.control)).halted ≡ false → CoderAt next s.given
idle_after slot next s d moment end home true same next_is fine =
    let o : end.running.epoch ≡ s.control.epoch = end.same_epoch ∙ eqb-true d.epoch s.control.epoch same in
    let ran = done_fine end.running d.ended moment (at_next_place s.control) o fine in
    let still : StillAt (Ended.Ran ran.0) d.coder s.running_given = rw ran.1 at end.end.box in
    rw (next_is, ← home.busy end.running end.is_running o) still
idle_after slot next s d moment end home false other next_is fine =
    let le = home.older end.running end.is_running in
    let lt : end.running.epoch < s.control.epoch = grind (arith, nat_tests, end.same_epoch) in
    rw next_is (home.stale end.running end.is_running lt)

-- ---- calls

-- an entry that moves on to the next place and does nothing else
next_moved : (slot : Option Lent) (e : Entry) (s : State) → step e s ≡ Some (with_control (at_next_place s.control) s) → CoderHome slot s → Moved slot e s (at_next_place s.control)
next_moved slot e s steps home = moved_by slot e s (at_next_place s.control) s.control.phase s.control.taken refl (omega arith) (λ none. refl) steps home

refused_moved : (slot : Option Lent) (who : Who) (x : Call) (error : DomError) (s : State) → may_call x s.control ≡ true → call_error x s.control ≡ Some error → CoderHome slot s → Moved slot (Entry.Call who x) s (at_next_place s.control)
refused_moved slot who x error s may e home = next_moved slot (Entry.Call who x) s (rw (may, e) refl) home

sent_moved : (slot : Option Lent) (who : Who) (x : Call) (w : Work) (s : State) → message_of x ≡ Some w → may_call x s.control ≡ true → (o : Option DomError) → call_error x s.control ≡ o → CoderHome slot s → Moved slot (Entry.Call who x) s (after_call o x s.control)
sent_moved slot who x w s m may (Some error) e home = refused_moved slot who x error s may e home
sent_moved slot who x w s m may None e home =
    let k = call_sends x w s.control m in
    let same = ap rest_of k.is ∙ queued_keeps s.control.place w (asked s.control k.phase k.key_required k.size k.pending) in
    moved_by slot (Entry.Call who x) s (accepted x s.control) k.phase s.control.taken same (omega (arith, most_reclaims k.phase, open_call s.control.phase refl)) (λ none. refl) (rw (may, e, senders_stay x w m) refl) home
  where
    open_call : (p : CodecState) → s.control.phase ≡ p → reclaims p ≡ 1
    open_call Closed is = absurd (let bad = closed_refuses x s.control (ap is_some m) may is in let none = rw e at bad in cc)
    open_call p is = refl

removal_moved : (slot : Option Lent) (who : Who) (x : Call) (s : State) → removes x ≡ true → call_error x s.control ≡ None → CoderHome slot s → Moved None (Entry.Call who x) s (accepted x s.control)
removal_moved slot who x s is e home = by_removals (λ y. call_error y s.control ≡ None → Moved None (Entry.Call who y) s (accepted y s.control))
    (λ none. removed_moved slot (Entry.Call who Call.Reset) s (after_reset (at_next_place s.control)) Unconfigured refl (omega (arith, open_phase true s.control.phase none)) (rw none refl) home)
    (λ none. removed_moved slot (Entry.Call who Call.Close) s (after_close (at_next_place s.control)) Closed refl (omega arith) (rw none refl) home) x is e

-- a call that sends no message and takes nothing is refused, or removes, or tells where the codec is at work
made_else : (slot : Option Lent) (who : Who) (x : Call) (s : State) → sends x ≡ false → takes x ≡ false → call_error x s.control ≡ None → CoderHome slot s → Moved (kept_box (not (removes x && true)) slot) (Entry.Call who x) s (accepted x s.control)
made_else slot who Call.Reset s sends takes e home = removal_moved slot who Call.Reset s refl e home
made_else slot who Call.Close s sends takes e home = removal_moved slot who Call.Close s refl e home
made_else slot who (Call.Ground to) s sends takes e home = moved_by slot (Entry.Call who (Call.Ground to)) s (after_ground to (at_next_place s.control)) s.control.phase s.control.taken refl (omega arith) (λ none. refl) refl home
made_else slot who (Call.Encode (Handed.Cloned medium)) s sends takes e home = absurd cc
made_else slot who (Call.Encode Handed.Gone) s sends takes e home = absurd cc
made_else slot who (Call.Encode Handed.Kept) s sends takes e home = absurd cc
made_else slot who x s sends takes e home = absurd cc

made_moved : (slot : Option Lent) (who : Who) (x : Call) (s : State) → sends x ≡ false → takes x ≡ false → may_call x s.control ≡ true → (o : Option DomError) → call_error x s.control ≡ o → CoderHome slot s → Moved (kept_box (not (removes x && is_none o)) slot) (Entry.Call who x) s (after_call o x s.control)
made_moved slot who x s sends takes may (Some error) e home =
    let m = refused_moved slot who x error s may e home in
    elim (removes x) as (λ b. Moved (kept_box (not (b && false)) slot) (Entry.Call who x) s (at_next_place s.control)) [ true ↦ m | false ↦ m ]
made_moved slot who x s sends takes may None e home = made_else slot who x s sends takes e home

-- ---- removals

reclaimed_phase : (p : CodecState) (b : Bool) → elim p as (λ _. Bool) [ Unconfigured ↦ false | Configured ↦ b | Closed ↦ false ] ≡ true → reclaims p ≡ 1
reclaimed_phase Configured b e = refl
reclaimed_phase p b e = absurd cc

pub reclaim_reclaims : (k k' : Control) (now : ℕ) → may_reclaim now k ≡ true → k' ≡ after_close (at_next_place k) → reclaims k'.phase + 1 ≤ reclaims k.phase
reclaim_reclaims k k' now may after = rw (after, reclaimed_phase k.phase _ may) (omega arith)

-- a call that sends a message takes no output
pub senders_take_none : (x : Call) → sends x ≡ true → takes x ≡ false
senders_take_none (Call.Take unit) some = absurd cc
senders_take_none x some = refl

-- the message of a call that sends one
pub message_there : (x : Call) → sends x ≡ true → (w : Work) × (message_of x ≡ Some w)
message_there x some = by (message_of x) some
  where
    by : (o : Option Work) → is_some o ≡ true → (w : Work) × (o ≡ Some w)
    by None h = absurd cc
    by (Some w) h = (w, refl)

-- ---- the history goes on

module _ {h : List Entry} {slot : Option Lent} {k : Control} (kept : IsKept h slot k) where
  -- the history goes on by the step
  pub kept_more : {next : Option Lent} {e : Entry} {k' : Control} → Moved next e kept.state k' → IsKept (h ++ e ∷ []) next k'
  kept_more {e = e} m = record {
    state = m.after;
    replays = rw (m.leaves.same_opening, kept.is_control, replay_more h (opening_state k.opening) e, kept.replays) m.steps;
    is_control = m.is_control;
    is_place = m.leaves.next_place ∙ (ap (λ (c : Control). c.place + 1) kept.is_control ∙ (ap (λ n. n + 1) kept.is_place ∙ sym (length-append h (e ∷ []))));
    home = subst (λ (c : Control). CoderHome _ (with_control (with_rest (rest_of c) m.after.control) m.after)) (sym m.is_control) m.leaves.home;
    some_saturate = rw (m.leaves.same_opening, kept.is_control) kept.some_saturate;
  }

  -- the place that is kept for a reclaim
  pub place_kept : {next : Option Lent} {e : Entry} {k' : Control} → Moved next e kept.state k' → reclaims k'.phase ≤ reclaims k.phase
  place_kept m = omega (arith, m.leaves.kept_place, ap (λ (c : Control). reclaims c.phase) kept.is_control)

  pub state_is : (spare : ℕ) (out : Out) → state_at (record { opening = k.opening; history = h; spare = spare; slot = slot; out = out }) ≡ kept.state
  state_is spare out = ap (λ o. unwrap_or o (opening_state k.opening)) kept.replays

  can_here : (i : Item) → start_item k ≡ Some i → CanStart kept.state.control i
  can_here i item = can_start kept.state.control i (rw kept.is_control item)

  idle_here : (i : Item) → start_item k ≡ Some i → CoderAt slot kept.state.given
  idle_here i item = home_idle kept.state slot (can_here i item).0 kept.home

  pub start_moves : {k' : Control} (i : Item) → start_item k ≡ Some i → k' ≡ after_start k → Moved None (Entry.Start k.epoch i.number) kept.state k'
  start_moves i item after =
      let s = kept.state in
      let can = can_here i item in
      let t = begun (i ∷ drop 1 s.control.work) i s in
      let out : Running = record { epoch = s.control.epoch; number = i.number; place = i.place; kind = kind_of i.work } in
      let is_out : (r : Running) → Some out ≡ Some r → out.epoch ≡ r.epoch = λ r e. ap (λ (x : Running). x.epoch) (some_same out r e) in
      let is : after_start s.control ≡ t.control = rw (can.0, can.1) refl in
      rw (after, ← kept.is_control, is) (moved_to t (rest_of t.control) refl (starts s i can) (record {
        home = record { idle = λ r e. absurd cc; out = λ r e. refl; busy = λ r e o. refl; stale = λ r e l. absurd (omega (arith, is_out r e)); older = λ r e. omega (arith, is_out r e) };
        next_place = refl;
        same_opening = refl;
        taken = λ none. refl;
        kept_place = omega arith;
      }))

  pub start_lacks : (i : Item) → start_item k ≡ Some i → missing_for i.work slot ≡ missing_coder kept.state.given i.work
  start_lacks i item = lacks_at i.work slot kept.state.given (idle_here i item)

  pub start_job : (i : Item) (t : State) (at : ℕ) → start_item k ≡ Some i → step (Entry.Start k.epoch i.number) kept.state ≡ Some t → IsJobOf t (record { epoch = k.epoch; number = i.number; place = at; work = i.work; coder = slot })
  start_job i t at item steps =
      let s = kept.state in
      let same = some_same (begun (i ∷ drop 1 s.control.work) i s) t (sym (starts s i (can_here i item)) ∙ rw (← kept.is_control) at steps) in
      rw (← same, ← kept.is_control) (record {
        running = record { epoch = s.control.epoch; number = i.number; place = i.place; kind = kind_of i.work };
        is_running = refl;
        same_epoch = refl;
        same_number = refl;
        same_kind = refl;
        given = record { before = s.given; more = refl; box = coder_for i.work slot s.given (idle_here i item) };
      })

  pub done_moves : {next : Option Lent} {k' : Control} (d : DoneValue) (moment spare : ℕ) (out : Out) → IsEndOf (state_at (record { opening = k.opening; history = h; spare = spare; slot = slot; out = out })) d → next ≡ kept_box (eqb d.epoch k.epoch) d.coder → k' ≡ after_done d.ended moment k → Moved next (Entry.Done d.epoch d.number moment (outcome_of d.ended)) kept.state k'
  done_moves {next = next} d moment spare out end slot_is after =
      let s = kept.state in
      let own : IsEndOf s d = rw (state_is spare out) at end in
      let k = done_running own.running d.ended moment (at_next_place s.control) in
      let is : after_done d.ended moment s.control ≡ k = rw own.is_running refl in
      let next_is : next ≡ kept_box (eqb d.epoch s.control.epoch) d.coder = rw kept.is_control slot_is in
      rw (after, ← kept.is_control, is) (moved_to (with_control k s) _ (done_leaves own.running d.ended moment (at_next_place s.control)) (rw is at (done_steps s d moment own)) (record {
        home = record { idle = λ run fine. idle_after slot next s d moment own kept.home (eqb d.epoch s.control.epoch) refl next_is fine; out = λ r e. absurd cc; busy = λ r e o. absurd cc; stale = λ r e o. absurd cc; older = λ r e. absurd cc };
        next_place = refl;
        same_opening = refl;
        taken = λ none. refl;
        kept_place = omega arith;
      }))

  pub turn_moves : {next : Option Lent} {k' : Control} (b : Bool) → turn_closes k.tasks ≡ Some b → next ≡ kept_box (not b) slot → k' ≡ after_turn k → Moved next Entry.Turn kept.state k'
  turn_moves b closes slot_is after =
      rw (slot_is, after, ← kept.is_control) (turn_moved slot kept.state k.tasks b (ap (λ (c : Control). c.tasks) kept.is_control) closes kept.home)

  pub sent_moves : {k' : Control} (who : Who) (x : Call) → sends x ≡ true → may_call x k ≡ true → k' ≡ after_call (call_error x k) x k → Moved slot (Entry.Call who x) kept.state k'
  sent_moves who x some may after =
      let s = kept.state in
      let w = message_there x some in
      rw (after, ← kept.is_control) (sent_moved slot who x w.0 s w.1 (ap (may_call x) kept.is_control ∙ may) (call_error x s.control) refl kept.home)

  pub made_moves : {next : Option Lent} {k' : Control} (who : Who) (x : Call) → sends x ≡ false → takes x ≡ false → may_call x k ≡ true → next ≡ kept_box (not (removes x && is_none (call_error x k))) slot → k' ≡ after_call (call_error x k) x k → Moved next (Entry.Call who x) kept.state k'
  made_moves who x sends takes may slot_is after =
      let s = kept.state in
      rw (slot_is, after, ← kept.is_control) (made_moved slot who x s sends takes (ap (may_call x) kept.is_control ∙ may) (call_error x s.control) refl kept.home)

  pub take_moves : {k' : Control} (who : Who) (n : ℕ) → may_take n k ≡ true → k' ≡ after_take (at_next_place k) → Moved slot (Entry.Call who (Call.Take n)) kept.state k'
  take_moves who n may after =
      let s = kept.state in
      let here : may_take n s.control ≡ true = ap (may_take n) kept.is_control ∙ may in
      rw (after, ← kept.is_control) (moved_by slot (Entry.Call who (Call.Take n)) s (after_take (at_next_place s.control)) s.control.phase (s.control.taken + 1) refl (omega arith) (λ none. absurd cc) (rw here refl) kept.home)

  pub reclaim_moves : {k' : Control} (now : ℕ) → may_reclaim now k ≡ true → k' ≡ after_close (at_next_place k) → Moved None (Entry.Reclaim now) kept.state k'
  reclaim_moves now may after =
      let here : may_reclaim now kept.state.control ≡ true = rw kept.is_control may in
      rw (after, ← kept.is_control) (removed_moved slot (Entry.Reclaim now) kept.state (after_close (at_next_place kept.state.control)) Closed refl (omega arith) (rw here refl) kept.home)

pub makes_more : {h : List Entry} {slot next : Option Lent} {k k' : Control} {e : Entry} (kept : IsKept h slot k) (m : Moved next e kept.state k') (spare spare' : ℕ) (out out' : Out) → Makes (record { opening = k.opening; history = h; spare = spare; slot = slot; out = out }) (record { opening = k'.opening; history = h ++ e ∷ []; spare = spare'; slot = next; out = out' }) e
unfolding kept_more
makes_more kept m spare spare' out out' =
    let more = kept_more kept m in
    let is = state_is more spare' out' in
    record {
      same_opening = m.leaves.same_opening ∙ ap (λ (c : Control). c.opening) kept.is_control;
      longer = refl;
      steps = rw (state_is kept spare out, is) m.steps;
      legal = rw is more.replays;
    }
