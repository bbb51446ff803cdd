-- A codec with blanks for its outputs takes the same steps, and shows the same where they are filled.
use Rattle.std.proofs.Common.{ℕ, ◌≡◌, ◌+◌, ◌≤◌, ◌&&◌, Bool, true, false, eqb, cond, List, [], ◌∷◌, ◌++◌, append_assoc, length, length-append, map, take, filter, count_by, Option, Some, None, is_some, refl, ap, sym, subst, ◌∙◌, arith}
use Rattle.std.specs.Prelude.{unwrap_or, option_map}
use Rattle.std.proofs.lemmas.List.Sums.{length-filter}
use Rattle.std.proofs.lemmas.List.{append-nil, map-append, length-map, length-replicate}
use Rattle.std.proofs.lemmas.Option.{option_and_then_some}
use Rattle.std.proofs.Math.Seq.{take-append_seam}
use Rattle.wc_base.specs.{declared.who.Who.Who, Options.some_same}
use Rattle.wc_config.specs.{declared.config.AudioDecoderConfig.AudioDecoderConfig, declared.kind.Kind.Kind}
use Rattle.codec_definitions.specs.declared.unit.Unit as media
use Rattle.codec_model.specs.declared.entry.{Call.Call, Entry.Entry, Handed.Handed, Work.Work, WorkKind.WorkKind}
use Rattle.codec_model.specs.declared.entry.{Event.Event, Message.Message, Running.Running, Shown.Shown, Task.Task, Ended.Ended, Outcome.Outcome}
use Rattle.codec_model.specs.Control.{Control, is_dequeue, is_desaturate, with_desaturate, is_taken, after_message, process_queue, at_next_place, run_task, done_running, after_reset, after_close, after_take, after_ground, carried, active_after}
use Rattle.codec_model.specs.Replay.{State, Given, opening_state, replay, replay_from, step, ended_of, accepted, call_error, called, may_call, with_control, removed}
use Rattle.codec_model.specs.Shown.{shows, outputs_from, turn_shows, shown_from, shown_at, each_shown_from, word_at, units_in, units_shown, outputs_of}
use Rattle.codec_follow.specs.Follow.{blanks, ended_as, follow_step, follow_from, filled, filled_at, each_filled_from, each_filled}
use Rattle.codec_follow.specs.Erased.{erased_task, erased, erased_state}
use Rattle.codec_follow.specs.Laws.{LegalFollows, LegalFills, StepsErased, UnitsInOrder}
use Rattle.history_laws.specs.CountLaws.{length-carried, outputs_tagged}
use Rattle.codec_model.specs.StepLaws.{task_ran, EachStep, by_removals, by_steps, senders_stay}
use Rattle.codec_follow.proofs.Answered.{some_is, IsAnswered, Sound, step_sound, opened}

abbrev pub erased_end : Ended → Ended
erased_end (Ended.Ran units) = Ended.Ran (blanks (length units))
erased_end e = e

-- blanks stay as they are, and leave no config active
blanks_plain : (n : ℕ) → (carried None (blanks n) ≡ blanks n) × (active_after None (blanks n) ≡ None)
blanks_plain n = grind arith

either_way : {X Y : Type 0} (f : X → Y) (b : Bool) (x y : X) → cond b (f x) (f y) ≡ f (cond b x y)
either_way f b x y = grind arith

pushed : (ts : List Task) (t : Task) → map erased_task (ts ++ t ∷ []) ≡ map erased_task ts ++ erased_task t ∷ []
pushed ts t = map-append erased_task ts (t ∷ [])

pushed_if : (b : Bool) (t : Task) (ts : List Task) → cond b (map erased_task ts ++ erased_task t ∷ []) (map erased_task ts) ≡ map erased_task (cond b (ts ++ t ∷ []) ts)
pushed_if b t ts = grind (arith, pushed)

-- what a test of tasks that reads no units finds
found_erased : (p : Task → Bool) → ((t : Task) → p (erased_task t) ≡ p t) → (ts : List Task) → filter p (map erased_task ts) ≡ map erased_task (filter p ts)
found_erased p same [] = refl
found_erased p same (t ∷ ts) = rw (same t, found_erased p same ts) (either_way (map erased_task) (p t) (t ∷ filter p ts) (filter p ts))

-- ---- calls and removals

taken_erased : (w : Work) (at : ℕ) (ms : List Message) (c : Control) → record (after_message (record { place = at; work = w }) (erased c)) { messages = ms } ≡ erased (record (after_message (record { place = at; work = w }) c) { messages = ms })
taken_erased w at ms c = grind (arith, pushed)

process_erased : (ms : List Message) (c : Control) → process_queue ms (erased c) ≡ erased (process_queue ms c)
process_erased [] c = refl
process_erased (m ∷ ms) c =
    rw (taken_erased m.work m.place ms c, process_erased ms (record (after_message m c) { messages = ms }))
    (either_way erased (is_taken m c) (process_queue ms (record (after_message m c) { messages = ms })) c)

reset_erased : (c : Control) → after_reset (erased c) ≡ erased (after_reset c)
reset_erased c = grind (arith, pushed, found_erased is_dequeue)

close_erased : (c : Control) → after_close (erased c) ≡ erased (after_close c)
close_erased c = grind (arith, reset_erased)

-- what decides over a call reads no output
may_erased : (x : Call) (c : Control) → may_call x (erased c) ≡ may_call x c
may_erased x c = grind arith

error_erased : (x : Call) (c : Control) → call_error x (erased c) ≡ call_error x c
error_erased x c = grind arith

accepted_erased : (x : Call) (c : Control) → accepted x (erased c) ≡ erased (accepted x c)
accepted_erased (Call.Configure config) c = process_erased (c.messages ++ _ ∷ []) _
accepted_erased (Call.Decode chunk) c = process_erased (c.messages ++ _ ∷ []) _
accepted_erased (Call.Encode (Handed.Cloned medium)) c = process_erased (c.messages ++ _ ∷ []) _
accepted_erased Call.Flush c = process_erased (c.messages ++ _ ∷ []) _
accepted_erased Call.Reset c = reset_erased (at_next_place c)
accepted_erased Call.Close c = close_erased (at_next_place c)
accepted_erased x c = refl

called_erased : (who : Who) (x : Call) (s : State) (t : State) → may_call x s.control ≡ true → called (call_error x s.control) x (erased_state s) ≡ erased_state t → follow_step (Entry.Call who x) (erased_state s) ≡ Some (erased_state t)
called_erased who x s t may is = rw (may_erased x s.control, may, error_erased x s.control, is) refl

-- ---- turns

task_erased : (t : Task) (c : Control) → run_task (erased_task t) (erased c) ≡ erased (run_task t c)
task_erased t c = grind (arith, pushed, process_erased c.messages c, process_erased c.messages (record c { saturated = false }), close_erased, blanks_plain, length-replicate)

turn_erased : (t : Task) (ts : List Task) (s : State) → s.control.tasks ≡ t ∷ ts → follow_step Entry.Turn (erased_state s) ≡ Some (erased_state (task_ran t ts s))
turn_erased t ts s first = rw first (grind (arith, task_erased t (record (at_next_place s.control) { tasks = ts })))

-- ---- the ends of items

desaturated_erased : (b : Bool) (ts : List Task) → with_desaturate b (map erased_task ts) ≡ map erased_task (with_desaturate b ts)
desaturated_erased b ts =
    let one = found_erased is_desaturate (elim [ Task.Desaturate ↦ refl | _ ↦ refl ]) ts in
    let count : count_by is_desaturate (map erased_task ts) ≡ count_by is_desaturate ts = sym (length-filter is_desaturate (map erased_task ts)) ∙ (ap length one ∙ (length-map (filter is_desaturate ts) erased_task ∙ length-filter is_desaturate ts)) in
    rw count (pushed_if (b && eqb (count_by is_desaturate ts) 0) Task.Desaturate ts)

done_erased : (r : Running) (e : Ended) (moment : ℕ) (c : Control) → done_running r (erased_end e) moment (erased c) ≡ erased (done_running r e moment c)
done_erased r e moment c = grind (arith, pushed, desaturated_erased, length-replicate)

-- an end that a codec's definition gives is one that follows, with blanks
ends_erased : (k : WorkKind) (g : Given) (o : Outcome) (e : Ended) → IsAnswered k g → ended_of k g o ≡ Some e → ended_as k g o ≡ Some (erased_end e)
ends_erased k g o e answered h = grind (arith, answered, h)

-- ---- entries

each_erased : EachStep (λ e s t. Sound s → follow_step e (erased_state s) ≡ Some (erased_state t))
each_erased = record {
  refused = λ who x error s may e fine. called_erased who x s (with_control (at_next_place s.control) s) may (rw e refl);
  sent = λ who x w s m may e fine. called_erased who x s (with_control (accepted x s.control) s) may (rw (e, senders_stay x w m, accepted_erased x s.control) refl);
  removes_all = λ who x s is e fine. called_erased who x s (removed (accepted x s.control) s) (by_removals (λ y. may_call y s.control ≡ true) refl refl x is) (rw (e, is, accepted_erased x s.control) refl);
  takes = λ who unit s may fine. called_erased who (Call.Take unit) s (with_control (after_take (at_next_place s.control)) s) may refl;
  grounds = λ who to s fine. called_erased who (Call.Ground to) s (with_control (after_ground to (at_next_place s.control)) s) refl refl;
  start = λ i is epoch item s first may fine. grind (arith, first, may);
  done = λ r e epoch item moment o s running own is fine. grind (arith, done_erased r e moment (at_next_place s.control), running, own, ends_erased, is, fine.flushed);
  turn = λ x ts s first fine. turn_erased x ts s first;
  reclaim = λ moment s may fine. grind (arith, may, close_erased);
}

-- One step of a legal history, from blanks.
step_erased : (e : Entry) (s t : State) → step e s ≡ Some t → Sound s → follow_step e (erased_state s) ≡ Some (erased_state t)
step_erased = by_steps (λ e s t. Sound s → follow_step e (erased_state s) ≡ Some (erased_state t)) each_erased

sound_from : (h : List Entry) (s t : State) → Sound s → replay_from h s ≡ Some t → Sound t
sound_from [] s t fine legal = subst Sound (some_same s t legal) fine
sound_from (e ∷ es) s t fine legal = option_and_then_some (replay_from es) (step e s) t legal (λ u is more. sound_from es u t (step_sound e s u is fine) more)

pub steps_erased : StepsErased
steps_erased o h s e t legal is = step_erased e s t is (sound_from h (opening_state o) s (opened o) legal)

-- ---- what is shown with blanks, and filled

-- events with blanks for their outputs, filled with the units of these events, are these
abbrev Fills : Kind → List Event → List Event → Type 0
Fills k xs ys = (us : List media.Unit) → filled k xs (units_in ys ++ us) ≡ (ys, us)

fill_own : (k : Kind) (xs : List Event) → Fills k xs xs
fill_own k [] us = refl
fill_own k (Event.Output number unit ∷ xs) us = ap (λ (p : List Event × List media.Unit). (Event.Output number unit ∷ p.0, p.1)) (fill_own k xs us)
fill_own k (x ∷ xs) us = ap (λ (p : List Event × List media.Unit). (x ∷ p.0, p.1)) (fill_own k xs us)

fill_outputs : (k : Kind) (n : ℕ) (vs : List media.Unit) (xs : List Event) → Fills k (outputs_from n (blanks (length vs)) ++ xs) (outputs_from n vs ++ xs)
fill_outputs k n [] xs us = fill_own k xs us
fill_outputs k n (v ∷ vs) xs us = ap (λ (p : List Event × List media.Unit). (Event.Output n v ∷ p.0, p.1)) (fill_outputs k (n + 1) vs xs us)

-- outputs as they are shown
fill_carried : (k : Kind) (n : ℕ) (active : Option AudioDecoderConfig) (vs : List media.Unit) (xs : List Event) → Fills k (outputs_from n (carried None (blanks (length vs))) ++ xs) (outputs_from n (carried active vs) ++ xs)
fill_carried k n active vs xs us = grind (arith, blanks_plain, length-carried, fill_outputs k n (carried active vs) xs us)

fill_turn : (k : Kind) (ts : List Task) (c : Control) → Fills k (turn_shows (map erased_task ts) (erased c)) (turn_shows ts c)
fill_turn k (Task.Output units ∷ ts) c us = simp append-nil at (fill_carried k c.shown c.active units [] us)
fill_turn k (Task.Flushed promise units ∷ ts) c us = fill_carried k c.shown c.active units (Event.Resolve promise ∷ []) us
fill_turn k ts c us = fill_own k (turn_shows ts c) us

fill_shows : (k : Kind) (e : Entry) (s : State) → Fills k (shows e (erased_state s)) (shows e s)
fill_shows k e s us = grind (arith, fill_turn, fill_own)

word_erased : (e : Entry) (s : State) → word_at e (erased_state s) ≡ word_at e s
word_erased e s = grind arith

-- a legal history follows, and shows the same, with its own outputs
tells : (k : Kind) (h : List Entry) (s t : State) → Sound s → replay_from h s ≡ Some t → (is_some (follow_from h (erased_state s)) ≡ true) × (each_shown_from h s ≡ each_filled_from k h (erased_state s) (outputs_of (shown_from h s)))
tells k [] s t fine legal = (refl, refl)
tells k (e ∷ es) s t fine legal = option_and_then_some (replay_from es) (step e s) t legal (λ u is more.
    let rest = tells k es u t (step_sound e s u is fine) more in
    let units = outputs_of (shown_from es u) in
    let next = step_erased e s u is fine in
    (rw next rest.0, rw (is, outputs_tagged s.control.place (shows e s) (shown_from es u), next, word_erased e s, fill_shows k e s units) (ap (λ (xs : List Shown). shown_at e s ∷ xs) rest.1)))

pub legal_follows : LegalFollows
legal_follows o h legal = let k = some_is (replay o h) legal in (tells o.kind h (opening_state o) k.0 (opened o) k.1).0

pub legal_fills : LegalFills
legal_fills o h legal = let k = some_is (replay o h) legal in (tells o.kind h (opening_state o) k.0 (opened o) k.1).1

-- the units come in order
fill_order : (k : Kind) → (xs : List Event) (us : List media.Unit) → length (units_in (filled k xs us).0) ≤ length us → us ≡ units_in (filled k xs us).0 ++ (filled k xs us).1
fill_order k [] us few = refl
fill_order k (Event.Output number unit ∷ xs) [] few = absurd (omega (arith, few))
fill_order k (Event.Output number unit ∷ xs) (u ∷ us) few = ap (λ (l : List media.Unit). u ∷ l) (fill_order k xs us (omega (arith, few)))
fill_order k (x ∷ xs) us few = fill_order k xs us few

abbrev Begins : List media.Unit → List media.Unit → Type 0
Begins us front = (rest : List media.Unit) × (us ≡ front ++ rest)

order_all : (k : Kind) → (h : List Entry) (s : State) (us : List media.Unit) → length (units_shown (each_filled_from k h s us)) ≤ length us → Begins us (units_shown (each_filled_from k h s us))
order_all k [] s us few = (us, refl)
order_all k (e ∷ es) s us few = elim (follow_step e s) as (λ o. length (units_shown (next o)) ≤ length us → Begins us (units_shown (next o))) [
  | None ↦ λ none. (us, refl)
  | Some t ↦ λ some.
      let front = units_in (filled k (shows e s) us).0 in
      let left = (filled k (shows e s) us).1 in
      let more = units_shown (each_filled_from k es t left) in
      let here = fill_order k (shows e s) us (omega (arith, some, length-append front more)) in
      let later = order_all k es t left (omega (arith, some, length-append front more, length-append front left, ap length here)) in
      (later.0, here ∙ (ap (λ (l : List media.Unit). front ++ l) later.1 ∙ sym (append_assoc front more later.0)))
] few
  where
    next : Option State → List Shown
    next o = unwrap_or (option_map (λ t. filled_at k e s us ∷ each_filled_from k es t (filled k (shows e s) us).1) o) []

pub units_in_order : UnitsInOrder
units_in_order o h us few =
    let front = units_shown (each_filled o h us) in
    let begins = order_all o.kind h (opening_state o) us few in
    sym (ap (λ (l : List media.Unit). take (length front) l) begins.1 ∙ take-append_seam front begins.0)
