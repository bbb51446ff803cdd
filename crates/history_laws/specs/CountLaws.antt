-- A codec's state counts the outputs that its history showed, and an output that was shown stays as it is.
use Rattle.std.proofs.Common.{ℕ, zero, suc, ◌≡◌, ◌+◌, Bool, true, false, eqb, cond, map, List, [], ◌∷◌, ◌++◌, append_assoc, append-nil, length, length-append, slice_get, Option, Some, None, refl, ap, sym, subst, ◌∙◌, arith}
use Rattle.std.specs.Prelude.{max, unwrap_or, option_map, option_and_then}
use Rattle.std.specs.List.{AllByRecursion}
use Rattle.wc_base.specs.Options.{some_same}
use Rattle.wc_config.specs.declared.config.AudioDecoderConfig.{AudioDecoderConfig}
use Rattle.codec_definitions.specs.declared.unit.Unit as media
use Rattle.codec_definitions.specs.declared.unit.Unit.TheVariants as unit
use Rattle.codec_model.specs.declared.entry.Opening.{Opening}
use Rattle.codec_model.specs.declared.entry.Call.{Call}
use Rattle.codec_model.specs.declared.entry.Entry.{Entry}
use Rattle.codec_model.specs.declared.entry.Event.{Event}
use Rattle.codec_model.specs.declared.entry.Event.TheVariants as event
use Rattle.codec_model.specs.declared.entry.Work.{Work}
use Rattle.codec_model.specs.declared.entry.Running.{Running}
use Rattle.codec_model.specs.declared.entry.Task.{Task}
use Rattle.codec_model.specs.declared.entry.Task.TheVariants as task
use Rattle.codec_model.specs.declared.entry.Ended.{Ended}
use Rattle.codec_model.specs.Control.{Control, process_queue, at_next_place, run_task, done_running, after_end, carried}
use Rattle.codec_model.specs.Replay.{State, opening_state, step, replay, replay_from, accepted, removes}
use Rattle.codec_model.specs.Shown.{outputs_from, task_shows, task_carried, turn_shows, shows, shown, shown_from, each_shown, each_shown_from, event_units, units_in, outputs_of}
use Rattle.codec_model.specs.StepLaws.{task_ran, EachStep, by_items, by_removals, by_steps, Sends, asked, call_sends, closing_units, turn_units, units_by_turns}
use Rattle.history_laws.specs.OutputLaws.{all_append, units_append}

-- ---- what entries show

output_units : (n : ℕ) (us : List media.Unit) → units_in (outputs_from n us) ≡ us
output_units n [] = refl
output_units n (u ∷ us) = ap (λ (l : List media.Unit). u ∷ l) (output_units (n + 1) us)

flushed_units : (n promise : ℕ) (us : List media.Unit) → units_in (outputs_from n us ++ event.Resolve promise ∷ []) ≡ us
flushed_units n promise us = units_append (outputs_from n us) (event.Resolve promise ∷ []) ∙ (append-nil (units_in (outputs_from n us)) ∙ output_units n us)

pub length-carried : (active : Option AudioDecoderConfig) (us : List media.Unit) → length (carried active us) ≡ length us
length-carried active [] = refl
length-carried active (unit.Sound samples ∷ us) = refl
length-carried active (unit.Image picture ∷ us) = refl
length-carried active (unit.Coded chunk None ∷ us) = refl
length-carried active (unit.Coded chunk (Some c) ∷ us) = refl

-- ---- what entries count

process_shown : (c : Control) → (process_queue c.messages c).shown ≡ c.shown
process_shown c = by_items (λ (d : Control). d.shown ≡ c.shown) (λ m ms d blocked saturated scheduled event size few e h. h) c.messages c refl refl

sent_shown : (w : Work) (c d : Control) → Sends w c d → d.shown ≡ c.shown
sent_shown w c d k = let before = asked c k.phase k.key_required k.size k.pending in rw k.is (process_shown (record before { messages = before.messages ++ record { place = c.place; work = w } ∷ [] }))

removal_shown : (x : Call) (c : Control) → removes x ≡ true → (accepted x c).shown ≡ c.shown
removal_shown x c is = by_removals (λ y. (accepted y c).shown ≡ c.shown) refl refl x is

end_shown : (r : Running) (e : Ended) (moment : ℕ) (c : Control) → (done_running r e moment c).shown ≡ c.shown
end_shown r e moment c = by (eqb r.epoch c.epoch)
  where
    by : (b : Bool) → (cond b (after_end r e (record c { running = None; progress = Some (max moment (unwrap_or c.progress moment)) })) (record c { running = None })).shown ≡ c.shown
    by true = refl
    by false = refl

run_shown : (x : Task) (c d : Control) → (run_task x d).shown ≡ d.shown + length (units_in (task_shows (task_carried c.active x) c.shown c.pending))
run_shown task.Process c d = omega (arith, process_shown d)
run_shown task.Desaturate c d = omega (arith, process_shown (record d { saturated = false }))
run_shown (task.Output units) c d = ap (λ (n : ℕ). d.shown + n) (sym (ap (λ (us : List media.Unit). length us) (output_units c.shown (carried c.active units)) ∙ length-carried c.active units))
run_shown (task.Flushed promise units) c d = ap (λ (n : ℕ). d.shown + n) (sym (ap (λ (us : List media.Unit). length us) (flushed_units c.shown promise (carried c.active units)) ∙ length-carried c.active units))
run_shown (task.Close x) c d = rw (closing_units x c.pending) (omega arith)
run_shown x c d = omega arith

-- an entry counts the outputs of its turn, if it is one
abbrev Counts : Entry → State → State → Type 0
Counts e s t = t.control.shown ≡ s.control.shown + length (turn_units e s)

same_count : (m n : ℕ) → m ≡ n → m ≡ n + 0
same_count m n h = omega (arith, h)

each_counts : EachStep Counts
each_counts = record {
  refused = λ who x error s may e. omega arith;
  sent = λ who x w s m may e. same_count _ _ (sent_shown w s.control _ (call_sends x w s.control m));
  removes_all = λ who x s is e. same_count _ _ (removal_shown x s.control is);
  takes = λ who unit s may. omega arith;
  grounds = λ who to s. omega arith;
  start = λ i is epoch item s first may. omega arith;
  done = λ r e epoch item moment x s running own is. same_count _ _ (end_shown r e moment (at_next_place s.control));
  turn = λ x ts s first. subst (λ (l : List Task). (task_ran x ts s).control.shown ≡ s.control.shown + length (units_in (turn_shows l s.control))) (sym first) (run_shown x s.control (record (at_next_place s.control) { tasks = ts }));
  reclaim = λ moment s may. omega arith;
}

-- an entry counts the outputs that it shows
pub step_counts : (e : Entry) (s t : State) → step e s ≡ Some t → t.control.shown ≡ s.control.shown + length (units_in (shows e s))
step_counts e s t is = by_steps Counts each_counts e s t is ∙ ap (λ (us : List media.Unit). s.control.shown + length us) (sym (units_by_turns e s))

-- ---- histories

pub outputs_tagged : (place : ℕ) (xs : List Event) (ys : List (ℕ × Event)) → outputs_of (map (λ x. (place, x)) xs ++ ys) ≡ units_in xs ++ outputs_of ys
outputs_tagged place [] ys = refl
outputs_tagged place (x ∷ xs) ys = ap (λ (us : List media.Unit). event_units x ++ us) (outputs_tagged place xs ys) ∙ sym (append_assoc (event_units x) (units_in xs) (outputs_of ys))

counts_rest : (e : Entry) (es : List Entry) (s t : State) (o : Option State) → step e s ≡ o → option_and_then (replay_from es) o ≡ Some t
    → ((u : State) → replay_from es u ≡ Some t → t.control.shown ≡ u.control.shown + length (outputs_of (shown_from es u)))
    → t.control.shown ≡ s.control.shown + length (units_in (shows e s) ++ outputs_of (unwrap_or (option_map (shown_from es) o) []))
counts_rest e es s t None is r more = absurd cc
counts_rest e es s t (Some u) is r more = omega (arith, more u r, step_counts e s u is, length-append (units_in (shows e s)) (outputs_of (shown_from es u)))

counts_from : (h : List Entry) (s t : State) → replay_from h s ≡ Some t → t.control.shown ≡ s.control.shown + length (outputs_of (shown_from h s))
counts_from [] s t r = omega (arith, ap (λ (u : State). u.control.shown) (some_same s t r))
counts_from (e ∷ es) s t r =
    rw (outputs_tagged s.control.place (shows e s) (unwrap_or (option_map (shown_from es) (step e s)) []))
    (counts_rest e es s t (step e s) refl r (λ u k. counts_from es u t k))

-- the state after a legal history counts its outputs
pub shown_counted : (o : Opening) (h : List Entry) (s : State) → replay o h ≡ Some s → s.control.shown ≡ length (outputs_of (shown o h))
shown_counted o h s r = omega (arith, counts_from h (opening_state o) s r)

-- what was shown, and more behind it
abbrev Grows : List media.Unit → List media.Unit → Type 0
Grows old new = (rest : List media.Unit) × (new ≡ old ++ rest)

grows_rest : (es more : List Entry) (us : List media.Unit) (o : Option State)
    → ((u : State) → Grows (outputs_of (shown_from es u)) (outputs_of (shown_from (es ++ more) u)))
    → Grows (us ++ outputs_of (unwrap_or (option_map (shown_from es) o) [])) (us ++ outputs_of (unwrap_or (option_map (shown_from (es ++ more)) o) []))
grows_rest es more us None ih = ([], sym (append-nil (us ++ [])))
grows_rest es more us (Some u) ih = let k = ih u in (k.0, ap (λ (vs : List media.Unit). us ++ vs) k.1 ∙ sym (append_assoc us (outputs_of (shown_from es u)) k.0))

grows_from : (h more : List Entry) (s : State) → Grows (outputs_of (shown_from h s)) (outputs_of (shown_from (h ++ more) s))
grows_from [] more s = (outputs_of (shown_from more s), refl)
grows_from (e ∷ es) more s =
    rw (outputs_tagged s.control.place (shows e s) (unwrap_or (option_map (shown_from es) (step e s)) []), outputs_tagged s.control.place (shows e s) (unwrap_or (option_map (shown_from (es ++ more)) (step e s)) []))
    (grows_rest es more (units_in (shows e s)) (step e s) (grows_from es more))

get_front : {X : Type 0} (xs ys : List X) (n : ℕ) (x : X) → slice_get xs n ≡ Some x → slice_get (xs ++ ys) n ≡ Some x
get_front [] ys n x h = absurd cc
get_front (y ∷ xs) ys zero x h = h
get_front (y ∷ xs) ys (suc n) x h = get_front xs ys n x h

-- an output that a history showed stays, whatever comes after it
pub outputs_stay : (o : Opening) (h more : List Entry) (n : ℕ) (u : media.Unit) → slice_get (outputs_of (shown o h)) n ≡ Some u → slice_get (outputs_of (shown o (h ++ more))) n ≡ Some u
outputs_stay o h more n u is = let k = grows_from h more (opening_state o) in rw k.1 (get_front (outputs_of (shown o h)) k.0 n u is)

-- what holds of the outputs of each entry holds of all
each_rest : (P : media.Unit → Type 0) (es : List Entry) (o : Option State) → ((u : State) → AllByRecursion (λ x. AllByRecursion P (units_in x.events)) (each_shown_from es u) → AllByRecursion P (outputs_of (shown_from es u)))
    → AllByRecursion (λ x. AllByRecursion P (units_in x.events)) (unwrap_or (option_map (each_shown_from es) o) []) → AllByRecursion P (outputs_of (unwrap_or (option_map (shown_from es) o) []))
each_rest P es None more h = tt
each_rest P es (Some u) more h = more u h

each_from : (P : media.Unit → Type 0) (h : List Entry) (s : State) → AllByRecursion (λ x. AllByRecursion P (units_in x.events)) (each_shown_from h s) → AllByRecursion P (outputs_of (shown_from h s))
each_from P [] s all = tt
each_from P (e ∷ es) s all =
    rw (outputs_tagged s.control.place (shows e s) (unwrap_or (option_map (shown_from es) (step e s)) []))
    (all_append P (units_in (shows e s)) (outputs_of (unwrap_or (option_map (shown_from es) (step e s)) [])) all.0 (each_rest P es (step e s) (each_from P es) all.1))

pub outputs_each : (P : media.Unit → Type 0) (o : Opening) (h : List Entry) → AllByRecursion (λ x. AllByRecursion P (units_in x.events)) (each_shown o h) → AllByRecursion P (outputs_of (shown o h))
outputs_each P o h all = each_from P h (opening_state o) all
