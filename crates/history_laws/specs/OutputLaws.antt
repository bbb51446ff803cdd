-- What every output of a history is, where its configs and inputs are such and a codec's definition gives such outputs for
-- them.
use Rattle.std.proofs.Common.{ℕ, ◌≡◌, ◌+◌, ◌&&◌, not, Bool, true, false, eqb, cond, List, [], ◌∷◌, ◌++◌, length, Option, Some, None, is_some, refl, ap, sym, subst, ◌∙◌, append_assoc}
use Rattle.std.specs.Prelude.{option_map, unwrap_or, max, count_by, filter}
use Rattle.std.specs.List.{AllByRecursion}
use Rattle.wc_config.specs.Configs.{coder_id_of}
use Rattle.wc_config.specs.declared.config.AudioDecoderConfig.{AudioDecoderConfig}
use Rattle.codec_definitions.specs.declared.unit.Unit as media
use Rattle.codec_definitions.specs.declared.unit.Unit.TheVariants as unit
use Rattle.codec_definitions.specs.declared.command.Command.{Command}
use Rattle.codec_definitions.specs.declared.command.Command.TheVariants as command
use Rattle.codec_model.specs.declared.entry.Opening.{Opening}
use Rattle.codec_model.specs.declared.entry.Call.{Call}
use Rattle.codec_model.specs.declared.entry.Entry.{Entry}
use Rattle.codec_model.specs.declared.entry.Entry.TheVariants as entry
use Rattle.codec_model.specs.declared.entry.Event.{Event}
use Rattle.codec_model.specs.declared.entry.Event.TheVariants as event
use Rattle.codec_model.specs.declared.entry.Work.{Work}
use Rattle.codec_model.specs.declared.entry.WorkKind.{WorkKind}
use Rattle.codec_model.specs.declared.entry.WorkKind.TheVariants as item
use Rattle.codec_model.specs.declared.entry.Message.{Message}
use Rattle.codec_model.specs.declared.entry.Item.{Item}
use Rattle.codec_model.specs.declared.entry.Running.{Running}
use Rattle.codec_model.specs.declared.entry.Task.{Task}
use Rattle.codec_model.specs.declared.entry.Task.TheVariants as task
use Rattle.codec_model.specs.declared.entry.Ended.{Ended}
use Rattle.codec_model.specs.declared.entry.Ended.TheVariants as ended
use Rattle.codec_model.specs.declared.entry.Outcome.{Outcome}
use Rattle.codec_model.specs.Control.{Control, process_queue, at_next_place, run_task, done_running, after_end, is_dequeue, is_desaturate, with_desaturate, after_reset, after_close, after_take, after_ground, carried, is_active}
use Rattle.codec_model.specs.Replay.{State, Given, command_of, decoder_config, labelled, given_more, answer_to, opening_state, nothing_given, step, ended_of, accepted, removes, removed, with_control}
use Rattle.codec_model.specs.Shown.{outputs_from, turn_shows, shows, event_units, units_in, each_shown, each_shown_from}
use Rattle.history_laws.specs.Outputs.{IsOwnWork, MayCarry, Judge, HoldsOwn, own_call}
use Rattle.history_laws.specs.Answers.{ran_answer, answer_where}
use Rattle.codec_model.specs.StepLaws.{given_past, begun, task_ran, EachStep, by_items, by_removals, by_work, by_steps, Sends, asked, call_sends, closing_units, turn_units, units_by_turns}

pub all_append : {X : Type 0} (P : X → Type 0) (xs ys : List X) → AllByRecursion P xs → AllByRecursion P ys → AllByRecursion P (xs ++ ys)
all_append P [] ys h k = k
all_append P (x ∷ xs) ys h k = (h.0, all_append P xs ys h.1 k)

all_more : {X : Type 0} (P : X → Type 0) (xs : List X) (y : X) → AllByRecursion P xs → P y → AllByRecursion P (xs ++ y ∷ [])
all_more P xs y h k = all_append P xs (y ∷ []) h (k, tt)

-- ---- what a codec's definition answers

abbrev pub AllOf : Judge → List media.Unit → Type 0
AllOf k us = AllByRecursion k.output us

abbrev pub IsOwn : Judge → Command → Type 0
IsOwn k x = k.input x

-- the config and the inputs that a coder was given are such
abbrev pub IsOwnGiven : Judge → Given → Type 0
IsOwnGiven k g = k.config g.config × AllByRecursion (IsOwn k) g.commands

none_given : (k : Judge) → IsOwnGiven k nothing_given
none_given k = (k.nothing, tt)

label_own : (k : Judge) (o : Option AudioDecoderConfig) (us : List media.Unit) → MayCarry k.config o → AllOf k us → AllOf k (labelled o us)
label_own k None us fine h = h
label_own k (Some d) [] fine h = h
label_own k (Some d) (unit.Sound samples ∷ us) fine h = h
label_own k (Some d) (unit.Image picture ∷ us) fine h = h
label_own k (Some d) (unit.Coded chunk config ∷ us) fine h = (k.relabel chunk config (Some d) fine h.0, h.1)

given_of : (k : Judge) (w : WorkKind) (g : Given) (us : List media.Unit) → IsOwnGiven k g → answer_to w g ≡ Some us → AllOf k us
given_of k w g us own h =
    answer_where (IsOwn k) (AllOf k) w g us tt (λ id before x vs fine is. k.gives id g.config before x vs own.0 fine is)
    (λ vs coder all. label_own k (decoder_config g.config) vs (by coder (decoder_config g.config) refl) all) own.1 h
  where
    by : is_some (coder_id_of g.config) ≡ true → (o : Option AudioDecoderConfig) → decoder_config g.config ≡ o → MayCarry k.config o
    by coder None is = tt
    by coder (Some d) is = record { config = g.config; passed = own.0; has_coder = coder; decodes = is }

-- ---- states

abbrev pub HoldsWork : Judge → Work → Type 0
HoldsWork k w = IsOwnWork k.config k.input w

abbrev pub IsOwnTask : Judge → Task → Type 0
IsOwnTask k (task.Output units) = AllOf k units
IsOwnTask k (task.Flushed promise units) = AllOf k units
IsOwnTask k t = Unit {0}

abbrev pub AreOwnMessages : Judge → List Message → Type 0
AreOwnMessages k ms = AllByRecursion (λ m. HoldsWork k m.work) ms

abbrev pub AreOwnTasks : Judge → List Task → Type 0
AreOwnTasks k ts = AllByRecursion (IsOwnTask k) ts

pub record OwnControl (k : Judge) (c : Control) : Type 0 where
  pub messages : AreOwnMessages k c.messages
  pub items : AllByRecursion (λ i. HoldsWork k i.work) c.work
  pub tasks : AreOwnTasks k c.tasks

pub record Own (k : Judge) (s : State) : Type 0 where
  pub control : OwnControl k s.control
  pub given : IsOwnGiven k s.given
  pub busy : IsOwnGiven k s.running_given

dequeue_own : (k : Judge) (b : Bool) (ts : List Task) → AreOwnTasks k ts → AreOwnTasks k (cond b (ts ++ task.Dequeue ∷ []) ts)
dequeue_own k true ts h = all_more (IsOwnTask k) ts task.Dequeue h tt
dequeue_own k false ts h = h

processed_own : (k : Judge) (c : Control) → OwnControl k c → OwnControl k (process_queue c.messages c)
processed_own k c own = by_items (OwnControl k) (λ m ms d blocked saturated scheduled event size few e h.
    let all : AreOwnMessages k (m ∷ ms) = subst (AreOwnMessages k) e h.messages in
    record {
      messages = all.1;
      items = all_more (λ (i : Item). HoldsWork k i.work) d.work (record { number = d.next_item; place = m.place; work = m.work }) h.items all.0;
      tasks = dequeue_own k event d.tasks h.tasks;
    }) c.messages c refl own

-- ---- calls

queued_own : (k : Judge) (c : Control) (m : Message) → OwnControl k c → HoldsWork k m.work → OwnControl k (record c { messages = c.messages ++ m ∷ [] })
queued_own k c m h w = record {
  messages = all_more (λ (x : Message). HoldsWork k x.work) c.messages m h.messages w;
  items = h.items;
  tasks = h.tasks;
}

-- the same messages, items and tasks
same_own : (k : Judge) (c d : Control) → d.messages ≡ c.messages → d.work ≡ c.work → d.tasks ≡ c.tasks → OwnControl k c → OwnControl k d
same_own k c d messages items tasks h = record {
  messages = rw messages (h.messages);
  items = rw items (h.items);
  tasks = rw tasks (h.tasks);
}

sent_own : (k : Judge) (w : Work) (c d : Control) → Sends w c d → HoldsWork k w → OwnControl k c → OwnControl k d
sent_own k w c d s own h =
    let before = asked c s.phase s.key_required s.size s.pending in
    let m : Message = record { place = c.place; work = w } in
    rw s.is (processed_own k (record before { messages = before.messages ++ m ∷ [] }) (same_own k _ _ refl refl refl (queued_own k c m h own)))

-- ---- removals

filtered_own : (k : Judge) (ts : List Task) → AreOwnTasks k ts → AreOwnTasks k (filter is_dequeue ts)
filtered_own k [] h = tt
filtered_own k (task.Unblock ∷ ts) h = filtered_own k ts h.1
filtered_own k (task.Process ∷ ts) h = filtered_own k ts h.1
filtered_own k (task.Desaturate ∷ ts) h = filtered_own k ts h.1
filtered_own k (task.Output units ∷ ts) h = filtered_own k ts h.1
filtered_own k (task.Flushed promise units ∷ ts) h = filtered_own k ts h.1
filtered_own k (task.Dequeue ∷ ts) h = (tt, filtered_own k ts h.1)
filtered_own k (task.Close error ∷ ts) h = filtered_own k ts h.1

reset_own : (k : Judge) (c : Control) → OwnControl k c → OwnControl k (after_reset c)
reset_own k c h = record {
  messages = tt;
  items = tt;
  tasks = dequeue_own k (not (eqb c.size 0) && not c.scheduled) (filter is_dequeue c.tasks) (filtered_own k c.tasks h.tasks);
}

removed_own : (k : Judge) (c : Control) (s : State) → OwnControl k c → Own k s → Own k (removed c s)
removed_own k c s h own = record { control = h; given = none_given k; busy = own.busy }

with_own : (k : Judge) (c : Control) (s : State) → OwnControl k c → Own k s → Own k (with_control c s)
with_own k c s h own = record { control = h; given = own.given; busy = own.busy }

entered_own : (k : Judge) (c : Control) → OwnControl k c → OwnControl k (at_next_place c)
entered_own k c h = same_own k c (at_next_place c) refl refl refl h

closed_own : (k : Judge) (c : Control) → OwnControl k c → OwnControl k (after_close c)
closed_own k c h = same_own k (after_reset c) (after_close c) refl refl refl (reset_own k c h)

removal_own : (k : Judge) (x : Call) (s : State) → removes x ≡ true → Own k s → Own k (removed (accepted x s.control) s)
removal_own k x s is own = by_removals (λ y. Own k (removed (accepted y s.control) s))
    (removed_own k _ s (reset_own k (at_next_place s.control) (entered_own k s.control own.control)) own)
    (removed_own k _ s (closed_own k (at_next_place s.control) (entered_own k s.control own.control)) own) x is

-- ---- starts

more_own : (k : Judge) (w : Work) (g : Given) → HoldsWork k w → IsOwnGiven k g → IsOwnGiven k (given_more w g)
more_own k w g own h =
    by_work (λ x. HoldsWork k x → IsOwnGiven k (given_more x g)) (λ config fine. (fine, tt)) (λ input fine. (h.0, all_more (IsOwn k) g.commands (command_of input) h.1 fine))
    (λ fine. (h.0, all_more (IsOwn k) g.commands command.Drain h.1 k.drained)) w own

begun_own : (k : Judge) (i : Item) (is : List Item) (s : State) → s.control.work ≡ i ∷ is → Own k s → Own k (begun (i ∷ is) i s)
begun_own k i is s first h =
    let items : AllByRecursion (λ j. HoldsWork k j.work) (i ∷ is) = subst (λ (l : List Item). AllByRecursion (λ j. HoldsWork k j.work) l) first h.control.items in
    let own = more_own k i.work s.given items.0 h.given in
    record { control = record { messages = h.control.messages; items = items.1; tasks = h.control.tasks }; given = own; busy = own }

-- ---- ends of items

task_own : (k : Judge) (c : Control) (t : Task) → OwnControl k c → IsOwnTask k t → OwnControl k (record c { tasks = c.tasks ++ t ∷ [] })
task_own k c t h own = record { messages = h.messages; items = h.items; tasks = all_more (IsOwnTask k) c.tasks t h.tasks own }

desaturated_own : (k : Judge) (b : Bool) (ts : List Task) → AreOwnTasks k ts → AreOwnTasks k (cond b (ts ++ task.Desaturate ∷ []) ts)
desaturated_own k true ts h = all_more (IsOwnTask k) ts task.Desaturate h tt
desaturated_own k false ts h = h

output_own : (k : Judge) (b : Bool) (ts : List Task) (us : List media.Unit) → AreOwnTasks k ts → AllOf k us → AreOwnTasks k (cond b ts (ts ++ task.Output us ∷ []))
output_own k true ts us h own = h
output_own k false ts us h own = all_more (IsOwnTask k) ts (task.Output us) h own

ran_own : (k : Judge) (epoch number place : ℕ) (w : WorkKind) (us : List media.Unit) (c : Control) → OwnControl k c → AllOf k us → OwnControl k (after_end (record { epoch = epoch; number = number; place = place; kind = w }) (ended.Ran us) c)
ran_own k epoch number place item.Configure us c h own = task_own k c task.Unblock h tt
ran_own k epoch number place item.Coded us c h own = record {
  messages = h.messages;
  items = h.items;
  tasks = output_own k (eqb (length us) 0) (with_desaturate c.saturated c.tasks) us (desaturated_own k (c.saturated && eqb (count_by is_desaturate c.tasks) 0) c.tasks h.tasks) own;
}
ran_own k epoch number place item.Flush us c h own = task_own k c (task.Flushed place us) h own

settled_own : (k : Judge) (r : Running) (e : Ended) (c : Control) → OwnControl k c → ((us : List media.Unit) → e ≡ ended.Ran us → AllOf k us) → OwnControl k (after_end r e c)
settled_own k r (ended.Ran us) c h own = ran_own k r.epoch r.number r.place r.kind us c h (own us refl)
settled_own k r ended.Refused c h own = task_own k _ (task.Close _) (same_own k c (record c { halted = true }) refl refl refl h) tt
settled_own k r (ended.NoSlot n) c h own = task_own k _ (task.Close _) (same_own k c (record c { halted = true }) refl refl refl h) tt
settled_own k r ended.NoMemory c h own = task_own k _ (task.Close _) (same_own k c (record c { halted = true }) refl refl refl h) tt

done_own : (k : Judge) (r : Running) (e : Ended) (moment : ℕ) (c : Control) → OwnControl k c → ((us : List media.Unit) → e ≡ ended.Ran us → AllOf k us) → OwnControl k (done_running r e moment (at_next_place c))
done_own k r e moment c h own = by (eqb r.epoch c.epoch)
  where
    by : (b : Bool) → OwnControl k (cond b (after_end r e (record (at_next_place c) { running = None; progress = Some (max moment (unwrap_or c.progress moment)) })) (record (at_next_place c) { running = None }))
    by true = settled_own k r e _ (same_own k c _ refl refl refl h) own
    by false = same_own k c _ refl refl refl h

ended_own : (k : Judge) (r : Running) (e : Ended) (moment : ℕ) (x : Outcome) (s : State) → ended_of r.kind s.running_given x ≡ Some e → Own k s → Own k (with_control (done_running r e moment (at_next_place s.control)) s)
ended_own k r e moment x s is h =
    with_own k _ s (done_own k r e moment s.control h.control (λ us ran. given_of k r.kind s.running_given us h.busy (ran_answer r.kind s.running_given x us (is ∙ ap (λ (y : Ended). Some y) ran)))) h

-- ---- turns

run_own : (k : Judge) (t : Task) (c : Control) → OwnControl k c → OwnControl k (run_task t c)
run_own k task.Unblock c h = task_own k (record c { blocked = false }) task.Process (same_own k c _ refl refl refl h) tt
run_own k task.Process c h = processed_own k c h
run_own k task.Desaturate c h = processed_own k (record c { saturated = false }) (same_own k c _ refl refl refl h)
run_own k (task.Output units) c h = same_own k c _ refl refl refl h
run_own k (task.Flushed promise units) c h = same_own k c _ refl refl refl h
run_own k task.Dequeue c h = same_own k c _ refl refl refl h
run_own k (task.Close x) c h = closed_own k c h

left_own : (k : Judge) (t : Task) (ts : List Task) (c : Control) → c.tasks ≡ t ∷ ts → OwnControl k c → OwnControl k (record (at_next_place c) { tasks = ts })
left_own k t ts c e h =
    let tasks : AreOwnTasks k (t ∷ ts) = subst (λ (l : List Task). AreOwnTasks k l) e h.tasks in
    record { messages = h.messages; items = h.items; tasks = tasks.1 }

past_own : (k : Judge) (t : Task) (g : Given) → IsOwnGiven k g → IsOwnGiven k (given_past t g)
past_own k (task.Close x) g h = none_given k
past_own k t g h = h

task_ran_own : (k : Judge) (t : Task) (ts : List Task) (s : State) → s.control.tasks ≡ t ∷ ts → Own k s → Own k (task_ran t ts s)
task_ran_own k t ts s first h = record { control = run_own k t _ (left_own k t ts s.control first h.control); given = past_own k t s.given h.given; busy = h.busy }

-- ---- entries

entry_own : (k : Judge) (s : State) → Own k s → Own k (with_control (at_next_place s.control) s)
entry_own k s h = with_own k _ s (entered_own k s.control h.control) h

each_own : (k : Judge) → EachStep (λ e s t. HoldsOwn k e → Own k s → Own k t)
each_own k = record {
  refused = λ who x error s may e own h. entry_own k s h;
  sent = λ who x w s m may e own h. with_own k _ s (sent_own k w s.control _ (call_sends x w s.control m) (own_call k.config k.input who x w s.control own m e) h.control) h;
  removes_all = λ who x s is e own h. removal_own k x s is h;
  takes = λ who unit s may own h. with_own k _ s (same_own k s.control (after_take (at_next_place s.control)) refl refl refl h.control) h;
  grounds = λ who to s own h. with_own k _ s (same_own k s.control (after_ground to (at_next_place s.control)) refl refl refl h.control) h;
  start = λ i is epoch item s first may own h. begun_own k i is s first h;
  done = λ r e epoch item moment x s running this is own h. ended_own k r e moment x s is h;
  turn = λ x ts s first own h. task_ran_own k x ts s first h;
  reclaim = λ moment s may own h. removed_own k _ s (closed_own k (at_next_place s.control) (entered_own k s.control h.control)) h;
}

pub step_own : (k : Judge) (e : Entry) (s t : State) → step e s ≡ Some t → HoldsOwn k e → Own k s → Own k t
step_own k = by_steps (λ e s t. HoldsOwn k e → Own k s → Own k t) (each_own k)

pub opening_own : (k : Judge) (o : Opening) → Own k (opening_state o)
opening_own k o = record { control = record { messages = tt; items = tt; tasks = tt }; given = none_given k; busy = none_given k }

-- ---- what entries show

outputs_own : (k : Judge) (n : ℕ) (us : List media.Unit) → AllOf k us → AllOf k (units_in (outputs_from n us))
outputs_own k n [] h = tt
outputs_own k n (u ∷ us) h = (h.0, outputs_own k (n + 1) us h.1)

pub units_append : (xs ys : List Event) → units_in (xs ++ ys) ≡ units_in xs ++ units_in ys
units_append [] ys = refl
units_append (x ∷ xs) ys =
    ap (λ (us : List media.Unit). event_units x ++ us) (units_append xs ys)
    ∙ sym (append_assoc (event_units x) (units_in xs) (units_in ys))

flushed_own : (k : Judge) (n promise : ℕ) (us : List media.Unit) → AllOf k us → AllOf k (units_in (outputs_from n us ++ event.Resolve promise ∷ []))
flushed_own k n promise [] h = tt
flushed_own k n promise (u ∷ us) h = (h.0, flushed_own k (n + 1) promise us h.1)

carried_own : (k : Judge) (active : Option AudioDecoderConfig) (us : List media.Unit) → AllOf k us → AllOf k (carried active us)
carried_own k active [] h = tt
carried_own k active (unit.Sound samples ∷ us) h = h
carried_own k active (unit.Image picture ∷ us) h = h
carried_own k active (unit.Coded chunk None ∷ us) h = h
carried_own k active (unit.Coded chunk (Some c) ∷ us) h = by (is_active active c)
  where
    by : (b : Bool) → AllOf k (unit.Coded chunk (cond b None (Some c)) ∷ us)
    by true = (k.relabel chunk (Some c) None tt h.0, h.1)
    by false = h

turn_own : (k : Judge) (ts : List Task) (c : Control) → AreOwnTasks k ts → AllOf k (units_in (turn_shows ts c))
turn_own k [] c h = tt
turn_own k (task.Output units ∷ ts) c h = outputs_own k _ (carried c.active units) (carried_own k c.active units h.0)
turn_own k (task.Flushed promise units ∷ ts) c h = flushed_own k _ promise (carried c.active units) (carried_own k c.active units h.0)
turn_own k (task.Close error ∷ ts) c h = rw (closing_units error c.pending) tt
turn_own k (t ∷ ts) c h = tt

shows_own : (k : Judge) (e : Entry) (s : State) → Own k s → AllOf k (units_in (shows e s))
shows_own k e s h = subst (AllOf k) (sym (units_by_turns e s)) (by e)
  where
    by : (x : Entry) → AllOf k (turn_units x s)
    by entry.Turn = turn_own k s.control.tasks s.control h.control.tasks
    by x = tt

-- what each entry shows is such, one after another after a state
shown_own : (k : Judge) (es : List Entry) (s : State) → AllByRecursion (HoldsOwn k) es → Own k s → AllByRecursion (λ x. AllOf k (units_in x.events)) (each_shown_from es s)
shown_own k [] s own h = tt
shown_own k (e ∷ es) s own h = (shows_own k e s h, after (step e s) refl (λ t. shown_own k es t own.1))
  where
    after : (o : Option State) → step e s ≡ o → ((t : State) → Own k t → AllByRecursion (λ x. AllOf k (units_in x.events)) (each_shown_from es t)) → AllByRecursion (λ x. AllOf k (units_in x.events)) (unwrap_or (option_map (each_shown_from es) o) [])
    after None is more = tt
    after (Some t) is more = more t (step_own k e s t is own.0 h)

pub outputs_are : (k : Judge) (o : Opening) (h : List Entry) → AllByRecursion (HoldsOwn k) h → AllByRecursion (λ x. AllOf k (units_in x.events)) (each_shown o h)
outputs_are k o h own = shown_own k h (opening_state o) own (opening_own k o)
