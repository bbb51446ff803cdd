-- What legal entries do to a codec's state, case by case: what holds in each case holds of each step.
use Rattle.std.proofs.Common.{ℕ, ◌≡◌, ◌≤◌, ◌+◌, ◌-◌, ◌&&◌, not, Bool, true, false, eqb, cond, List, [], ◌∷◌, ◌++◌, Option, Some, None, is_some, is_none, refl, ap, sym, subst, ◌∙◌, arith}
use Rattle.std.specs.Prelude.{◌||◌, unwrap_or}
use Rattle.std.proofs.lemmas.Bool.{and_parts}
use Rattle.wc_base.specs.declared.error.DomError.{DomError}
use Rattle.wc_base.specs.declared.error.DomError.TheVariants as dom
use Rattle.wc_base.specs.declared.who.Who.{Who}
use Rattle.wc_base.specs.declared.ground.Ground.{Ground}
use Rattle.wc_base.specs.Options.{cond_is, some_same}
use Rattle.wc_config.specs.declared.config.Config.{Config}
use Rattle.wc_config.specs.declared.codec.CoderId.{CoderId}
use Rattle.wc_config.specs.Configs.{is_valid, is_supported, coder_id_of}
use Rattle.codec_model.specs.declared.entry.Call.{Call}
use Rattle.codec_model.specs.declared.entry.Call.TheVariants as call
use Rattle.codec_model.specs.declared.entry.CodecState.{CodecState}
use Rattle.codec_model.specs.declared.entry.CodecState.TheVariants.{Configured, Closed}
use Rattle.codec_model.specs.declared.entry.Coded.{Coded}
use Rattle.codec_model.specs.declared.entry.Work.{Work}
use Rattle.codec_model.specs.declared.entry.Work.TheVariants as work
use Rattle.codec_model.specs.declared.entry.WorkKind.{WorkKind}
use Rattle.codec_model.specs.declared.entry.WorkKind.TheVariants as kind
use Rattle.codec_definitions.specs.declared.unit.Unit as media
use Rattle.codec_definitions.specs.Answers.{last_answer}
use Rattle.codec_model.specs.declared.entry.Handed.TheVariants as handed
use Rattle.codec_model.specs.declared.entry.Entry.{Entry}
use Rattle.codec_model.specs.declared.entry.Entry.TheVariants as entry
use Rattle.codec_model.specs.declared.entry.Message.{Message}
use Rattle.codec_model.specs.declared.entry.Item.{Item}
use Rattle.codec_model.specs.declared.entry.Running.{Running}
use Rattle.codec_model.specs.declared.entry.Task.{Task}
use Rattle.codec_model.specs.declared.entry.Task.TheVariants as task
use Rattle.codec_model.specs.declared.entry.Ended.{Ended}
use Rattle.codec_model.specs.declared.entry.Ended.TheVariants as ended
use Rattle.codec_model.specs.declared.entry.Outcome.{Outcome}
use Rattle.codec_model.specs.declared.entry.Outcome.TheVariants as outcome
use Rattle.codec_model.specs.Control.{Control, kind_of, held_of, is_decoder, coded_out, is_taken, with_item, after_message, process_queue, with_message, at_next_place, start_first, may_start, after_close, after_take, may_take, after_ground, may_reclaim, run_first, run_task, done_running}
use Rattle.codec_model.specs.Replay.{State, Given, nothing_given, given_more, serves_too, missing_coder, answers_to, answer_to, decoder_config, labelled_answer, call_error, may_call, message_of, sends, removes, with_control, removed, accepted, called, call_step, start_step, done_step, done_ended, ended_of, turn_step, step}
use Rattle.codec_model.specs.Held.{is_removal}
use Rattle.codec_model.specs.Shown.{promise_of, refused_shows, call_shows, rejections, close_shows, turn_shows, shows, units_in}

-- what holds of a codec, and stays as each message is taken, holds when its queue was processed
pub by_queue : (Q : Control → Type 0) → ((m : Message) (ms : List Message) (c : Control) → c.messages ≡ m ∷ ms → Q c → Q (record (after_message m c) { messages = ms })) → (ms : List Message) (c : Control) → c.messages ≡ ms → Q c → Q (process_queue ms c)
by_queue Q taken [] c e h = h
by_queue Q taken (m ∷ ms) c e h = by (is_taken m c) (by_queue Q taken ms (record (after_message m c) { messages = ms }) refl (taken m ms c e h))
  where
    by : (b : Bool) → Q (process_queue ms (record (after_message m c) { messages = ms })) → Q (cond b (process_queue ms (record (after_message m c) { messages = ms })) c)
    by true rest = rest
    by false rest = h

-- ---- the cases of a work item

-- what holds of all that a message or an item may ask for
pub by_work : (P : Work → Type 0) → ((config : Config) → P (work.Configure config)) → ((input : Coded) → P (work.Coded input)) → P work.Flush → (w : Work) → P w
by_work P configure coded flush (work.Configure config) = configure config
by_work P configure coded flush (work.Coded input) = coded input
by_work P configure coded flush work.Flush = flush

-- an item that lacks a coder may be refused a box
pub lacking_may_be_refused : (w : Work) (g : Given) (id : CoderId) (n : ℕ) → missing_coder g w ≡ Some id → ended_of (kind_of w) (given_more w g) (outcome.NoSlot n) ≡ Some (ended.NoSlot n)
lacking_may_be_refused (work.Configure config) g id n h =
    let k = cond_is (is_supported config && not (serves_too (coder_id_of g.config) config)) (coder_id_of config) id h in
    ap (λ (b : Bool). cond b (Some (ended.NoSlot n)) None) (and_parts _ _ k.0).0
lacking_may_be_refused (work.Coded input) g id n h = absurd cc
lacking_may_be_refused work.Flush g id n h = absurd cc

-- ---- messages

-- its promise is named by the place of its entry
pub own_promise : (x : Call) (place p : ℕ) → promise_of x place ≡ Some p → p ≡ place
own_promise call.Flush place p h = cc
own_promise x place p h = absurd cc

-- a closed codec refuses each call that would send a message
pub closed_refuses : (x : Call) (c : Control) → sends x ≡ true → may_call x c ≡ true → c.phase ≡ Closed → is_some (call_error x c) ≡ true
closed_refuses (call.Configure config) c some may closed = rw closed (by (is_valid config))
  where
    by : (b : Bool) → is_some (cond b (Some dom.InvalidState) (Some dom.TypeErr)) ≡ true
    by true = refl
    by false = refl
closed_refuses (call.Decode chunk) c some may closed = rw closed refl
closed_refuses (call.Encode (handed.Cloned medium)) c some may closed = absurd (let none = rw closed at may in cc)
closed_refuses call.Flush c some may closed = rw closed refl
closed_refuses x c some may closed = absurd cc

-- a call that sends a message removes nothing
pub senders_stay : (x : Call) (w : Work) → message_of x ≡ Some w → removes x ≡ false
senders_stay call.Reset w m = absurd cc
senders_stay call.Close w m = absurd cc
senders_stay x w m = refl

-- a call that is refused, or sends a message, removes nothing; any other reset or close does
pub refused_stays : (who : Who) (x : Call) (error : DomError) (s : State) → call_error x s.control ≡ Some error → is_removal (entry.Call who x) s ≡ false
refused_stays who x error s e = by (removes x) (call_error x s.control) e
  where
    by : (b : Bool) (o : Option DomError) → o ≡ Some error → (b && is_none o) ≡ false
    by true None e = absurd cc
    by true (Some y) e = refl
    by false o e = refl

pub sent_stays : (who : Who) (x : Call) (w : Work) (s : State) → message_of x ≡ Some w → is_removal (entry.Call who x) s ≡ false
sent_stays who x w s m = ap (λ (b : Bool). b && is_none (call_error x s.control)) (senders_stay x w m)

pub removal_goes : (who : Who) (x : Call) (s : State) → removes x ≡ true → call_error x s.control ≡ None → is_removal (entry.Call who x) s ≡ true
removal_goes who x s is e = ap (λ (b : Bool). b && is_none (call_error x s.control)) is ∙ ap is_none e

-- what holds of a reset and of a close holds of each call that removes what is queued
pub by_removals : (P : Call → Type 0) → P call.Reset → P call.Close → (x : Call) → removes x ≡ true → P x
by_removals P reset close call.Reset is = reset
by_removals P reset close call.Close is = close
by_removals P reset close x is = absurd cc

-- what calls and encodes change before their message is processed: these four at most, beside the place
abbrev pub asked : Control → CodecState → Bool → ℕ → List ℕ → Control
asked c phase key_required size pending = record (at_next_place c) { phase = phase; key_required = key_required; size = size; pending = pending }

-- one message more is processed
pub record Sends (w : Work) (c d : Control) : Type 0 where
  pub phase : CodecState
  pub key_required : Bool
  pub size : ℕ
  pub pending : List ℕ
  pub few : size ≤ c.size + 1
  pub is : d ≡ with_message c.place w (asked c phase key_required size pending)

-- a call that is not refused sends its message, if it has one
pub call_sends : (x : Call) (w : Work) (c : Control) → message_of x ≡ Some w → Sends w c (accepted x c)
call_sends x w c m = subst (λ (v : Work). Sends v c (accepted x c)) (by x w m).1 (by x w m).0
  where
    by : (x : Call) (w : Work) → message_of x ≡ Some w → Sends (unwrap_or (message_of x) w) c (accepted x c) × (unwrap_or (message_of x) w ≡ w)
    by (call.Configure config) w m = (record { phase = Configured; key_required = is_decoder c.opening.kind || c.key_required; size = c.size; pending = c.pending; few = omega arith; is = refl }, some_same _ w m)
    by (call.Decode chunk) w m = (record { phase = c.phase; key_required = false; size = c.size + 1; pending = c.pending; few = omega arith; is = refl }, some_same _ w m)
    by (call.Encode (handed.Cloned medium)) w m = (record { phase = c.phase; key_required = c.key_required; size = c.size + 1; pending = c.pending; few = omega arith; is = refl }, some_same _ w m)
    by call.Flush w m = (record { phase = c.phase; key_required = is_decoder c.opening.kind || c.key_required; size = c.size; pending = c.pending ++ c.place ∷ []; few = omega arith; is = refl }, some_same _ w m)
    by x w m = absurd cc

-- A message that is processed becomes an item. Of the rest these four may change, and an event may be queued.
pub record BecomesItem (m : Message) (c : Control) : Type 0 where
  pub blocked : Bool
  pub saturated : Bool
  pub size : ℕ
  pub scheduled : Bool
  pub event : Bool
  pub few : size ≤ c.size
  pub is : after_message m c ≡ with_item m (record c { blocked = blocked; saturated = saturated; size = size; scheduled = scheduled; tasks = cond event (c.tasks ++ task.Dequeue ∷ []) c.tasks })

pub becomes_item : (m : Message) (c : Control) → BecomesItem m c
becomes_item m c = by m.place m.work
  where
    by : (at : ℕ) (w : Work) → BecomesItem (record { place = at; work = w }) c
    by at (work.Configure config) = record { blocked = true; saturated = c.saturated; size = c.size; scheduled = c.scheduled; event = false; few = omega arith; is = refl }
    by at (work.Coded input) = record { blocked = c.blocked; saturated = eqb (coded_out c + 1) c.opening.saturation; size = c.size - 1; scheduled = true; event = not c.scheduled; few = omega arith; is = refl }
    by at work.Flush = record { blocked = c.blocked; saturated = c.saturated; size = c.size; scheduled = c.scheduled; event = false; few = omega arith; is = refl }

-- what holds of a codec, and stays as a message becomes an item, whatever of these it changes, holds when its queue was processed
pub by_items : (Q : Control → Type 0) → ((m : Message) (ms : List Message) (c : Control) (blocked saturated scheduled event : Bool) (size : ℕ) → size ≤ c.size → c.messages ≡ m ∷ ms → Q c
    → Q (record (with_item m (record c { blocked = blocked; saturated = saturated; size = size; scheduled = scheduled; tasks = cond event (c.tasks ++ task.Dequeue ∷ []) c.tasks })) { messages = ms }))
    → (ms : List Message) (c : Control) → c.messages ≡ ms → Q c → Q (process_queue ms c)
by_items Q more = by_queue Q (λ m ms c e h.
    let k = becomes_item m c in
    subst (λ (d : Control). Q (record d { messages = ms })) (sym k.is) (more m ms c k.blocked k.saturated k.scheduled k.event k.size k.few e h))

-- ---- ends of items

-- an item that is refused a box ends so
pub no_slot_end : (k : WorkKind) (g : Given) (n : ℕ) (e : Ended) → ended_of k g (outcome.NoSlot n) ≡ Some e → e ≡ ended.NoSlot n
no_slot_end kind.Configure g n e h = sym (some_same (ended.NoSlot n) e (cond_is (is_supported g.config) (Some (ended.NoSlot n)) e h).1)
no_slot_end kind.Coded g n e h = absurd cc
no_slot_end kind.Flush g n e h = absurd cc

-- what holds of no units, and of what the codec's definition answers, holds of each answer to an item
pub by_answer : (P : List media.Unit → Type 0) (k : WorkKind) (g : Given) (us : List media.Unit) → P [] → (labelled_answer (decoder_config g.config) (last_answer (answers_to g)) ≡ Some us → P us) → answer_to k g ≡ Some us → P us
by_answer P kind.Configure g us none answered h = subst P (some_same [] us (cond_is (is_supported g.config) (Some []) us h).1) none
by_answer P kind.Coded g us none answered h = answered h
by_answer P kind.Flush g us none answered h = answered h

-- ---- what entries show

-- the outputs that the turn of an entry shows, if it is one
abbrev pub turn_units : Entry → State → List media.Unit
turn_units entry.Turn s = units_in (turn_shows s.control.tasks s.control)
turn_units e s = []

rejections_units : (x : DomError) (ps : List ℕ) → units_in (rejections x ps) ≡ []
rejections_units x [] = refl
rejections_units x (p ∷ ps) = rejections_units x ps

pub closing_units : (x : DomError) (ps : List ℕ) → units_in (close_shows x ps) ≡ []
closing_units x [] = refl
closing_units x (p ∷ ps) = closing_units x ps

call_units : (x : Call) (place : ℕ) (pending : List ℕ) (o : Option DomError) → units_in (call_shows x place pending o) ≡ []
call_units x place pending (Some error) = refused (promise_of x place)
  where
    refused : (p : Option ℕ) → units_in (refused_shows p error) ≡ []
    refused None = refl
    refused (Some promise) = refl
call_units call.Reset place pending None = rejections_units dom.Abort pending
call_units call.Close place pending None = rejections_units dom.Abort pending
call_units x place pending None = refl

-- only turns show outputs
pub units_by_turns : (e : Entry) (s : State) → units_in (shows e s) ≡ turn_units e s
units_by_turns (entry.Call who x) s = call_units x s.control.place s.control.pending (call_error x s.control)
units_by_turns (entry.Start epoch item) s = refl
units_by_turns (entry.Done epoch item moment o) s = refl
units_by_turns entry.Turn s = refl
units_by_turns (entry.Reclaim moment) s = closing_units dom.QuotaExceeded s.control.pending

-- this item may begin
abbrev pub begins : ℕ → ℕ → Item → Control → Bool
begins epoch item i c = may_start c && eqb epoch c.epoch && eqb item i.number

pub begins_free : (epoch item : ℕ) (i : Item) (c : Control) → begins epoch item i c ≡ true → may_start c ≡ true
begins_free epoch item i c h = (and_parts (may_start c) (eqb epoch c.epoch) (and_parts (may_start c && eqb epoch c.epoch) (eqb item i.number) h).0).0

-- it begins, the items being these
abbrev pub begun : List Item → Item → State → State
begun is i s = record { control = start_first is (at_next_place s.control); given = given_more i.work s.given; running_given = given_more i.work s.given; running_held = held_of i.work }

-- what was given, after a task ran: a close ends the epoch
abbrev pub given_past : Task → Given → Given
given_past (task.Close x) g = nothing_given
given_past _ g = g

-- a task ran, and these are left
abbrev pub task_ran : Task → List Task → State → State
task_ran x ts s = record s { control = run_task x (record (at_next_place s.control) { tasks = ts }); given = given_past x s.given }

-- What has to be shown of each kind of step.
pub record EachStep (P : Entry → State → State → Type 0) : Type 0 where
  pub refused : (who : Who) (x : Call) (error : DomError) (s : State) → may_call x s.control ≡ true → call_error x s.control ≡ Some error → P (entry.Call who x) s (with_control (at_next_place s.control) s)
  pub sent : (who : Who) (x : Call) (w : Work) (s : State) → message_of x ≡ Some w → may_call x s.control ≡ true → call_error x s.control ≡ None → P (entry.Call who x) s (with_control (accepted x s.control) s)
  pub removes_all : (who : Who) (x : Call) (s : State) → removes x ≡ true → call_error x s.control ≡ None → P (entry.Call who x) s (removed (accepted x s.control) s)
  pub takes : (who : Who) (unit : ℕ) (s : State) → may_take unit s.control ≡ true → P (entry.Call who (call.Take unit)) s (with_control (after_take (at_next_place s.control)) s)
  pub grounds : (who : Who) (to : Ground) (s : State) → P (entry.Call who (call.Ground to)) s (with_control (after_ground to (at_next_place s.control)) s)
  pub start : (i : Item) (is : List Item) (epoch item : ℕ) (s : State) → s.control.work ≡ i ∷ is → begins epoch item i s.control ≡ true → P (entry.Start epoch item) s (begun (i ∷ is) i s)
  pub done : (r : Running) (e : Ended) (epoch item moment : ℕ) (o : Outcome) (s : State) → s.control.running ≡ Some r → (eqb r.epoch epoch && eqb r.number item) ≡ true → ended_of r.kind s.running_given o ≡ Some e → P (entry.Done epoch item moment o) s (with_control (done_running r e moment (at_next_place s.control)) s)
  pub turn : (x : Task) (ts : List Task) (s : State) → s.control.tasks ≡ x ∷ ts → P entry.Turn s (task_ran x ts s)
  pub reclaim : (moment : ℕ) (s : State) → may_reclaim moment s.control ≡ true → P (entry.Reclaim moment) s (removed (after_close (at_next_place s.control)) s)

-- a start of the front item
pub start_made : (i : Item) (is : List Item) (epoch item : ℕ) (s : State) → s.control.work ≡ i ∷ is → begins epoch item i s.control ≡ true → start_step s.control.work epoch item s ≡ Some (begun (i ∷ is) i s)
start_made i is epoch item s e h =
    ap (λ (l : List Item). start_step l epoch item s) e ∙ (ap (λ (b : Bool). cond b (Some (begun s.control.work i s)) None) h ∙ ap (λ (l : List Item). Some (begun l i s)) e)

-- a turn where this is the front task
pub turn_made : (x : Task) (ts : List Task) (s : State) → s.control.tasks ≡ x ∷ ts → turn_step s.control.tasks s ≡ Some (task_ran x ts s)
turn_made x ts s e =
    ap (λ (l : List Task). turn_step l s) e ∙ (by x ∙ ap (λ (l : List Task). Some (record s { control = run_first l (at_next_place s.control); given = given_past x s.given })) e)
  where
    by : (y : Task) → turn_step (y ∷ ts) s ≡ Some (record s { control = run_first s.control.tasks (at_next_place s.control); given = given_past y s.given })
    by task.Unblock = refl
    by task.Process = refl
    by task.Desaturate = refl
    by (task.Output units) = refl
    by (task.Flushed promise units) = refl
    by task.Dequeue = refl
    by (task.Close error) = refl

module _ (P : Entry → State → State → Type 0) (each : EachStep P) where
  start_each : (is : List Item) (epoch item : ℕ) (s t : State) → s.control.work ≡ is → start_step is epoch item s ≡ Some t → P (entry.Start epoch item) s t
  start_each [] epoch item s t e h = absurd cc
  start_each (i ∷ is) epoch item s t e h =
      let k = cond_is (begins epoch item i s.control) _ t h in
      subst (P (entry.Start epoch item) s) (ap (λ (l : List Item). begun l i s) (sym e) ∙ some_same _ t k.1) (each.start i is epoch item s e k.0)

  ended_each : (r : Running) (a : Option Ended) (epoch item moment : ℕ) (o : Outcome) (s t : State) → s.control.running ≡ Some r → (eqb r.epoch epoch && eqb r.number item) ≡ true → ended_of r.kind s.running_given o ≡ a → done_ended r a moment s ≡ Some t → P (entry.Done epoch item moment o) s t
  ended_each r None epoch item moment o s t e own is h = absurd cc
  ended_each r (Some x) epoch item moment o s t e own is h = subst (P (entry.Done epoch item moment o) s) (some_same _ t h) (each.done r x epoch item moment o s e own is)

  done_each : (q : Option Running) (epoch item moment : ℕ) (o : Outcome) (s t : State) → s.control.running ≡ q → done_step q epoch item moment o s ≡ Some t → P (entry.Done epoch item moment o) s t
  done_each None epoch item moment o s t e h = absurd cc
  done_each (Some r) epoch item moment o s t e h =
      let k = cond_is (eqb r.epoch epoch && eqb r.number item) (done_ended r (ended_of r.kind s.running_given o) moment s) t h in
      ended_each r (ended_of r.kind s.running_given o) epoch item moment o s t e k.0 refl k.1

  turn_each : (ts : List Task) (s t : State) → s.control.tasks ≡ ts → turn_step s.control.tasks s ≡ Some t → P entry.Turn s t
  turn_each [] s t e h = absurd (let none : turn_step [] s ≡ Some t = subst (λ (l : List Task). turn_step l s ≡ Some t) e h in cc)
  turn_each (x ∷ ts) s t e h = subst (P entry.Turn s) (some_same (task_ran x ts s) t (sym (turn_made x ts s e) ∙ h)) (each.turn x ts s e)

  call_each : (who : Who) (x : Call) (s : State) → may_call x s.control ≡ true → (o : Option DomError) → call_error x s.control ≡ o → P (entry.Call who x) s (called o x s)
  call_each who x s may (Some error) e = each.refused who x error s may e
  call_each who (call.Configure config) s may None e = each.sent who (call.Configure config) _ s refl may e
  call_each who (call.Decode chunk) s may None e = each.sent who (call.Decode chunk) _ s refl may e
  call_each who (call.Encode (handed.Cloned medium)) s may None e = each.sent who (call.Encode (handed.Cloned medium)) _ s refl may e
  call_each who (call.Encode handed.Gone) s may None e = absurd cc
  call_each who (call.Encode handed.Kept) s may None e = absurd cc
  call_each who call.Flush s may None e = each.sent who call.Flush _ s refl may e
  call_each who call.Reset s may None e = each.removes_all who call.Reset s refl e
  call_each who call.Close s may None e = each.removes_all who call.Close s refl e
  call_each who (call.Take unit) s may None e = each.takes who unit s may
  call_each who (call.Ground to) s may None e = each.grounds who to s

  -- what holds of each kind of step holds of each legal entry
  pub by_steps : (e : Entry) (s t : State) → step e s ≡ Some t → P e s t
  by_steps (entry.Call who x) s t is =
      let k = cond_is (may_call x s.control) (Some (call_step x s)) t is in
      subst (P (entry.Call who x) s) (some_same _ t k.1) (call_each who x s k.0 (call_error x s.control) refl)
  by_steps (entry.Start epoch item) s t is = start_each s.control.work epoch item s t refl is
  by_steps (entry.Done epoch item moment o) s t is = done_each s.control.running epoch item moment o s t refl is
  by_steps entry.Turn s t is = turn_each s.control.tasks s t refl is
  by_steps (entry.Reclaim moment) s t is = let k = cond_is (may_reclaim moment s.control) _ t is in subst (P (entry.Reclaim moment) s) (some_same _ t k.1) (each.reclaim moment s k.0)
