-- After a legal history the running flush item is answered.
use Rattle.std.proofs.Common.{ℕ, ◌≡◌, ◌||◌, not, Bool, true, false, eqb, length, List, [], ◌∷◌, ◌++◌, append_assoc, map, Option, Some, None, is_some, IfSome, refl, sym, subst, arith}
use Rattle.std.proofs.lemmas.Bool.{cond_both, eqb-true}
use Rattle.std.proofs.lemmas.List.{map-append}
use Rattle.wc_config.specs.declared.{codec.CoderId.CoderId}
use Rattle.wc_config.specs.Configs.{coder_id_of}
use Rattle.codec_definitions.specs.declared.unit.Unit as media
use Rattle.codec_definitions.specs.declared.command.Command.{Command}
use Rattle.codec_definitions.specs.Answers.{answer_after, answers, answers_from, last_answer}
use Rattle.codec_model.specs.declared.entry.{Call.Call, CodecState.CodecState, Opening.Opening, Entry.Entry, Work.Work}
use Rattle.codec_model.specs.declared.entry.CodecState.TheVariants.{Configured}
use Rattle.codec_model.specs.declared.entry.{WorkKind.WorkKind, Message.Message, Item.Item, Running.Running, Task.Task, Ended.Ended, Outcome.Outcome}
use Rattle.codec_model.specs.Control.{Control, kind_of, after_message, process_queue, at_next_place, done_running}
use Rattle.codec_model.specs.Facts.{is_configure}
use Rattle.codec_model.specs.Replay.{State, Given, decoder_config, labelled_answer, given_more, answer_to, answers_to, opening_state, step, message_of, may_call, call_error, accepted, removed, ended_of, ended_run, ended_refused, with_control}
use Rattle.history_laws.specs.Answers.{ran_answer}
use Rattle.codec_model.specs.StepLaws.{begins, begun, task_ran, EachStep, Sends, asked, call_sends, by_queue, by_removals, by_steps}

-- ---- what a coder answers

pub some_is : {X : Type 0} (o : Option X) → is_some o ≡ true → (x : X) × (o ≡ Some x)
some_is o h = grind (arith, h)

-- an item that ran as its answer has it
pub record RanEnd (n : ℕ) (a : Option (List media.Unit)) (e : Ended) : Type 0 where
  pub units : List media.Unit
  pub answered : a ≡ Some units
  pub count : n ≡ length units
  pub is : Ended.Ran units ≡ e

pub ran_ends : (n : ℕ) (a : Option (List media.Unit)) (e : Ended) → ended_run n a ≡ Some e → RanEnd n a e
ran_ends n a e h = grind (arith, eqb-true, h)

pub refused_ends : (a : Option (List media.Unit)) (e : Ended) → ended_refused a ≡ Some e → (is_some a ≡ false) × (Ended.Refused ≡ e)
refused_ends a e h = grind (arith, h)

-- The coder was given all this, and refused none of it: what comes next is answered from here.
pub record IsOpen (g : Given) : Type 0 where
  id : CoderId
  asked : coder_id_of g.config ≡ Some id
  goes_on : (x : Command) (xs : List Command) → last_answer (answers id g.config (g.commands ++ x ∷ xs)) ≡ last_answer (answers_from id g.config g.commands (x ∷ xs))

abbrev more : Command → Given → Given
more x g = record g { commands = g.commands ++ x ∷ [] }

-- the last answer is that of the command
last_some : (g : Given) (x : Command) → (k : IsOpen g) → is_some (labelled_answer (decoder_config g.config) (last_answer (answers_to (more x g)))) ≡ is_some (answer_after k.id g.config g.commands x)
last_some g x k = grind (arith, k.asked, k.goes_on x [])

open_more : (g : Given) (x : Command) → IsOpen g → is_some (labelled_answer (decoder_config g.config) (last_answer (answers_to (more x g)))) ≡ true → IsOpen (more x g)
open_more g x k h = record { id = k.id; asked = k.asked; goes_on = λ y ys. grind (arith, append_assoc, k.asked, k.goes_on, h) }

-- an item of this kind that was the last one given is no flush that is refused
abbrev pub IsAnswered : WorkKind → Given → Type 0
IsAnswered WorkKind.Flush g = is_some (answer_to WorkKind.Flush g) ≡ true
IsAnswered k g = Unit {0}

answered : (w : Work) (g : Given) → (not (is_configure w) ≡ true → IsOpen g) → IsAnswered (kind_of w) (given_more w g)
answered w g ready = grind (arith, last_some, ready)

open_past : (w : Work) (g : Given) → (not (is_configure w) ≡ true → IsOpen g) → is_some (answer_to (kind_of w) (given_more w g)) ≡ true → IsOpen (given_more w g)
open_past w g ready h = grind (arith, open_more, ready, h)

-- ---- what keeps each flush item from being refused

-- the works that are queued, as items and then as messages
abbrev works_on : List Item → List Message → List Work
works_on is ms = map (λ (i : Item). i.work) is ++ map (λ (m : Message). m.work) ms

-- what of a codec's control state tells whether its coder has to be open
pub record Seen : Type 0 where
  phase : CodecState
  epoch : ℕ
  halted : Bool
  works : List Work
  running : Option Running

abbrev pub seen : Control → Seen
seen c = record { phase = c.phase; epoch = c.epoch; halted = c.halted; works = works_on c.work c.messages; running = c.running }

-- the next item needs a coder that is open: it does not configure one, or it is not yet asked for, by calls that need not
abbrev needs : List Work → CodecState → Bool
needs (w ∷ ws) phase = not (is_configure w)
needs [] Configured = true
needs [] phase = false

-- the running item, where it is one of this epoch, has its answer
abbrev settles : ℕ → Option Running → Given → Bool
settles epoch None busy = true
settles epoch (Some r) busy = not (eqb r.epoch epoch) || is_some (answer_to r.kind busy)

pub record Parts (v : Seen) (given busy : Given) : Type 0 where
  pub flushed : IfSome v.running (λ r. IsAnswered r.kind busy)
  opens : needs v.works v.phase ≡ true → v.halted ≡ false → settles v.epoch v.running busy ≡ true → IsOpen given

abbrev pub Sound : State → Type 0
Sound s = Parts (seen s.control) s.given s.running_given

-- ---- processing

taken_seen : (w : Work) (at : ℕ) (ms : List Message) (c : Control) → c.messages ≡ record { place = at; work = w } ∷ ms → seen (record (after_message (record { place = at; work = w }) c) { messages = ms }) ≡ seen c
taken_seen w at ms c e = grind (arith, map-append, append_assoc, e)

processed : (c : Control) (given busy : Given) → Parts (seen c) given busy → Parts (seen (process_queue c.messages c)) given busy
processed c given busy h = by_queue (λ (d : Control). Parts (seen d) given busy) (λ m ms d e k. subst (λ (v : Seen). Parts v given busy) (sym (taken_seen m.work m.place ms d e)) k) c.messages c refl h

-- ---- calls

needs_before : (ws : List Work) (w : Work) (phase new : CodecState) → (not (is_configure w) ≡ true → phase ≡ Configured) → needs (ws ++ w ∷ []) new ≡ true → needs ws phase ≡ true
needs_before ws w phase new on h = grind (arith, on, h)

-- a call that is not refused configures, or finds the codec configured
sent_to : (x : Call) (w : Work) (c : Control) → message_of x ≡ Some w → may_call x c ≡ true → call_error x c ≡ None → not (is_configure w) ≡ true → c.phase ≡ Configured
sent_to x w c m may e on = grind (arith, m, may, e, on)

-- one message more, which configures or finds the codec configured
sent_sound : (w : Work) (c d : Control) (given busy : Given) → Sends w c d → (not (is_configure w) ≡ true → c.phase ≡ Configured) → Parts (seen c) given busy → Parts (seen d) given busy
sent_sound w c d given busy k on h =
    let before = asked c k.phase k.key_required k.size k.pending in
    rw k.is (processed (record before { messages = before.messages ++ record { place = c.place; work = w } ∷ [] }) given busy (record {
      flushed = h.flushed;
      opens = λ need. h.opens (needs_before (works_on c.work c.messages) w c.phase k.phase on (simp (map-append, ← append_assoc) at need));
    }))

-- ---- starts and ends

started_sound : (i : Item) (is : List Item) (epoch item : ℕ) (s : State) → s.control.work ≡ i ∷ is → begins epoch item i s.control ≡ true → Sound s → Sound (begun (i ∷ is) i s)
started_sound i is epoch item s e may h =
    let free : settles s.control.epoch s.control.running s.running_given ≡ true = grind (arith, may) in
    let awake : s.control.halted ≡ false = grind (arith, may) in
    let ready : not (is_configure i.work) ≡ true → IsOpen s.given = λ first. h.opens (rw e first) awake free in
    record { flushed = answered i.work s.given ready; opens = λ need on has. open_past i.work s.given ready (grind (arith, has)) }

done_sound : (r : Running) (e : Ended) (x : Outcome) (moment : ℕ) (s : State) → s.control.running ≡ Some r → ended_of r.kind s.running_given x ≡ Some e → Sound s → Sound (with_control (done_running r e moment (at_next_place s.control)) s)
done_sound r e x moment s running is h =
    cond_both (eqb r.epoch s.control.epoch) _ _ (λ (d : Control). Parts (seen d) s.given s.running_given)
    (λ now. record { flushed = tt; opens = λ need on has. grind (arith, h.opens, ran_answer, running, now, is, need, on) })
    (λ older. record { flushed = tt; opens = λ need on has. grind (arith, h.opens, running, older, need, on) })

-- ---- entries

task_sound : (x : Task) (ts : List Task) (s : State) → Sound s → Sound (task_ran x ts s)
task_sound x ts s h =
    let left = record (at_next_place s.control) { tasks = ts } in
    grind (arith, processed left s.given s.running_given, processed (record left { saturated = false }) s.given s.running_given, h)

each_sound : EachStep (λ e s t. Sound s → Sound t)
each_sound = record {
  refused = λ who x error s may e h. h;
  sent = λ who x w s m may e h. sent_sound w s.control _ s.given s.running_given (call_sends x w s.control m) (sent_to x w s.control m may e) h;
  removes_all = λ who x s is e h. by_removals (λ y. Sound (removed (accepted y s.control) s)) (grind (arith, h)) (grind (arith, h)) x is;
  takes = λ who unit s may h. h;
  grounds = λ who to s h. h;
  start = λ i is epoch item s first may h. started_sound i is epoch item s first may h;
  done = λ r e epoch item moment o s running own is h. done_sound r e o moment s running is h;
  turn = λ x ts s first h. task_sound x ts s h;
  reclaim = λ moment s may h. grind (arith, h);
}

pub step_sound : (e : Entry) (s t : State) → step e s ≡ Some t → Sound s → Sound t
step_sound = by_steps (λ e s t. Sound s → Sound t) each_sound

pub opened : (o : Opening) → Sound (opening_state o)
opened o = grind arith
