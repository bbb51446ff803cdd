-- What a codec that is not disturbed is asked for follows from its calls alone.
use Rattle.std.proofs.Common.{ℕ, ◌≡◌, ◌||◌, Bool, true, false, eqb, cond, List, [], ◌∷◌, ◌++◌, append_assoc, append-nil, Option, Some, None, is_some, is_none, refl, ap, sym, subst, ◌∙◌}
use Rattle.std.specs.Prelude.{option_map, unwrap_or, max}
use Rattle.std.proofs.lemmas.Bool.{and_parts}
use Rattle.std.proofs.lemmas.Option.{option_and_then_some}
use Rattle.wc_base.specs.{declared.error.DomError.DomError, declared.who.Who.Who, Options.some_same}
use Rattle.codec_definitions.specs.declared.unit.Unit as media
use Rattle.codec_model.specs.declared.entry.{Handed.Handed, Work.Work, Running.Running, Call.Call, Coded.Coded, Entry.Entry, Ended.Ended, Task.Task, Opening.Opening, CodecState.CodecState}
use Rattle.codec_model.specs.Control.{Control, opening_control, is_decoder, process_queue, at_next_place, done_running, after_end}
use Rattle.codec_model.specs.Replay.{State, Given, given_more, with_control, accepted, call_error, message_of, removes, removed, step, replay_from}
use Rattle.codec_model.specs.Shown.{shows, shown_at, shown_from, units_in, outputs_of, turn_word, turn_shows}
use Rattle.codec_model.specs.StepLaws.{by_items, task_ran, EachStep, by_steps}
use Rattle.history_laws.specs.CountLaws.{outputs_tagged}
use Rattle.codec_laws.specs.Sights.{asked_for, rejects_with, sight_of, sights_from}
use Rattle.codec_laws.specs.Laws.{unnamed, call_alone, calls_alone, is_calm}
use Rattle.codec_laws.proofs.Course.{Asked, more_asked, Course, course_after}
use Rattle.codec_laws.proofs.FlowLaws.{Flow, step_flow}
use Rattle.codec_laws.proofs.PlaceLaws.{refused_asks, sent_asks, removal_asks}
use Rattle.codec_laws.proofs.OutLaws.{Outs, yields, parts, step_outs}

-- ---- works apart from references

abbrev pub work_alone : Work → Work
work_alone (Work.Coded (Coded.Medium medium)) = Work.Coded (Coded.Medium (unnamed medium))
work_alone w = w

abbrev pub alone : List Asked → List Work
alone [] = []
alone (a ∷ qs) = work_alone a.1 ∷ alone qs

abbrev pub parts_alone : List Work → Given → List (List media.Unit)
parts_alone [] g = []
parts_alone (w ∷ ws) g = yields w g ∷ parts_alone ws (given_more w g)

given_alone : (w : Work) (g : Given) → given_more (work_alone w) g ≡ given_more w g
given_alone (Work.Configure c) g = refl
given_alone (Work.Coded (Coded.Chunk chunk)) g = refl
given_alone (Work.Coded (Coded.Medium medium)) g = refl
given_alone Work.Flush g = refl

yields_alone : (w : Work) (g : Given) → yields (work_alone w) g ≡ yields w g
yields_alone (Work.Configure c) g = refl
yields_alone (Work.Coded (Coded.Chunk chunk)) g = refl
yields_alone (Work.Coded (Coded.Medium medium)) g = refl
yields_alone Work.Flush g = refl

pub parts_are : (qs : List Asked) (g : Given) → parts qs g ≡ parts_alone (alone qs) g
parts_are [] g = refl
parts_are (a ∷ qs) g = rw (yields_alone a.1 g, given_alone a.1 g, parts_are qs (given_more a.1 g)) refl

-- ---- what calls ask for, by the phase and the key rule alone

abbrev pub as_control : Opening → CodecState → Bool → Control
as_control o p k = record (opening_control o) { phase = p; key_required = k }

-- whether a codec in this phase refuses a call
abbrev pub refuses_call : Opening → CodecState → Bool → Call → Bool
refuses_call o p k y = is_some (call_error y (as_control o p k))

abbrev pub asked_by : Opening → CodecState → Bool → Call → Option Work
asked_by o p k y = cond (refuses_call o p k y) None (option_map work_alone (message_of y))

abbrev pub phase_by : Opening → CodecState → Bool → Call → CodecState
phase_by o p k (Call.Configure config) = cond (refuses_call o p k (Call.Configure config)) p CodecState.Configured
phase_by o p k y = p

abbrev pub key_by : Opening → CodecState → Bool → Call → Bool
key_by o p k (Call.Configure config) = cond (refuses_call o p k (Call.Configure config)) k (is_decoder o.kind || k)
key_by o p k (Call.Decode chunk) = cond (refuses_call o p k (Call.Decode chunk)) k false
key_by o p k Call.Flush = cond (refuses_call o p k Call.Flush) k (is_decoder o.kind || k)
key_by o p k y = k

abbrev pub asked_after : Opening → CodecState → Bool → Entry → Option Work
asked_after o p k (Entry.Call who y) = asked_by o p k y
asked_after o p k e = None

abbrev pub phase_after : Opening → CodecState → Bool → Entry → CodecState
phase_after o p k (Entry.Call who y) = phase_by o p k y
phase_after o p k e = p

abbrev pub key_after : Opening → CodecState → Bool → Entry → Bool
key_after o p k (Entry.Call who y) = key_by o p k y
key_after o p k e = k

abbrev pub one : Option Work → List Work
one None = []
one (Some w) = w ∷ []

abbrev pub heard : Opening → CodecState → Bool → List Call → List Work
heard o p k [] = []
heard o p k (y ∷ ys) = one (asked_by o p k y) ++ heard o (phase_by o p k y) (key_by o p k y) ys

-- a call is heard the same apart from its reference
pub heard_more : (o : Opening) (p : CodecState) (k : Bool) (e : Entry) (ys : List Call) → heard o p k (call_alone e ++ ys) ≡ one (asked_after o p k e) ++ heard o (phase_after o p k e) (key_after o p k e) ys
heard_more o p k (Entry.Call who (Call.Configure config)) ys = refl
heard_more o p k (Entry.Call who (Call.Decode chunk)) ys = refl
heard_more o p k (Entry.Call who (Call.Encode Handed.Gone)) ys = refl
heard_more o p k (Entry.Call who (Call.Encode Handed.Kept)) ys = refl
heard_more o p k (Entry.Call who (Call.Encode (Handed.Cloned medium))) ys = refl
heard_more o p k (Entry.Call who Call.Flush) ys = refl
heard_more o p k (Entry.Call who Call.Reset) ys = silent (refuses_call o p k Call.Reset)
  where
    silent : (b : Bool) → heard o p k ys ≡ one (cond b None None) ++ heard o p k ys
    silent true = refl
    silent false = refl
heard_more o p k (Entry.Call who Call.Close) ys = silent (refuses_call o p k Call.Close)
  where
    silent : (b : Bool) → heard o p k ys ≡ one (cond b None None) ++ heard o p k ys
    silent true = refl
    silent false = refl
heard_more o p k e ys = refl

-- ---- each entry

record Keeps (c d : Control) : Type 0 where
  phase : d.phase ≡ c.phase
  key : d.key_required ≡ c.key_required
  opening : d.opening ≡ c.opening

processed : (c : Control) → Keeps c (process_queue c.messages c)
processed c = by_items (λ (d : Control). Keeps c d) (λ m ms d blocked saturated scheduled event size few e h. record { phase = h.phase; key = h.key; opening = h.opening }) c.messages c refl (record { phase = refl; key = refl; opening = refl })

-- an entry does what its call alone says
pub record Hears (asks : Option Work) (want : Option Work) (phase : CodecState) (key : Bool) (c d : Control) : Type 0 where
  pub asked : option_map work_alone asks ≡ want
  pub is_phase : d.phase ≡ phase
  pub is_key : d.key_required ≡ key
  pub opening : d.opening ≡ c.opening

abbrev pub EntryHears : Entry → State → State → Type 0
EntryHears e s t = rejects_with e (shown_at e s) ≡ None → Hears (asked_for e (shows e s)) (asked_after s.control.opening s.control.phase s.control.key_required e) (phase_after s.control.opening s.control.phase s.control.key_required e) (key_after s.control.opening s.control.phase s.control.key_required e) s.control t.control

same_hears : (c d : Control) → d.phase ≡ c.phase → d.key_required ≡ c.key_required → d.opening ≡ c.opening → Hears None None c.phase c.key_required c d
same_hears c d phase key opening = record { asked = refl; is_phase = phase; is_key = key; opening = opening }

-- what decides over a call reads no more than this
error_same : (y : Call) (c : Control) → call_error y (as_control c.opening c.phase c.key_required) ≡ call_error y c
error_same Call.Flush c = refl
error_same y c = refl

refused_hears : (who : Who) (y : Call) (error : DomError) (s : State) → call_error y s.control ≡ Some error → EntryHears (Entry.Call who y) s (with_control (at_next_place s.control) s)
refused_hears who y error s e none =
    let is : refuses_call s.control.opening s.control.phase s.control.key_required y ≡ true = ap (λ (o : Option DomError). is_some o) (error_same y s.control ∙ e) in
    rw ((refused_asks who y error s e).0, is) (by y is)
  where
    by : (y : Call) → refuses_call s.control.opening s.control.phase s.control.key_required y ≡ true → Hears None None (phase_by s.control.opening s.control.phase s.control.key_required y) (key_by s.control.opening s.control.phase s.control.key_required y) s.control (at_next_place s.control)
    by (Call.Configure config) is = rw is (same_hears s.control _ refl refl refl)
    by (Call.Decode chunk) is = rw is (same_hears s.control _ refl refl refl)
    by Call.Flush is = rw is (same_hears s.control _ refl refl refl)
    by y is = same_hears s.control _ refl refl refl

-- a message is queued, and processed
queued_hears : (w : Work) (phase : CodecState) (key : Bool) (c b : Control) → b.messages ≡ c.messages ++ record { place = c.place; work = w } ∷ [] → b.phase ≡ phase → b.key_required ≡ key → b.opening ≡ c.opening → Hears (Some w) (Some (work_alone w)) phase key c (process_queue b.messages b)
queued_hears w phase key c b messages is_phase is_key opening = let k = processed b in record { asked = refl; is_phase = k.phase ∙ is_phase; is_key = k.key ∙ is_key; opening = k.opening ∙ opening }

sent_hears : (who : Who) (y : Call) (w : Work) (s : State) → message_of y ≡ Some w → call_error y s.control ≡ None → EntryHears (Entry.Call who y) s (with_control (accepted y s.control) s)
sent_hears who y w s m e none =
    let is : refuses_call s.control.opening s.control.phase s.control.key_required y ≡ false = ap (λ (o : Option DomError). is_some o) (error_same y s.control ∙ e) in
    rw ((sent_asks who y w s m e).0, is) (subst (λ (o : Option Work). Hears o (option_map work_alone (message_of y)) (phase_by s.control.opening s.control.phase s.control.key_required y) (key_by s.control.opening s.control.phase s.control.key_required y) s.control (accepted y s.control)) m (by y m is))
  where
    by : (y : Call) → message_of y ≡ Some w → refuses_call s.control.opening s.control.phase s.control.key_required y ≡ false → Hears (message_of y) (option_map work_alone (message_of y)) (phase_by s.control.opening s.control.phase s.control.key_required y) (key_by s.control.opening s.control.phase s.control.key_required y) s.control (accepted y s.control)
    by (Call.Configure config) m is = rw is (queued_hears (Work.Configure config) _ _ s.control _ refl refl refl refl)
    by (Call.Decode chunk) m is = rw is (queued_hears (Work.Coded (Coded.Chunk chunk)) _ _ s.control _ refl refl refl refl)
    by (Call.Encode (Handed.Cloned medium)) m is = queued_hears (Work.Coded (Coded.Medium medium)) _ _ s.control _ refl refl refl refl
    by Call.Flush m is = rw is (queued_hears Work.Flush _ _ s.control _ refl refl refl refl)
    by y m is = absurd cc

-- a reset or close that is not refused is a removal
removal_hears : (who : Who) (y : Call) (s : State) → removes y ≡ true → call_error y s.control ≡ None → EntryHears (Entry.Call who y) s (removed (accepted y s.control) s)
removal_hears who y s is e none = let k = (removal_asks who y s is e).1 in absurd (let f : None ≡ Some DomError.Abort = sym none ∙ k in cc)

done_hears : (r : Running) (e : Ended) (moment : ℕ) (c : Control) → Hears None None c.phase c.key_required c (done_running r e moment (at_next_place c))
done_hears r e moment c = by (eqb r.epoch c.epoch)
  where
    by : (b : Bool) → Hears None None c.phase c.key_required c (cond b (after_end r e (record (record (at_next_place c) { running = None }) { progress = Some (max moment (unwrap_or c.progress moment)) })) (record (at_next_place c) { running = None }))
    by true = same_hears c _ refl refl refl
    by false = same_hears c _ refl refl refl

turn_hears : (t : Task) (ts : List Task) (s : State) → rejects_with Entry.Turn (record { turn = turn_word (t ∷ ts); events = turn_shows (t ∷ ts) s.control }) ≡ None → Hears None None s.control.phase s.control.key_required s.control (task_ran t ts s).control
turn_hears Task.Process ts s none = let k = processed (record (at_next_place s.control) { tasks = ts }) in same_hears s.control _ k.phase k.key k.opening
turn_hears Task.Desaturate ts s none = let k = processed (record (at_next_place s.control) { tasks = ts; saturated = false }) in same_hears s.control _ k.phase k.key k.opening
turn_hears (Task.Close error) ts s none = absurd cc
turn_hears t ts s none = same_hears s.control _ refl refl refl

each_hears : EachStep EntryHears
each_hears = record {
  refused = λ who y error s may e. refused_hears who y error s e;
  sent = λ who y w s m may e. sent_hears who y w s m e;
  removes_all = removal_hears;
  takes = λ who unit s may none. same_hears s.control _ refl refl refl;
  grounds = λ who to s none. same_hears s.control _ refl refl refl;
  start = λ i is epoch item s first may none. same_hears s.control _ refl refl refl;
  done = λ r e epoch item moment o s running own is none. done_hears r e moment s.control;
  turn = λ t ts s first none. turn_hears t ts s (subst (λ (l : List Task). rejects_with Entry.Turn (record { turn = turn_word l; events = turn_shows l s.control }) ≡ None) first none);
  reclaim = λ moment s may none. absurd cc;
}

pub step_hears : (e : Entry) (s t : State) → step e s ≡ Some t → EntryHears e s t
step_hears = by_steps EntryHears each_hears

-- ---- the walk

pub calm_none : (o : Option DomError) → is_none o ≡ true → o ≡ None
calm_none None h = refl
calm_none (Some x) h = absurd cc

alone_more : (qs : List Asked) (place : ℕ) (w : Option Work) → alone (more_asked place w qs) ≡ alone qs ++ one (option_map work_alone w)
alone_more qs place None = sym (append-nil (alone qs))
alone_more qs place (Some w) = by qs
  where
    by : (qs : List Asked) → alone (qs ++ (place, w) ∷ []) ≡ alone qs ++ work_alone w ∷ []
    by [] = refl
    by (a ∷ qs) = ap (λ (ws : List Work). work_alone a.1 ∷ ws) (by qs)

-- where a calm history leads
pub record Led (o : Opening) (es : List Entry) (s : State) (x : Course) (t : State) : Type 0 where
  pub y : Course
  pub flow : Flow y t
  pub outs : Outs y t.control
  pub units : y.units ≡ x.units ++ outputs_of (shown_from es s)
  pub works : alone y.works ≡ alone x.works ++ heard o s.control.phase s.control.key_required (calls_alone es)

pub leads : (o : Opening) (es : List Entry) (s t : State) (x : Course) → s.control.opening ≡ o → Flow x s → Outs x s.control → replay_from es s ≡ Some t → is_calm (sights_from es s) ≡ true → Led o es s x t
leads o [] s t x opened f u legal calm = let same = some_same s t legal in record {
  y = x;
  flow = subst (Flow x) same f;
  outs = subst (λ (r : State). Outs x r.control) same u;
  units = sym (append-nil x.units);
  works = sym (append-nil (alone x.works));
}
leads o (e ∷ es) s t x opened f u legal calm = option_and_then_some (replay_from es) (step e s) t legal (λ r is more.
    let v = sight_of e (shown_at e s) r.control.size in
    let both = and_parts (is_none v.removes) (is_calm (sights_from es r)) (rw is at calm) in
    let none : rejects_with e (shown_at e s) ≡ None = calm_none v.removes both.0 in
    let hears = step_hears e s r is none in
    let y = course_after e s x in
    let units : y.units ≡ x.units ++ units_in (shows e s) = rw none refl in
    let works : alone y.works ≡ alone x.works ++ one (asked_after o s.control.phase s.control.key_required e) = rw none (alone_more x.works x.book.place (asked_for e (shows e s)) ∙ (ap (λ (w : Option Work). alone x.works ++ one w) hears.asked ∙ ap (λ (p : Opening). alone x.works ++ one (asked_after p s.control.phase s.control.key_required e)) opened)) in
    let led = leads o es r t y (hears.opening ∙ opened) (step_flow e s r is x f) (step_outs e s r is x f u) more both.1 in
    record {
      y = led.y;
      flow = led.flow;
      outs = led.outs;
      units = led.units ∙ (ap (λ (l : List media.Unit). l ++ outputs_of (shown_from es r)) units ∙ (append_assoc x.units (units_in (shows e s)) (outputs_of (shown_from es r)) ∙ ap (λ (l : List media.Unit). x.units ++ l) (sym (rw is (outputs_tagged s.control.place (shows e s) (shown_from es r))))));
      works = led.works ∙ (rw (works, hears.is_phase, hears.is_key, opened) (append_assoc (alone x.works) _ _ ∙ ap (λ (ws : List Work). alone x.works ++ ws) (sym (heard_more o s.control.phase s.control.key_required e (calls_alone es)))));
    })
