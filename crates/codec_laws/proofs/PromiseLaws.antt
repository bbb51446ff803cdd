-- The promises that are pending are those of the flushes that are queued as tasks, at work or waiting, in this order; each
-- entry ends as many as leave.
use Rattle.std.proofs.Common.{ℕ, ◌≡◌, ◌≢◌, ◌+◌, ◌≤◌, ◌<◌, ◌&&◌, not, Bool, true, false, eqb, cond, eq-eqb, List, [], ◌∷◌, ◌++◌, append_assoc, append-nil, length, count_by, filter, Option, Some, None, is_none, refl, ap, sym, subst, ◌∙◌, arith}
use Rattle.std.proofs.lemmas.Bool.{and_parts, not-true, eqb-true, ne_eqb}
use Rattle.std.proofs.lemmas.List.Sums.{sum_by-cons, sum_by_push}
use Rattle.std.proofs.lemmas.Option.{option_and_then_some}
use Rattle.wc_base.specs.{declared.error.DomError.DomError, declared.who.Who.Who, Options.some_same}
use Rattle.codec_definitions.specs.declared.unit.Unit as media
use Rattle.codec_model.specs.declared.entry.{WorkKind.WorkKind, Work.Work, Item.Item, Message.Message, Running.Running, Call.Call, Coded.Coded, Handed.Handed, Entry.Entry, Outcome.Outcome, Ended.Ended, Task.Task, Event.Event, PromiseEnd.PromiseEnd}
use Rattle.codec_model.specs.Control.{Control, kind_of, process_queue, at_next_place, done_running, is_dequeue, with_ran, with_end, halts, carried, after_reset}
use Rattle.codec_model.specs.Facts.{bit}
use Rattle.codec_model.specs.Replay.{State, Given, accepted, call_error, message_of, removes, ended_of, step, replay_from}
use Rattle.codec_model.specs.Shown.{shows, ends_of, call_shows, accepted_shows, rejections, outputs_from, turn_shows}
use Rattle.codec_model.specs.StepLaws.{by_items, by_removals, begins_free, begun, task_ran, EachStep, by_steps}
use Rattle.codec_laws.specs.Sights.{sights_from}
use Rattle.codec_laws.specs.Sources.{end_at, own_ends, ends_in}
use Rattle.codec_laws.proofs.Course.{Asked, items_asked, messages_asked, waiting_asked, Course, course_after, plain, turned, settled, fresh, done_course_is, turn_course_is, refused_course, sent_course, take_course, ground_course, removal_course, start_course, done_course, turn_course}
use Rattle.codec_laws.proofs.FlowLaws.{Flow, moved, messages_more, mid_free, mid_now, ran_halts, other_halts, step_flow}
use Rattle.codec_laws.proofs.PlaceLaws.{step_phases}

abbrev pub task_promises : List Task → List ℕ
task_promises [] = []
task_promises (Task.Flushed p us ∷ ts) = p ∷ task_promises ts
task_promises (t ∷ ts) = task_promises ts

abbrev pub flush_places : List Asked → List ℕ
flush_places [] = []
flush_places ((p, Work.Flush) ∷ qs) = p ∷ flush_places qs
flush_places (a ∷ qs) = flush_places qs

abbrev pub RisesFrom : ℕ → List ℕ → ℕ → Type 0
RisesFrom low [] high = low ≤ high
RisesFrom low (p ∷ ps) high = (low ≤ p) × RisesFrom (p + 1) ps high

pub record Promises (x : Course) (c : Control) : Type 0 where
  pub is : c.pending ≡ task_promises c.tasks ++ flush_places (x.mid ++ waiting_asked c)
  pub rises : RisesFrom 0 c.pending c.place

abbrev pub count : ℕ → List ℕ → ℕ
count p ps = count_by (λ q. eqb q p) ps

abbrev pub flushed_at : ℕ → Entry → ℕ → ℕ
flushed_at p (Entry.Call who Call.Flush) place = bit (eqb place p)
flushed_at p e place = 0

-- an entry at a lower place is not its flush
pub not_here : (e : Entry) (p place : ℕ) → place < p → flushed_at p e place ≡ 0
not_here (Entry.Call who Call.Flush) p place lt = ap bit (ne_eqb place p (omega (arith, lt)))
not_here e p place lt = refl

-- ---- lists

promises_more : (ts : List Task) (t : Task) → task_promises (ts ++ t ∷ []) ≡ task_promises ts ++ task_promises (t ∷ [])
promises_more [] t = refl
promises_more (Task.Flushed p us ∷ ts) t = ap (λ (ps : List ℕ). p ∷ ps) (promises_more ts t)
promises_more (u ∷ ts) t = promises_more ts t

event_promises : (event : Bool) (ts : List Task) → task_promises (cond event (ts ++ Task.Dequeue ∷ []) ts) ≡ task_promises ts
event_promises true ts = promises_more ts Task.Dequeue ∙ append-nil (task_promises ts)
event_promises false ts = refl

dequeue_promises : (ts : List Task) → task_promises (filter is_dequeue ts) ≡ []
dequeue_promises [] = refl
dequeue_promises (Task.Unblock ∷ ts) = dequeue_promises ts
dequeue_promises (Task.Process ∷ ts) = dequeue_promises ts
dequeue_promises (Task.Desaturate ∷ ts) = dequeue_promises ts
dequeue_promises (Task.Output units ∷ ts) = dequeue_promises ts
dequeue_promises (Task.Flushed promise units ∷ ts) = dequeue_promises ts
dequeue_promises (Task.Dequeue ∷ ts) = dequeue_promises ts
dequeue_promises (Task.Close error ∷ ts) = dequeue_promises ts

flushes_both : (qs rs : List Asked) → flush_places (qs ++ rs) ≡ flush_places qs ++ flush_places rs
flushes_both [] rs = refl
flushes_both ((p, Work.Flush) ∷ qs) rs = ap (λ (ps : List ℕ). p ∷ ps) (flushes_both qs rs)
flushes_both ((p, Work.Configure c) ∷ qs) rs = flushes_both qs rs
flushes_both ((p, Work.Coded input) ∷ qs) rs = flushes_both qs rs

rises_more : (low high : ℕ) (ps : List ℕ) → RisesFrom low ps high → RisesFrom low (ps ++ high ∷ []) (high + 1)
rises_more low high [] h = (h, omega arith)
rises_more low high (p ∷ ps) h = (h.0, rises_more (p + 1) high ps h.1)

rises_next : (low high : ℕ) (ps : List ℕ) → RisesFrom low ps high → RisesFrom low ps (high + 1)
rises_next low high [] h = omega (arith, h)
rises_next low high (p ∷ ps) h = (h.0, rises_next (p + 1) high ps h.1)

rises_lower : (low lower high : ℕ) (ps : List ℕ) → lower ≤ low → RisesFrom low ps high → RisesFrom lower ps high
rises_lower low lower high [] le h = omega (arith, le, h)
rises_lower low lower high (p ∷ ps) le h = (let a = h.0 in omega (arith, le, a), h.1)

-- the first of rising promises is there once
once : (p low high : ℕ) (ps : List ℕ) → p < low → RisesFrom low ps high → filter (λ q. not (eqb q p)) ps ≡ ps
once p low high [] lt h = refl
once p low high (q ∷ ps) lt h =
    let apart : q ≢ p = (let a = h.0 in omega (arith, lt, a)) in
    rw (ne_eqb q p apart) (ap (λ (l : List ℕ). q ∷ l) (once p (q + 1) high ps (let a = h.0 in omega (arith, lt, a)) h.1))

-- no promise is pending that is named by a later entry
pub below : (p low high : ℕ) (ps : List ℕ) → RisesFrom low ps high → high ≤ p → count p ps ≡ 0
below p low high [] h le = refl
below p low high (q ∷ ps) h le = omega (arith, sum_by-cons (λ (n : ℕ). bit (eqb n p)) q ps, below p (q + 1) high ps h.1 le, ap bit (ne_eqb q p (let k = high_of (q + 1) high ps h.1 in omega (arith, k, le))))
  where
    high_of : (low high : ℕ) (ps : List ℕ) → RisesFrom low ps high → low ≤ high
    high_of low high [] h = h
    high_of low high (q ∷ ps) h = let k = high_of (q + 1) high ps h.1 in let a = h.0 in omega (arith, k, a)

-- a promise with no first end has none
pub own_none : (p q : ℕ) (es : List PromiseEnd) → end_at p q es ≡ None → own_ends p es ≡ 0
own_none p q [] h = refl
own_none p q (e ∷ es) h = by (eqb e.promise p) refl (own_none p q es)
  where
    by : (b : Bool) → eqb e.promise p ≡ b → (end_at p q es ≡ None → own_ends p es ≡ 0) → own_ends p (e ∷ es) ≡ 0
    by true is rest = absurd (let k = rw is at h in cc)
    by false is rest = omega (arith, ap bit is, rest (rw is at h))

-- ---- what processing leaves

record Kept (c d : Control) : Type 0 where
  waiting : waiting_asked d ≡ waiting_asked c
  tasks : task_promises d.tasks ≡ task_promises c.tasks
  pending : d.pending ≡ c.pending
  place : d.place ≡ c.place

processed : (c : Control) → Kept c (process_queue c.messages c)
processed c = by_items (λ (d : Control). Kept c d) (λ m ms d blocked saturated scheduled event size few e h. record {
  waiting = moved d.work (record { number = d.next_item; place = m.place; work = m.work }) m ms refl refl ∙ (ap (λ (l : List Message). items_asked d.work ++ messages_asked l) (sym e) ∙ h.waiting);
  tasks = event_promises event d.tasks ∙ h.tasks;
  pending = h.pending;
  place = h.place;
}) c.messages c refl (record { waiting = refl; tasks = refl; pending = refl; place = refl })

same_promises : (x y : Course) (c d : Control) → y.mid ≡ x.mid → waiting_asked d ≡ waiting_asked c → task_promises d.tasks ≡ task_promises c.tasks → d.pending ≡ c.pending → d.place ≡ c.place + 1 → Promises x c → Promises y d
same_promises x y c d mid waiting tasks pending place h = record {
  is = pending ∙ (h.is ∙ sym (rw (mid, waiting, tasks) refl));
  rises = rw (pending, place) (rises_next 0 c.place c.pending h.rises);
}

-- a message is queued: of a flush its promise is pending
queued_promises : (w : Work) (x : Course) (c b : Control) → b.messages ≡ c.messages ++ record { place = c.place; work = w } ∷ [] → b.work ≡ c.work → b.tasks ≡ c.tasks → b.pending ≡ c.pending ++ flush_places ((c.place, w) ∷ []) → b.place ≡ c.place + 1 → Promises x c → Promises (plain (Some w) x) (process_queue b.messages b)
queued_promises w x c b messages work tasks pending place h =
    let k = processed b in
    let more : flush_places (x.mid ++ waiting_asked b) ≡ flush_places (x.mid ++ waiting_asked c) ++ flush_places ((c.place, w) ∷ []) = rw (messages, work, messages_more c.messages (record { place = c.place; work = w }), ← append_assoc, ← append_assoc, flushes_both (x.mid ++ items_asked c.work ++ messages_asked c.messages)) (rw (← append_assoc) refl) in
    record {
      is = k.pending ∙ (pending ∙ (ap (λ (ps : List ℕ). ps ++ flush_places ((c.place, w) ∷ [])) h.is ∙ (append_assoc (task_promises c.tasks) _ _ ∙ sym (rw (k.tasks, k.waiting, more, tasks) refl))));
      rises = rw (k.pending, k.place, pending, place) (by w);
    }
  where
    by : (w : Work) → RisesFrom 0 (c.pending ++ flush_places ((c.place, w) ∷ [])) (c.place + 1)
    by Work.Flush = rises_more 0 c.place c.pending h.rises
    by (Work.Configure config) = rw append-nil (rises_next 0 c.place c.pending h.rises)
    by (Work.Coded input) = rw append-nil (rises_next 0 c.place c.pending h.rises)

sent_promises : (y : Call) (w : Work) (x : Course) (c : Control) → message_of y ≡ Some w → Promises x c → Promises (plain (Some w) x) (accepted y c)
sent_promises y w x c m h = subst (λ (v : Option Work). Promises (plain v x) (accepted y c)) m (by y m)
  where
    by : (y : Call) → message_of y ≡ Some w → Promises (plain (message_of y) x) (accepted y c)
    by (Call.Configure config) m = queued_promises (Work.Configure config) x c _ refl refl refl (sym (append-nil c.pending)) refl h
    by (Call.Decode chunk) m = queued_promises (Work.Coded (Coded.Chunk chunk)) x c _ refl refl refl (sym (append-nil c.pending)) refl h
    by (Call.Encode (Handed.Cloned medium)) m = queued_promises (Work.Coded (Coded.Medium medium)) x c _ refl refl refl (sym (append-nil c.pending)) refl h
    by Call.Flush m = queued_promises Work.Flush x c _ refl refl refl refl refl h
    by y m = absurd cc

removed_promises : (x : Course) (d : Control) → d.pending ≡ [] → task_promises d.tasks ≡ [] → d.work ≡ [] → d.messages ≡ [] → Promises (fresh x) d
removed_promises x d pending tasks work messages = record { is = rw (pending, tasks, work, messages) refl; rises = rw pending (omega arith) }

reset_promises : (c : Control) → task_promises (after_reset c).tasks ≡ []
reset_promises c = event_promises (not (eqb c.size 0) && not c.scheduled) (filter is_dequeue c.tasks) ∙ dequeue_promises c.tasks

remove_promises : (y : Call) (x : Course) (s : State) → removes y ≡ true → Promises (fresh x) (accepted y s.control)
remove_promises y x s is = by_removals (λ y. Promises (fresh x) (accepted y s.control)) (removed_promises x _ refl (reset_promises (at_next_place s.control)) refl refl) (removed_promises x _ refl (reset_promises (at_next_place s.control)) refl refl) y is

-- ---- starts and ends

begun_promises : (i : Item) (is : List Item) (x : Course) (s : State) → s.control.work ≡ i ∷ is → x.mid ≡ [] → Promises x s.control → Promises (record (plain None x) { mid = (i.place, i.work) ∷ [] }) (begun (i ∷ is) i s).control
begun_promises i is x s first none h = record {
  is = h.is ∙ rw (none, first) refl;
  rises = rises_next 0 s.control.place s.control.pending h.rises;
}

output_promises : (b c : Bool) (us : List media.Unit) (ts : List Task) → task_promises (cond b (cond c (ts ++ Task.Desaturate ∷ []) ts) (cond c (ts ++ Task.Desaturate ∷ []) ts ++ Task.Output us ∷ [])) ≡ task_promises ts
output_promises true true us ts = promises_more ts Task.Desaturate ∙ append-nil (task_promises ts)
output_promises true false us ts = refl
output_promises false true us ts = promises_more (ts ++ Task.Desaturate ∷ []) (Task.Output us) ∙ (append-nil (task_promises (ts ++ Task.Desaturate ∷ [])) ∙ (promises_more ts Task.Desaturate ∙ append-nil (task_promises ts)))
output_promises false false us ts = promises_more ts (Task.Output us) ∙ append-nil (task_promises ts)

ran_promises : (epoch number place : ℕ) (w : Work) (us : List media.Unit) (b : Bool) (ts : List Task) → task_promises (with_ran (record { epoch = epoch; number = number; place = place; kind = kind_of w }) us b ts) ≡ task_promises ts ++ flush_places ((place, w) ∷ [])
ran_promises epoch number place (Work.Configure c) us b ts = promises_more ts Task.Unblock
ran_promises epoch number place (Work.Coded input) us b ts = output_promises _ _ us ts ∙ sym (append-nil (task_promises ts))
ran_promises epoch number place Work.Flush us b ts = promises_more ts (Task.Flushed place us)

closing_promises : (r : Running) (e : Ended) (b : Bool) (ts : List Task) → halts e ≡ true → task_promises (with_end r e b ts) ≡ task_promises ts
closing_promises r (Ended.Ran us) b ts h = absurd cc
closing_promises r Ended.Refused b ts h = promises_more ts (Task.Close _) ∙ append-nil (task_promises ts)
closing_promises r (Ended.NoSlot n) b ts h = promises_more ts (Task.Close _) ∙ append-nil (task_promises ts)
closing_promises r Ended.NoMemory b ts h = promises_more ts (Task.Close _) ∙ append-nil (task_promises ts)

-- what the end of an item leaves
record Ends (c d : Control) (ts : List Task) : Type 0 where
  waiting : waiting_asked d ≡ waiting_asked c
  tasks : d.tasks ≡ ts
  pending : d.pending ≡ c.pending
  place : d.place ≡ c.place + 1

ends_now : (r : Running) (e : Ended) (moment : ℕ) (c : Control) → eqb r.epoch c.epoch ≡ true → Ends c (done_running r e moment (at_next_place c)) (with_end r e c.saturated c.tasks)
ends_now r e moment c now = rw now (record { waiting = refl; tasks = refl; pending = refl; place = refl })

ends_old : (r : Running) (e : Ended) (moment : ℕ) (c : Control) → eqb r.epoch c.epoch ≡ false → Ends c (done_running r e moment (at_next_place c)) c.tasks
ends_old r e moment c old = rw old (record { waiting = refl; tasks = refl; pending = refl; place = refl })

ended_ran : (k : WorkKind) (g : Given) (n : ℕ) (e : Ended) → ended_of k g (Outcome.Ran n) ≡ Some e → (us : List media.Unit) × (e ≡ Ended.Ran us)
ended_ran k g n e h = by e (ran_halts k g n e h)
  where
    by : (e : Ended) → halts e ≡ false → (us : List media.Unit) × (e ≡ Ended.Ran us)
    by (Ended.Ran us) h = (us, refl)
    by Ended.Refused h = absurd cc
    by (Ended.NoSlot m) h = absurd cc
    by Ended.NoMemory h = absurd cc

now_promises : (r : Running) (e : Ended) (moment : ℕ) (o : Outcome) (x : Course) (s : State) → s.control.running ≡ Some r → r.epoch ≡ s.control.epoch → ended_of r.kind s.running_given o ≡ Some e → Flow x s → Promises x s.control → Promises (done_course_is s.control.epoch r.number o s x) (done_running r e moment (at_next_place s.control))
now_promises r e moment o x s running now is f h =
    let k = mid_now x.mid (length x.past) s r running now f.mid in
    let same : k.2.r ≡ r = some_same k.2.r r (sym k.2.is ∙ running) in
    by o is k.0 k.1 (ap (λ (q : Running). q.kind) (sym same) ∙ k.2.kind) (ap (λ (q : Running). q.place) (sym same) ∙ k.2.place) (ends_now r e moment s.control (eq-eqb r.epoch s.control.epoch now))
  where
    stops : halts e ≡ true → Ends s.control (done_running r e moment (at_next_place s.control)) (with_end r e s.control.saturated s.control.tasks) → Promises (plain None x) (done_running r e moment (at_next_place s.control))
    stops stop ends = same_promises x (plain None x) s.control _ refl ends.waiting (ap task_promises ends.tasks ∙ closing_promises r e s.control.saturated s.control.tasks stop) ends.pending ends.place h

    by : (o : Outcome) → ended_of r.kind s.running_given o ≡ Some e → (a : Asked) → x.mid ≡ a ∷ [] → r.kind ≡ kind_of a.1 → r.place ≡ a.0 → Ends s.control (done_running r e moment (at_next_place s.control)) (with_end r e s.control.saturated s.control.tasks) → Promises (done_course_is s.control.epoch r.number o s x) (done_running r e moment (at_next_place s.control))
    by (Outcome.Ran n) is a mid kind place ends =
        let ran = ended_ran r.kind s.running_given n e is in
        let tasks : task_promises (done_running r e moment (at_next_place s.control)).tasks ≡ task_promises s.control.tasks ++ flush_places (a ∷ []) =
        ap task_promises ends.tasks ∙ (ap (λ (y : Ended). task_promises (with_end r y s.control.saturated s.control.tasks)) ran.1
        ∙ (ap (λ (k : WorkKind). task_promises (with_ran (record { epoch = r.epoch; number = r.number; place = r.place; kind = k }) ran.0 s.control.saturated s.control.tasks)) kind
        ∙ (ap (λ (p : ℕ). task_promises (with_ran (record { epoch = r.epoch; number = r.number; place = p; kind = kind_of a.1 }) ran.0 s.control.saturated s.control.tasks)) place
        ∙ ran_promises r.epoch r.number a.0 a.1 ran.0 s.control.saturated s.control.tasks))) in
        let leaves : (settled s.control.epoch r.number n s x).mid ≡ [] = ap (λ (b : Bool). cond b [] x.mid) (eq-eqb s.control.epoch s.control.epoch refl) in
        let before : flush_places (x.mid ++ waiting_asked s.control) ≡ flush_places (a ∷ []) ++ flush_places (waiting_asked s.control) = ap (λ (qs : List Asked). flush_places (qs ++ waiting_asked s.control)) mid ∙ flushes_both (a ∷ []) (waiting_asked s.control) in
        record {
          is = ends.pending ∙ (h.is ∙ (ap (λ (ps : List ℕ). task_promises s.control.tasks ++ ps) before ∙ (sym (append_assoc (task_promises s.control.tasks) (flush_places (a ∷ [])) (flush_places (waiting_asked s.control))) ∙ sym (rw (tasks, leaves, ends.waiting) refl))));
          rises = rw (ends.pending, ends.place) (rises_next 0 s.control.place s.control.pending h.rises);
        }
    by Outcome.Refused is a mid kind place ends = stops (other_halts r.kind s.running_given Outcome.Refused e refl is) ends
    by (Outcome.NoSlot m) is a mid kind place ends = stops (other_halts r.kind s.running_given (Outcome.NoSlot m) e refl is) ends
    by Outcome.NoMemory is a mid kind place ends = stops (other_halts r.kind s.running_given Outcome.NoMemory e refl is) ends

past_promises : (r : Running) (e : Ended) (item moment : ℕ) (o : Outcome) (x : Course) (s : State) → eqb r.epoch s.control.epoch ≡ false → Promises x s.control → Promises (done_course_is r.epoch item o s x) (done_running r e moment (at_next_place s.control))
past_promises r e item moment o x s old h = by o (ends_old r e moment s.control old)
  where
    by : (o : Outcome) → Ends s.control (done_running r e moment (at_next_place s.control)) s.control.tasks → Promises (done_course_is r.epoch item o s x) (done_running r e moment (at_next_place s.control))
    by (Outcome.Ran n) ends = same_promises x (settled r.epoch item n s x) s.control _ (ap (λ (b : Bool). cond b [] x.mid) old) ends.waiting (ap task_promises ends.tasks) ends.pending ends.place h
    by o ends = same_promises x (plain None x) s.control _ refl ends.waiting (ap task_promises ends.tasks) ends.pending ends.place h

done_promises : (r : Running) (e : Ended) (epoch item moment : ℕ) (o : Outcome) (x : Course) (s : State) → s.control.running ≡ Some r → (eqb r.epoch epoch && eqb r.number item) ≡ true → ended_of r.kind s.running_given o ≡ Some e → Flow x s → Promises x s.control → Promises (done_course_is epoch item o s x) (done_running r e moment (at_next_place s.control))
done_promises r e epoch item moment o x s running own is f h =
    let parts = and_parts (eqb r.epoch epoch) (eqb r.number item) own in
    by (eqb r.epoch s.control.epoch) refl (eqb-true r.epoch epoch parts.0) (eqb-true r.number item parts.1)
  where
    by : (b : Bool) → eqb r.epoch s.control.epoch ≡ b → r.epoch ≡ epoch → r.number ≡ item → Promises (done_course_is epoch item o s x) (done_running r e moment (at_next_place s.control))
    by true t same number = let now = eqb-true r.epoch s.control.epoch t in subst (λ (n : ℕ). Promises (done_course_is n item o s x) (done_running r e moment (at_next_place s.control))) (sym now ∙ same) (subst (λ (n : ℕ). Promises (done_course_is s.control.epoch n o s x) (done_running r e moment (at_next_place s.control))) number (now_promises r e moment o x s running now is f h))
    by false t same number = subst (λ (n : ℕ). Promises (done_course_is n item o s x) (done_running r e moment (at_next_place s.control))) same (past_promises r e item moment o x s t h)

-- ---- turns

-- the first pending promise is resolved
first_leaves : (p high : ℕ) (ps rest : List ℕ) → ps ≡ p ∷ rest → RisesFrom 0 ps high → (filter (λ q. not (eqb q p)) ps ≡ rest) × RisesFrom 0 rest high
first_leaves p high ps rest is h =
    let rises : RisesFrom 0 (p ∷ rest) high = subst (λ (l : List ℕ). RisesFrom 0 l high) is h in
    let itself : filter (λ q. not (eqb q p)) (p ∷ rest) ≡ rest = rw (eq-eqb p p refl) (once p (p + 1) high rest (omega arith) rises.1) in
    (ap (λ (l : List ℕ). filter (λ q. not (eqb q p)) l) is ∙ itself, rises_lower (p + 1) 0 high rest (omega arith) rises.1)

flushed_promises : (p : ℕ) (us : List media.Unit) (ts : List Task) (x : Course) (c : Control) → c.tasks ≡ Task.Flushed p us ∷ ts → Promises x c → (c.pending ≡ p ∷ (task_promises ts ++ flush_places (x.mid ++ waiting_asked c)))
flushed_promises p us ts x c first h = h.is ∙ ap (λ (l : List Task). task_promises l ++ flush_places (x.mid ++ waiting_asked c)) first

turn_promises : (t : Task) (ts : List Task) (x : Course) (s : State) → s.control.tasks ≡ t ∷ ts → Promises x s.control → Promises (turn_course_is t s x) (task_ran t ts s).control
turn_promises Task.Unblock ts x s first h = same_promises x (turned [] x) s.control _ refl refl (promises_more ts Task.Process ∙ (append-nil (task_promises ts) ∙ ap task_promises (sym first))) refl refl h
turn_promises Task.Process ts x s first h = let k = processed (record (at_next_place s.control) { tasks = ts }) in same_promises x (turned [] x) s.control _ refl k.waiting (k.tasks ∙ ap task_promises (sym first)) k.pending k.place h
turn_promises Task.Desaturate ts x s first h = let k = processed (record (at_next_place s.control) { tasks = ts; saturated = false }) in same_promises x (turned [] x) s.control _ refl k.waiting (k.tasks ∙ ap task_promises (sym first)) k.pending k.place h
turn_promises (Task.Output us) ts x s first h = same_promises x _ s.control _ refl refl (ap task_promises (sym first)) refl refl h
turn_promises (Task.Flushed p us) ts x s first h =
    let k = first_leaves p s.control.place s.control.pending _ (flushed_promises p us ts x s.control first h) h.rises in
    record { is = k.0; rises = subst (λ (ps : List ℕ). RisesFrom 0 ps (s.control.place + 1)) (sym k.0) (rises_next 0 s.control.place _ k.1) }
turn_promises Task.Dequeue ts x s first h = same_promises x (turned [] x) s.control _ refl refl (ap task_promises (sym first)) refl refl h
turn_promises (Task.Close error) ts x s first h = removed_promises x _ refl (reset_promises (record (at_next_place s.control) { tasks = ts })) refl refl

-- ---- each entry

idle_of : (o : Option Running) → is_none o ≡ true → o ≡ None
idle_of None h = refl
idle_of (Some r) h = absurd cc

each_promises : EachStep (λ e s t. (x : Course) → Flow x s → Promises x s.control → Promises (course_after e s x) t.control)
each_promises = record {
  refused = λ who y error s may e x f h. rw (refused_course who y error s x e) (same_promises x _ s.control _ refl refl refl refl refl h);
  sent = λ who y w s m may e x f h. rw (sent_course who y w s x m e) (sent_promises y w x s.control m h);
  removes_all = λ who y s is e x f h. rw (removal_course who y s x is e) (remove_promises y x s is);
  takes = λ who unit s may x f h. rw (take_course who unit s x) (same_promises x _ s.control _ refl refl refl refl refl h);
  grounds = λ who to s x f h. rw (ground_course who to s x) (same_promises x _ s.control _ refl refl refl refl refl h);
  start = λ i is epoch item s first may x f h.
      let free = and_parts (is_none s.control.running) (not s.control.halted) (begins_free epoch item i s.control may) in
      let none = mid_free x.mid (length x.past) s (idle_of s.control.running free.0) (not-true _ free.1) f.mid in
      rw (start_course epoch item s x, first) (begun_promises i is x s first none h);
  done = λ r e epoch item moment o s running own is x f h. rw (done_course epoch item moment o s x) (done_promises r e epoch item moment o x s running own is f h);
  turn = λ t ts s first x f h. rw (turn_course t ts s x first) (turn_promises t ts x s first h);
  reclaim = λ moment s may x f h. removed_promises x _ refl (reset_promises (at_next_place s.control)) refl refl;
}

pub step_promises : (e : Entry) (s t : State) → step e s ≡ Some t → (x : Course) → Flow x s → Promises x s.control → Promises (course_after e s x) t.control
step_promises = by_steps (λ e s t. (x : Course) → Flow x s → Promises x s.control → Promises (course_after e s x) t.control) each_promises

-- ---- as many end as leave

count_first : (p q : ℕ) (ps : List ℕ) → count p (q ∷ ps) ≡ bit (eqb q p) + count p ps
count_first p q ps = sum_by-cons (λ n. bit (eqb n p)) q ps

rejected_count : (p : ℕ) (x : DomError) (ps : List ℕ) (xs : List Event) → own_ends p (ends_of (rejections x ps ++ xs)) ≡ count p ps + own_ends p (ends_of xs)
rejected_count p x [] xs = omega arith
rejected_count p x (q ∷ ps) xs = omega (arith, rejected_count p x ps xs, count_first p q ps)

outputs_count : (p n : ℕ) (us : List media.Unit) (xs : List Event) → own_ends p (ends_of (outputs_from n us ++ xs)) ≡ own_ends p (ends_of xs)
outputs_count p n [] xs = refl
outputs_count p n (u ∷ us) xs = outputs_count p (n + 1) us xs

abbrev Conserves : ℕ → Entry → State → Control → Type 0
Conserves p e s d = own_ends p (ends_of (shows e s)) + count p d.pending ≡ count p s.control.pending + flushed_at p e s.control.place

quiet_conserves : (p : ℕ) (xs : List Event) (c d : Control) → own_ends p (ends_of xs) ≡ 0 → d.pending ≡ c.pending → own_ends p (ends_of xs) + count p d.pending ≡ count p c.pending + 0
quiet_conserves p xs c d none same = rw same (omega (arith, none))

refused_conserves : (p : ℕ) (who : Who) (y : Call) (error : DomError) (s : State) → call_error y s.control ≡ Some error → Conserves p (Entry.Call who y) s (at_next_place s.control)
refused_conserves p who y error s e = rw e (by y)
  where
    by : (y : Call) → own_ends p (ends_of (call_shows y s.control.place s.control.pending (Some error))) + count p s.control.pending ≡ count p s.control.pending + flushed_at p (Entry.Call who y) s.control.place
    by Call.Flush = omega arith
    by y = omega arith

-- a message is queued, and with it the promise of a flush
sent_pending : (p : ℕ) (w : Work) (c b : Control) (n : ℕ) → b.messages ≡ c.messages ++ record { place = c.place; work = w } ∷ [] → count p b.pending ≡ count p c.pending + n → 0 + count p (process_queue b.messages b).pending ≡ count p c.pending + n
sent_pending p w c b n messages more = omega (arith, ap (λ (l : List ℕ). count p l) (processed b).pending, more)

sent_conserves : (p : ℕ) (who : Who) (y : Call) (w : Work) (s : State) → message_of y ≡ Some w → call_error y s.control ≡ None → Conserves p (Entry.Call who y) s (accepted y s.control)
sent_conserves p who y w s m e = rw e (by y m)
  where
    by : (y : Call) → message_of y ≡ Some w → own_ends p (ends_of (accepted_shows y s.control.pending)) + count p (accepted y s.control).pending ≡ count p s.control.pending + flushed_at p (Entry.Call who y) s.control.place
    by (Call.Configure config) m = sent_pending p (Work.Configure config) s.control _ 0 refl (omega arith)
    by (Call.Decode chunk) m = sent_pending p (Work.Coded (Coded.Chunk chunk)) s.control _ 0 refl (omega arith)
    by (Call.Encode (Handed.Cloned medium)) m = sent_pending p (Work.Coded (Coded.Medium medium)) s.control _ 0 refl (omega arith)
    by Call.Flush m = sent_pending p Work.Flush s.control _ _ refl (sum_by_push (λ (n : ℕ). bit (eqb n p)) s.control.pending s.control.place)
    by y m = absurd cc

removed_conserves : (p : ℕ) (x : DomError) (ps : List ℕ) → own_ends p (ends_of (rejections x ps)) + 0 ≡ count p ps + 0
removed_conserves p x ps = omega (arith, rejected_count p x ps [], ap (λ (xs : List Event). own_ends p (ends_of xs)) (append-nil (rejections x ps)))

closed_conserves : (p : ℕ) (x : DomError) (ps : List ℕ) → own_ends p (ends_of (rejections x ps ++ Event.ErrorCall x ∷ [])) + 0 ≡ count p ps + 0
closed_conserves p x ps = omega (arith, rejected_count p x ps (Event.ErrorCall x ∷ []))

remove_conserves : (p : ℕ) (who : Who) (y : Call) (s : State) → removes y ≡ true → call_error y s.control ≡ None → Conserves p (Entry.Call who y) s (accepted y s.control)
remove_conserves p who y s is e = rw e (by_removals (λ y. own_ends p (ends_of (accepted_shows y s.control.pending)) + count p (accepted y s.control).pending ≡ count p s.control.pending + flushed_at p (Entry.Call who y) s.control.place) (removed_conserves p DomError.Abort s.control.pending) (removed_conserves p DomError.Abort s.control.pending) y is)

pending_same : (r : Running) (e : Ended) (moment : ℕ) (c : Control) → (done_running r e moment (at_next_place c)).pending ≡ c.pending
pending_same r e moment c = by (eqb r.epoch c.epoch) refl
  where
    by : (b : Bool) → eqb r.epoch c.epoch ≡ b → (done_running r e moment (at_next_place c)).pending ≡ c.pending
    by true is = (ends_now r e moment c is).pending
    by false is = (ends_old r e moment c is).pending

turn_conserves : (p : ℕ) (t : Task) (ts : List Task) (x : Course) (s : State) → s.control.tasks ≡ t ∷ ts → Promises x s.control → own_ends p (ends_of (turn_shows (t ∷ ts) s.control)) + count p (task_ran t ts s).control.pending ≡ count p s.control.pending + 0
turn_conserves p Task.Unblock ts x s first h = omega arith
turn_conserves p Task.Process ts x s first h = quiet_conserves p [] s.control (task_ran Task.Process ts s).control refl ((processed (record (at_next_place s.control) { tasks = ts })).pending)
turn_conserves p Task.Desaturate ts x s first h = quiet_conserves p [] s.control (task_ran Task.Desaturate ts s).control refl ((processed (record (at_next_place s.control) { tasks = ts; saturated = false })).pending)
turn_conserves p (Task.Output us) ts x s first h = omega (arith, outputs_count p s.control.shown (carried s.control.active us) [], ap (λ (xs : List Event). own_ends p (ends_of xs)) (append-nil (outputs_from s.control.shown (carried s.control.active us))))
turn_conserves p (Task.Flushed q us) ts x s first h =
    let is = flushed_promises q us ts x s.control first h in
    let k = first_leaves q s.control.place s.control.pending _ is h.rises in
    let before = ap (λ (ps : List ℕ). count p ps) is ∙ count_first p q (task_promises ts ++ flush_places (x.mid ++ waiting_asked s.control)) in
    let after = ap (λ (ps : List ℕ). count p ps) k.0 in
    omega (arith, before, after, outputs_count p s.control.shown (carried s.control.active us) (Event.Resolve q ∷ []))
turn_conserves p Task.Dequeue ts x s first h = omega arith
turn_conserves p (Task.Close x) ts y s first h = closed_conserves p x s.control.pending

each_conserves : (p : ℕ) → EachStep (λ e s t. (x : Course) → Promises x s.control → Conserves p e s t.control)
each_conserves p = record {
  refused = λ who y error s may e x h. refused_conserves p who y error s e;
  sent = λ who y w s m may e x h. sent_conserves p who y w s m e;
  removes_all = λ who y s is e x h. remove_conserves p who y s is e;
  takes = λ who unit s may x h. omega arith;
  grounds = λ who to s x h. omega arith;
  start = λ i is epoch item s first may x h. omega arith;
  done = λ r e epoch item moment o s running own is x h. quiet_conserves p [] s.control (done_running r e moment (at_next_place s.control)) refl (pending_same r e moment s.control);
  turn = λ t ts s first x h. subst (λ (l : List Task). own_ends p (ends_of (turn_shows l s.control)) + count p (task_ran t ts s).control.pending ≡ count p s.control.pending + 0) (sym first) (turn_conserves p t ts x s first h);
  reclaim = λ moment s may x h. closed_conserves p DomError.QuotaExceeded s.control.pending;
}

pub step_conserves : (p : ℕ) (e : Entry) (s t : State) → step e s ≡ Some t → (x : Course) → Promises x s.control → Conserves p e s t.control
step_conserves p = by_steps (λ e s t. (x : Course) → Promises x s.control → Conserves p e s t.control) (each_conserves p)

-- ---- the walk

abbrev pub flushes_from : ℕ → List Entry → ℕ → ℕ
flushes_from p [] place = 0
flushes_from p (e ∷ es) place = flushed_at p e place + flushes_from p es (place + 1)

-- at most one flush stands at a place
pub none_before : (p : ℕ) (es : List Entry) (place : ℕ) → p < place → flushes_from p es place ≡ 0
none_before p [] place lt = refl
none_before p (Entry.Call who Call.Flush ∷ es) place lt = omega (arith, none_before p es (place + 1) (omega (arith, lt)), ap bit (ne_eqb place p (omega (arith, lt))))
none_before p (e ∷ es) place lt = omega (arith, none_before p es (place + 1) (omega (arith, lt)))

pub few_flushes : (p : ℕ) (es : List Entry) (place : ℕ) → flushes_from p es place ≤ 1
few_flushes p [] place = omega arith
few_flushes p (Entry.Call who Call.Flush ∷ es) place = by (eqb place p) refl (few_flushes p es (place + 1))
  where
    by : (b : Bool) → eqb place p ≡ b → flushes_from p es (place + 1) ≤ 1 → bit (eqb place p) + flushes_from p es (place + 1) ≤ 1
    by true e few = let same = eqb-true place p e in omega (arith, ap bit e, none_before p es (place + 1) (omega (arith, same)))
    by false e few = omega (arith, ap bit e, few)
few_flushes p (e ∷ es) place = omega (arith, few_flushes p es (place + 1))

-- what ended and what is pending in the end were pending, or their flushes stand among these entries
pub record EndedBy (p : ℕ) (es : List Entry) (s t : State) : Type 0 where
  pub balance : ends_in p (sights_from es s) + count p t.control.pending ≡ count p s.control.pending + flushes_from p es s.control.place

pub ends_balance : (p : ℕ) (es : List Entry) (s t : State) (x : Course) → Flow x s → Promises x s.control → replay_from es s ≡ Some t → EndedBy p es s t
ends_balance p [] s t x f h legal = record { balance = let same = ap (λ (r : State). count p r.control.pending) (some_same s t legal) in omega (arith, same) }
ends_balance p (e ∷ es) s t x f h legal = option_and_then_some (replay_from es) (step e s) t legal (λ r is more.
    let rest = ends_balance p es r t (course_after e s x) (step_flow e s r is x f) (step_promises e s r is x f h) more in
    let here = step_conserves p e s r is x h in
    let place = (step_phases e s r is).place in
    record { balance = rw is (let b = rest.balance in omega (arith, b, here, ap (λ (n : ℕ). flushes_from p es n) place)) })
