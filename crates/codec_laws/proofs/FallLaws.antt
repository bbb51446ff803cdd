-- Between two dequeue events the size falls.
use Rattle.std.proofs.Common.{ℕ, zero, suc, ◌≡◌, ◌≢◌, ◌+◌, ◌≤◌, ◌<◌, ◌||◌, not, Bool, true, false, eqb, cond, List, [], ◌∷◌, ◌++◌, append-nil, count_by, Option, Some, None, refl, ap, sym, subst, ◌∙◌, arith}
use Rattle.std.specs.Prelude.{option_map, unwrap_or, max}
use Rattle.std.proofs.lemmas.Bool.{lt-ltb, eqb-false}
use Rattle.std.proofs.lemmas.List.Sums.{sum_by-cons, sum_by_push}
use Rattle.wc_base.specs.{declared.error.DomError.DomError, declared.who.Who.Who}
use Rattle.codec_definitions.specs.declared.unit.Unit as media
use Rattle.codec_model.specs.declared.entry.{Work.Work, Message.Message, Running.Running, Call.Call, Coded.Coded, Handed.Handed, Entry.Entry, Ended.Ended, Task.Task, Event.Event, Opening.Opening}
use Rattle.codec_model.specs.Control.{Control, is_coded, kind_of, after_message, process_queue, at_next_place, done_running, after_end, is_dequeue, carried}
use Rattle.codec_model.specs.Replay.{State, accepted, call_error, message_of, step, replay, opening_state}
use Rattle.codec_model.specs.Shown.{shows, shown_at, call_shows, rejections, outputs_from, turn_shows}
use Rattle.codec_model.specs.ShownLaws.{replay_append}
use Rattle.codec_model.specs.StepLaws.{by_queue, by_removals, task_ran, EachStep, by_steps}
use Rattle.codec_model.specs.Facts.{bit, CountsMessages, IsNeverStuck, Always}
use Rattle.codec_laws.specs.declared.sight.Sight.{Sight}
use Rattle.codec_laws.specs.Sights.{asked_for, sight_of, sights_from, falls_from, dequeues, dequeues_at, is_coded as asks_coded}
use Rattle.codec_laws.specs.Laws.{SizeFalls}
use Rattle.codec_laws.proofs.PlaceLaws.{refused_asks, sent_asks, removal_asks}

-- a test counts the first element too
count_first : {X : Type 0} (p : X → Bool) (x : X) (xs : List X) → count_by p (x ∷ xs) ≡ cond (p x) 1 0 + count_by p xs
count_first p x xs = sum_by-cons (λ y. cond (p y) 1 0) x xs

count_last : {X : Type 0} (p : X → Bool) (xs : List X) (x : X) → count_by p (xs ++ x ∷ []) ≡ count_by p xs + cond (p x) 1 0
count_last p xs x = sum_by_push (λ y. cond (p y) 1 0) xs x

abbrev coded_messages : List Message → ℕ
coded_messages ms = count_by (λ m. is_coded m.work) ms

-- Processing counts what is left, and lowers the size where it schedules the event.
record Lowers (n : ℕ) (was : Bool) (d : Control) : Type 0 where
  counts : d.size ≡ coded_messages d.messages
  few : d.size ≤ n
  falls : was ≡ false → d.scheduled ≡ true → d.size < n

taken : (n : ℕ) (was : Bool) (at : ℕ) (w : Work) (ms : List Message) (d : Control) → d.messages ≡ record { place = at; work = w } ∷ ms → Lowers n was d → Lowers n was (record (after_message (record { place = at; work = w }) d) { messages = ms })
taken n was at (Work.Coded x) ms d e h =
    let count : d.size ≡ 1 + coded_messages ms = h.counts ∙ (ap coded_messages e ∙ count_first (λ (m : Message). is_coded m.work) (record { place = at; work = Work.Coded x }) ms) in
    let few = h.few in
    record { counts = omega (arith, count); few = omega (arith, few); falls = λ a b. omega (arith, count, few) }
taken n was at (Work.Configure c) ms d e h = record { counts = h.counts ∙ (ap coded_messages e ∙ (count_first (λ (m : Message). is_coded m.work) (record { place = at; work = Work.Configure c }) ms ∙ omega arith)); few = h.few; falls = h.falls }
taken n was at Work.Flush ms d e h = record { counts = h.counts ∙ (ap coded_messages e ∙ (count_first (λ (m : Message). is_coded m.work) (record { place = at; work = Work.Flush }) ms ∙ omega arith)); few = h.few; falls = h.falls }

clash : (b : Bool) → b ≡ false → b ≡ true → ⊥
clash b f t = let e = sym f ∙ t in absurd cc

process_lowers : (c : Control) → c.size ≡ coded_messages c.messages → Lowers c.size c.scheduled (process_queue c.messages c)
process_lowers c h = by_queue (λ (d : Control). Lowers c.size c.scheduled d) (λ m ms d e k. taken c.size c.scheduled m.place m.work ms d e k) c.messages c refl (record { counts = h; few = omega arith; falls = λ off on. absurd (clash c.scheduled off on) })

abbrev raised : Option Work → ℕ
raised o = cond (asks_coded (option_map kind_of o)) 1 0

-- where the event is scheduled that was not, the size fell
record Falls (w : Option Work) (c d : Control) : Type 0 where
  fell : CountsMessages c → c.scheduled ≡ false → d.scheduled ≡ true → d.size < c.size + raised w

same_falls : (w : Option Work) (c d : Control) → d.scheduled ≡ c.scheduled → Falls w c d
same_falls w c d same = record { fell = λ k off on. absurd (clash c.scheduled off (sym same ∙ on)) }

abbrev queued : Control → Work → List Message
queued c w = c.messages ++ record { place = c.place; work = w } ∷ []

sent_falls : (w : Work) (s : State) (c : Control) → c.messages ≡ queued s.control w → c.size ≡ s.control.size + cond (is_coded w) 1 0 → c.scheduled ≡ s.control.scheduled → Falls (Some w) s.control (process_queue c.messages c)
sent_falls w s c messages size same = record {
  fell = λ k off on.
      let counts : c.size ≡ coded_messages c.messages = size ∙ (ap (λ (n : ℕ). n + cond (is_coded w) 1 0) k.size ∙ sym (ap coded_messages messages ∙ count_last (λ (m : Message). is_coded m.work) s.control.messages (record { place = s.control.place; work = w }))) in
      let lowers = process_lowers c counts in
      let fell = lowers.falls (same ∙ off) on in
      omega (arith, fell, size, coded_same w);
}
  where
    coded_same : (w : Work) → raised (Some w) ≡ cond (is_coded w) 1 0
    coded_same (Work.Configure config) = refl
    coded_same (Work.Coded input) = refl
    coded_same Work.Flush = refl

call_falls : (who : Who) (y : Call) (w : Work) (s : State) → message_of y ≡ Some w → Falls (Some w) s.control (accepted y s.control)
call_falls who y w s m = subst (λ (o : Option Work). Falls o s.control (accepted y s.control)) m (by y m)
  where
    by : (y : Call) → message_of y ≡ Some w → Falls (message_of y) s.control (accepted y s.control)
    by (Call.Configure config) m = sent_falls (Work.Configure config) s _ refl (omega arith) refl
    by (Call.Decode chunk) m = sent_falls (Work.Coded (Coded.Chunk chunk)) s _ refl refl refl
    by (Call.Encode (Handed.Cloned medium)) m = sent_falls (Work.Coded (Coded.Medium medium)) s _ refl refl refl
    by Call.Flush m = sent_falls Work.Flush s _ refl (omega arith) refl
    by y m = absurd cc

-- what is seen to be asked for
asks_falls : (asks asks_is : Option Work) (c d : Control) → asks ≡ asks_is → Falls asks_is c d → Falls asks c d
asks_falls asks asks_is c d e h = rw e h

-- a reset that schedules the event found messages
reset_falls : (w : Option Work) (c d : Control) → d.size ≡ 0 → d.scheduled ≡ (not (eqb c.size 0) || c.scheduled) → Falls w c d
reset_falls w c d size scheduled = record { fell = λ k off on. by (eqb c.size 0) refl (sym scheduled ∙ on) off }
  where
    by : (b : Bool) → eqb c.size 0 ≡ b → (not b || c.scheduled) ≡ true → c.scheduled ≡ false → d.size < c.size + raised w
    by true e on off = absurd (clash c.scheduled off on)
    by false e on off = let apart : c.size ≢ 0 = eqb-false c.size 0 e in omega (arith, apart, size)

done_falls : (r : Running) (e : Ended) (moment : ℕ) (s : State) → Falls None s.control (done_running r e moment (at_next_place s.control))
done_falls r e moment s = by (eqb r.epoch s.control.epoch)
  where
    by : (b : Bool) → Falls None s.control (cond b (after_end r e (record (record (at_next_place s.control) { running = None }) { progress = Some (max moment (unwrap_or s.control.progress moment)) })) (record (at_next_place s.control) { running = None }))
    by true = same_falls None s.control _ refl
    by false = same_falls None s.control _ refl

processed_falls : (s : State) (c : Control) → c.messages ≡ s.control.messages → c.size ≡ s.control.size → c.scheduled ≡ s.control.scheduled → Falls None s.control (process_queue c.messages c)
processed_falls s c messages size same = record {
  fell = λ k off on.
      let lowers = process_lowers c (size ∙ (k.size ∙ ap coded_messages (sym messages))) in
      let fell = lowers.falls (same ∙ off) on in
      omega (arith, fell, size);
}

turn_falls : (t : Task) (ts : List Task) (s : State) → Falls None s.control (task_ran t ts s).control
turn_falls Task.Process ts s = processed_falls s _ refl refl refl
turn_falls Task.Desaturate ts s = processed_falls s _ refl refl refl
turn_falls Task.Dequeue ts s = record { fell = λ k off on. absurd cc }
turn_falls (Task.Close error) ts s = reset_falls None s.control _ refl refl
turn_falls t ts s = same_falls None s.control _ refl

each_falls : EachStep (λ e s t. Falls (asked_for e (shows e s)) s.control t.control)
each_falls = record {
  refused = λ who y error s may e. asks_falls _ None s.control _ (refused_asks who y error s e).0 (same_falls None s.control _ refl);
  sent = λ who y w s m may e. asks_falls _ (Some w) s.control _ (sent_asks who y w s m e).0 (call_falls who y w s m);
  removes_all = λ who y s is e. asks_falls _ None s.control _ (removal_asks who y s is e).0 (by_removals (λ y. Falls None s.control (accepted y s.control)) (reset_falls None s.control _ refl refl) (reset_falls None s.control _ refl refl) y is);
  takes = λ who unit s may. same_falls None s.control _ refl;
  grounds = λ who to s. same_falls None s.control _ refl;
  start = λ i is epoch item s first may. same_falls None s.control _ refl;
  done = λ r e epoch item moment o s running own is. done_falls r e moment s;
  turn = λ t ts s first. turn_falls t ts s;
  reclaim = λ moment s may. reset_falls None s.control _ refl refl;
}

step_falls : (e : Entry) (s t : State) → step e s ≡ Some t → Falls (asked_for e (shows e s)) s.control t.control
step_falls = by_steps (λ e s t. Falls (asked_for e (shows e s)) s.control t.control) each_falls

-- ---- turns of the event

record Fires (s t : State) : Type 0 where
  was : s.control.scheduled ≡ true
  is : t.control.scheduled ≡ false

none_dequeues : (n : ℕ) (us : List media.Unit) (xs : List Event) → dequeues (outputs_from n us ++ xs) ≡ dequeues xs
none_dequeues n [] xs = refl
none_dequeues n (u ∷ us) xs = none_dequeues (n + 1) us xs

rejections_dequeue : (x : DomError) (ps : List ℕ) (xs : List Event) → dequeues (rejections x ps ++ xs) ≡ dequeues xs
rejections_dequeue x [] xs = refl
rejections_dequeue x (p ∷ ps) xs = rejections_dequeue x ps xs

removal_dequeue : (ps : List ℕ) → dequeues (rejections DomError.Abort ps) ≡ false
removal_dequeue ps = ap dequeues (sym (append-nil (rejections DomError.Abort ps))) ∙ rejections_dequeue DomError.Abort ps []

call_dequeue : (y : Call) (place : ℕ) (ps : List ℕ) (o : Option DomError) → dequeues (call_shows y place ps o) ≡ false
call_dequeue Call.Flush place ps (Some error) = refl
call_dequeue y place ps (Some error) = refl
call_dequeue Call.Reset place ps None = removal_dequeue ps
call_dequeue Call.Close place ps None = removal_dequeue ps
call_dequeue y place ps None = refl

abbrev Dequeues : Entry → State → State → Type 0
Dequeues e s t = CountsMessages s.control → dequeues (shows e s) ≡ true → Fires s t

never : {X : Type 0} {b : Bool} → b ≡ true → b ≡ false → X
never {X} {b} on off = absurd (clash b off on)

turn_fires : (t : Task) (ts : List Task) (s : State) → count_by is_dequeue (t ∷ ts) ≡ bit s.control.scheduled → dequeues (turn_shows (t ∷ ts) s.control) ≡ true → Fires s (task_ran t ts s)
turn_fires Task.Dequeue ts s count h = record { was = by s.control.scheduled refl; is = refl }
  where
    by : (b : Bool) → s.control.scheduled ≡ b → s.control.scheduled ≡ true
    by true e = e
    by false e = absurd (omega (arith, count, ap bit e, count_first is_dequeue Task.Dequeue ts))
turn_fires (Task.Output us) ts s count h = never h (ap dequeues (sym (append-nil (outputs_from s.control.shown (carried s.control.active us)))) ∙ none_dequeues s.control.shown (carried s.control.active us) [])
turn_fires (Task.Flushed p us) ts s count h = never h (none_dequeues s.control.shown (carried s.control.active us) (Event.Resolve p ∷ []))
turn_fires (Task.Close x) ts s count h = never h (rejections_dequeue x s.control.pending (Event.ErrorCall x ∷ []))
turn_fires t ts s count h = absurd cc

each_dequeues : EachStep Dequeues
each_dequeues = record {
  refused = λ who y error s may e k h. never h (call_dequeue y s.control.place s.control.pending (call_error y s.control));
  sent = λ who y w s m may e k h. never h (call_dequeue y s.control.place s.control.pending (call_error y s.control));
  removes_all = λ who y s is e k h. never h (call_dequeue y s.control.place s.control.pending (call_error y s.control));
  takes = λ who unit s may k h. absurd cc;
  grounds = λ who to s k h. absurd cc;
  start = λ i is epoch item s first may k h. absurd cc;
  done = λ r e epoch item moment o s running own is k h. absurd cc;
  turn = λ t ts s first k h. turn_fires t ts s (ap (λ (l : List Task). count_by is_dequeue l) (sym first) ∙ k.scheduled) (subst (λ (l : List Task). dequeues (turn_shows l s.control) ≡ true) first h);
  reclaim = λ moment s may k h. never h (rejections_dequeue DomError.QuotaExceeded s.control.pending (Event.ErrorCall DomError.QuotaExceeded ∷ []));
}

step_dequeues : (e : Entry) (s t : State) → step e s ≡ Some t → Dequeues e s t
step_dequeues = by_steps Dequeues each_dequeues

-- ---- the walk

module _ (o : Opening) (some : 1 ≤ o.saturation) (facts : Always IsNeverStuck) where
  -- a history so far, and its state
  record So (s : State) : Type 0 where
    far : List Entry
    replays : replay o far ≡ Some s

  so_more : (e : Entry) (s t : State) → So s → step e s ≡ Some t → So t
  so_more e s t h is = record { far = h.far ++ e ∷ []; replays = replay_append o h.far e s h.replays ∙ is }

  counts : (s : State) → So s → CountsMessages s.control
  counts s h = (facts o h.far s some h.replays).counts

  -- before the next event, where none is scheduled, the size falls
  record FallsBefore (size : ℕ) (xs : List Sight) (j : ℕ) : Type 0 where
    place : ℕ
    before : place < j
    falls : falls_from size xs place ≡ true

  abbrev Waits : State → List Sight → Type 0
  Waits s xs = (j : ℕ) → s.control.scheduled ≡ false → dequeues_at xs j ≡ true → FallsBefore s.control.size xs j

  waits : (es : List Entry) (s : State) → So s → Waits s (sights_from es s)
  waits [] s h = λ j off on. absurd cc
  waits (e ∷ es) s h = by (step e s) refl (λ t is. waits es t (so_more e s t h is))
    where
      here : (t : State) → step e s ≡ Some t → (b : Bool) → t.control.scheduled ≡ b → (j : ℕ) → s.control.scheduled ≡ false → dequeues_at (sights_from es t) j ≡ true → Waits t (sights_from es t) → FallsBefore s.control.size (sight_of e (shown_at e s) t.control.size ∷ sights_from es t) (suc j)
      here t is true now j off on rest = record { place = 0; before = omega arith; falls = lt-ltb _ _ ((step_falls e s t is).fell (counts s h) off now) }
      here t is false now j off on rest = let k = rest j now on in record { place = suc k.place; before = let lt = k.before in omega (arith, lt); falls = k.falls }

      by : (u : Option State) → step e s ≡ u → ((t : State) → step e s ≡ Some t → Waits t (sights_from es t)) → Waits s (unwrap_or (option_map (λ t. sight_of e (shown_at e s) t.control.size ∷ sights_from es t) u) [])
      by None is rest j off on = absurd cc
      by (Some t) is rest zero off on = absurd (clash s.control.scheduled off (step_dequeues e s t is (counts s h) on).was)
      by (Some t) is rest (suc j) off on = here t is t.control.scheduled refl j off on (rest t is)

  record FallsIn (size : ℕ) (xs : List Sight) (i j : ℕ) : Type 0 where
    place : ℕ
    after : i < place
    before : place < j
    falls : falls_from size xs place ≡ true

  abbrev Parts : State → List Sight → Type 0
  Parts s xs = (i j : ℕ) → i < j → dequeues_at xs i ≡ true → dequeues_at xs j ≡ true → FallsIn s.control.size xs i j

  apart : (es : List Entry) (s : State) → So s → Parts s (sights_from es s)
  apart [] s h = λ i j lt first last. absurd cc
  apart (e ∷ es) s h = by (step e s) refl (λ t is. apart es t (so_more e s t h is)) (λ t is. waits es t (so_more e s t h is))
    where
      by : (u : Option State) → step e s ≡ u → ((t : State) → step e s ≡ Some t → Parts t (sights_from es t)) → ((t : State) → step e s ≡ Some t → Waits t (sights_from es t)) → Parts s (unwrap_or (option_map (λ t. sight_of e (shown_at e s) t.control.size ∷ sights_from es t) u) [])
      by None is rest fresh i j lt first last = absurd cc
      by (Some t) is rest fresh i zero lt first last = absurd (omega (arith, lt))
      by (Some t) is rest fresh zero (suc j) lt first last =
          let k = fresh t is j (step_dequeues e s t is (counts s h) first).is last in
          record { place = suc k.place; after = omega arith; before = let b = k.before in omega (arith, b); falls = k.falls }
      by (Some t) is rest fresh (suc i) (suc j) lt first last =
          let k = rest t is i j (omega (arith, lt)) first last in
          record { place = suc k.place; after = let a = k.after in omega (arith, a); before = let b = k.before in omega (arith, b); falls = k.falls }

pub falls_between : (facts : Always IsNeverStuck) → SizeFalls
falls_between facts o h some legal i j lt first last =
    let k = apart o some facts h (opening_state o) (record { far = []; replays = refl }) i j lt first last in
    (k.place, record { after = k.after; before = k.before; falls = k.falls })
