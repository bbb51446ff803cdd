-- The facts hold at the opening, and each step keeps them.
use Rattle.std.proofs.Common.{ℕ, ◌≡◌, ◌+◌, ◌≤◌, ◌&&◌, ◌||◌, not, Bool, true, false, eqb, cond, List, [], ◌∷◌, ◌++◌, filter, count_by, Option, Some, None, sum_by, is_none, refl, ap, sym, inl, inr, ◌⊎◌, ◌*◌, ◌≢◌, subst, eq-eqb, ◌∙◌, arith}
use Rattle.std.specs.Prelude.{option_and_then, unwrap_or, max, IfSome}
use Rattle.std.proofs.lemmas.Bool.{not-true, and_parts, ne_eqb}
use Rattle.std.proofs.lemmas.Bool.Decides.{nat_tests}
use Rattle.std.proofs.lemmas.List.Sums.{sum_by-cons, sum_by_push}
use Rattle.wc_base.specs.Options.{some_same}
use Rattle.codec_model.specs.declared.entry.{CodecState.TheVariants.Unconfigured, CodecState.TheVariants.Closed, Opening.Opening}
use Rattle.codec_model.specs.declared.entry.{CodecState.CodecState, Call.Call, Handed.Handed, Entry.Entry, Coded.Coded, Work.Work}
use Rattle.std.proofs.lemmas.List.Filters.{sum_by-filter_both}
use Rattle.codec_model.specs.declared.entry.{WorkKind.WorkKind, Message.Message, Item.Item, Running.Running, Task.Task, Ended.Ended}
use Rattle.codec_model.specs.Control.{Control, is_coded, is_close, is_dequeue, is_desaturate, coded_running, coded_out, is_taken, after_message, takes_front, process_queue, at_next_place, run_task, done_running, after_end, after_reset, start_first}
use Rattle.codec_model.specs.Replay.{State, opening_state, step, replay, replay_from, accepted, message_of}
use Rattle.codec_model.specs.Facts.{bit, Always, configures_out, flush_parts, is_unblock, is_process, flushes, configures_now, flushes_now, IsNumbered, IsBefore, IsNeverStuck, EndsQuiet}
use Rattle.codec_model.specs.StepLaws.{EachStep, begins_free, by_removals, by_steps}

-- tests as numbers
pub at_most_one : (b : Bool) → bit b ≤ 1
at_most_one true = omega arith
at_most_one false = omega arith

either : (a b : Bool) → bit (a || b) ≡ bit (a && not b) + bit b
either true true = refl
either true false = refl
either false b = omega arith

same_epoch : (e : ℕ) (b : Bool) → (bit (eqb e e) ≡ 1) × (bit (eqb e e && b) ≡ bit b)
same_epoch e b = (ap bit (eq-eqb e e refl), ap (λ (x : Bool). bit (x && b)) (eq-eqb e e refl))

same_or_apart : (a b : ℕ) → ((bit (eqb a b) ≡ 1) × (a ≡ b)) ⊎ ((bit (eqb a b) ≡ 0) × (a ≢ b))
same_or_apart a b = grind (arith, nat_tests)

-- a task that is queued under a test
pub queued_if : (f : Task → ℕ) (t : Task) (b : Bool) (ts : List Task) → sum_by f (cond b (ts ++ t ∷ []) ts) ≡ sum_by f ts + f t * bit b
queued_if f t true ts = omega (arith, sum_by_push)
queued_if f t false ts = omega arith

pub queued_unless : (f : Task → ℕ) (t : Task) (b : Bool) (ts : List Task) → sum_by f (cond b ts (ts ++ t ∷ [])) ≡ sum_by f ts + f t * bit (not b)
queued_unless f t true ts = queued_if f t false ts
queued_unless f t false ts = queued_if f t true ts

pub ruleset counting = (arith, at_most_one, sum_by_push, sum_by-cons, queued_if, queued_unless)

-- what a removal leaves of the tasks
kept_tasks : (f : Task → ℕ) (ts : List Task) → sum_by f (filter is_dequeue ts) ≡ f Task.Dequeue * count_by is_dequeue ts
kept_tasks f [] = omega arith
kept_tasks f (Task.Dequeue ∷ ts) = omega (counting, kept_tasks f ts, sum_by-cons f Task.Dequeue (filter is_dequeue ts), ap (λ n. f Task.Dequeue * n) (sum_by-cons (λ t. bit (is_dequeue t)) Task.Dequeue ts))
kept_tasks f (t ∷ ts) = omega (counting, kept_tasks f ts)

-- a Desaturate is queued once, where the codec is saturated
freed : (saturated : Bool) (n : ℕ) → n ≤ bit saturated → n + bit (saturated && eqb n 0) ≡ bit saturated
freed true n h = omega (arith, h, same_or_apart n 0)
freed false n h = omega (arith, h)

-- nothing is at work
idle_of : (o : Option Running) → 1 ≤ bit (is_none o) → o ≡ None
idle_of None h = refl
idle_of (Some r) h = absurd (omega (arith, h))

-- queued items have rising numbers, and the item at work is before them
record Numbers (epoch next : ℕ) (is : List Item) (running : Option Running) : Type 0 where
  first : ℕ
  queued : IsNumbered first is next
  before : IfSome running (IsBefore epoch first)

-- one more item has the next number
more_queued : (first next : ℕ) (is : List Item) (i : Item) → IsNumbered first is next → i.number ≡ next → IsNumbered first (is ++ i ∷ []) (next + 1)
more_queued first next [] i h e = (e ∙ sym h, ap (λ n. n + 1) h)
more_queued first next (j ∷ is) i h e = (h.0, more_queued (first + 1) next is i h.1 e)

more_numbers : (epoch next at : ℕ) (w : Work) (is : List Item) (running : Option Running) → Numbers epoch next is running → Numbers epoch (next + 1) (is ++ record { number = next; place = at; work = w } ∷ []) running
more_numbers epoch next at w is running h = record { first = h.first; queued = more_queued h.first next is _ h.queued refl; before = h.before }

-- the front message can be processed
abbrev ready : List Message → Bool → Bool → Bool
ready [] blocked saturated = false
ready (m ∷ ms) blocked saturated = not blocked && not (saturated && is_coded m.work)

module _ (p : ℕ) where
  -- what is counted of a codec, and how it hangs together, for one promise; `waits` is 1 where the front message waits to be
  -- processed
  record Tallies (waits : ℕ) (c : Control) : Type 0 where
    positive : 1 ≤ c.opening.saturation
    sizes : c.size ≡ count_by (λ m. is_coded m.work) c.messages
    dequeues : count_by is_dequeue c.tasks ≡ bit c.scheduled
    closes : count_by is_close c.tasks ≡ bit c.halted
    idle : bit c.halted ≤ bit (is_none c.running)
    blocks : bit c.blocked ≤ configures_out c + count_by is_unblock c.tasks + bit c.halted
    saturates : bit c.saturated ≤ coded_out c + count_by is_desaturate c.tasks + bit c.halted
    desaturates : count_by is_desaturate c.tasks ≤ bit c.saturated
    most : coded_out c + 1 + count_by is_desaturate c.tasks ≤ c.opening.saturation + bit c.saturated
    owes : 1 ≤ count_by (λ q. eqb q p) c.pending → bit c.halted ≡ 0 → flush_parts p c ≡ 1
    fresh : c.place ≤ p → flush_parts p c ≡ 0
    named : c.place ≤ p → count_by (λ q. eqb q p) c.pending ≡ 0
    soon : waits ≤ count_by is_process c.tasks + bit c.halted

  abbrev Sound : ℕ → Control → Type 0
  Sound waits c = Tallies waits c × Numbers c.epoch c.next_item c.work c.running

  abbrev IsSound : Control → Type 0
  IsSound c = Sound (bit (ready c.messages c.blocked c.saturated)) c

  opening_sound : (o : Opening) → 1 ≤ o.saturation → IsSound (opening_state o).control
  opening_sound o h = (omega counting, record { first = 0; queued = refl; before = tt })

  front_flush : (at : ℕ) (w : Work) (ms : List Message) → count_by (λ m. flushes p m.place m.work) (record { place = at; work = w } ∷ ms) ≡ bit (flushes p at w) + count_by (λ m. flushes p m.place m.work) ms
  front_flush at w ms = sum_by-cons (λ m. bit (flushes p m.place m.work)) (record { place = at; work = w }) ms

  -- a message is processed
  taken_sound : (at : ℕ) (w : Work) (ms : List Message) (c : Control) → bit (c.saturated && is_coded w) ≡ 0 → Sound 0 (record c { messages = record { place = at; work = w } ∷ ms }) → Sound 0 (record (after_message (record { place = at; work = w }) c) { messages = ms })
  taken_sound at (Work.Coded x) ms c free h = (omega (counting, h.0, front_flush at (Work.Coded x) ms, unsaturated c.saturated free, same_or_apart (coded_out c + 1) c.opening.saturation, either true c.scheduled), more_numbers _ _ at _ _ _ h.1)
    where
      unsaturated : (b : Bool) → bit (b && true) ≡ 0 → bit b ≡ 0
      unsaturated true e = e
      unsaturated false e = e
  taken_sound at w ms c free h = (omega (counting, h.0, front_flush at w ms), more_numbers _ _ at _ _ _ h.1)

  -- after processing no message can be processed
  process_sound : (ms : List Message) (c : Control) → c.messages ≡ ms → Sound 0 (record c { messages = ms }) → IsSound (process_queue ms c)
  process_sound [] c e h = rw e h
  process_sound (m ∷ ms) c e h = by (is_taken m c) refl (λ free. process_sound ms (record (after_message m c) { messages = ms }) refl (taken_sound m.place m.work ms c free h))
    where
      by : (b : Bool) → is_taken m c ≡ b → (bit (c.saturated && is_coded m.work) ≡ 0 → IsSound (process_queue ms (record (after_message m c) { messages = ms }))) → IsSound (cond b (process_queue ms (record (after_message m c) { messages = ms })) c)
      by true t rest = rest (ap bit (not-true _ (and_parts (not c.blocked) _ t).1))
      by false t rest = rw (e, t) h

  -- the front item begins
  start_sound : (waits number at : ℕ) (w : Work) (is : List Item) (c : Control) → c.halted ≡ false → Sound waits (record c { work = record { number = number; place = at; work = w } ∷ is; running = None }) → Sound waits (start_first (record { number = number; place = at; work = w } ∷ is) (at_next_place c))
  start_sound waits number at w is c fine h = (by w h.0, record { first = h.1.first + 1; queued = h.1.queued.1; before = record { epochs = omega arith; numbers = λ _. omega (arith, h.1.queued.0) } })
    where
      by : (w : Work) → Tallies waits (record c { work = record { number = number; place = at; work = w } ∷ is; running = None }) → Tallies waits (start_first (record { number = number; place = at; work = w } ∷ is) (at_next_place c))
      by (Work.Coded x) k = omega (counting, ap bit fine, same_epoch c.epoch (eqb at p))
      by w k = omega (counting, ap bit fine, same_epoch c.epoch (eqb at p))

  -- an item of another epoch counts for nothing
  other_item : (epoch number at : ℕ) (k : WorkKind) (e : ℕ) → eqb epoch e ≡ false → (configures_now e (Some (record { epoch = epoch; number = number; place = at; kind = k })) ≡ 0) × (coded_running e (Some (record { epoch = epoch; number = number; place = at; kind = k })) ≡ 0) × (flushes_now p e (Some (record { epoch = epoch; number = number; place = at; kind = k })) ≡ 0)
  other_item epoch number at WorkKind.Configure e h = (ap bit h, refl, refl)
  other_item epoch number at k e h = omega (arith, ap bit h, ap (λ (x : Bool). bit (x && eqb at p)) h)

  -- the item at work ends
  settled_tallies : (waits epoch number at : ℕ) (e : Ended) (k : WorkKind) (progress : Option ℕ) (c : Control) → eqb epoch c.epoch ≡ true → Tallies waits (record c { running = Some (record { epoch = epoch; number = number; place = at; kind = k }) }) → Tallies waits (after_end (record { epoch = epoch; number = number; place = at; kind = k }) e (record (at_next_place c) { running = None; progress = progress }))
  settled_tallies waits epoch number at (Ended.Ran units) WorkKind.Coded progress c same h = omega (counting, ap bit same, freed c.saturated (count_by is_desaturate c.tasks) h.desaturates)
  settled_tallies waits epoch number at (Ended.Ran units) WorkKind.Flush progress c same h = omega (counting, ap (λ (x : Bool). bit (x && eqb at p)) same)
  settled_tallies waits epoch number at e k progress c same h = omega counting

  done_sound : (r : Running) (e : Ended) (moment : ℕ) (c : Control) → IsSound (record c { running = Some r }) → IsSound (done_running r e moment (at_next_place c))
  done_sound r e moment c h = by (eqb r.epoch c.epoch) refl
    where
      by : (b : Bool) → eqb r.epoch c.epoch ≡ b → IsSound (cond b (after_end r e (record (at_next_place c) { running = None; progress = Some (max moment (unwrap_or c.progress moment)) })) (record (at_next_place c) { running = None }))
      by true same = (settled_tallies _ r.epoch r.number r.place e r.kind _ c same h.0, record { first = h.1.first; queued = h.1.queued; before = tt })
      by false other = (omega (counting, h.0, other_item r.epoch r.number r.place r.kind c.epoch other), record { first = h.1.first; queued = h.1.queued; before = tt })

  -- a removal leaves dequeue events, and an item that is of an older epoch then
  old_item : (e first : ℕ) (o : Option Running) → IfSome o (IsBefore e first) → (configures_now (e + 1) o ≡ 0) × (coded_running (e + 1) o ≡ 0) × (flushes_now p (e + 1) o ≡ 0) × IfSome o (IsBefore (e + 1) 0)
  old_item e first None h = (refl, refl, refl, tt)
  old_item e first (Some r) h =
      let none = other_item r.epoch r.number r.place r.kind (e + 1) (ne_eqb r.epoch (e + 1) (λ same. omega (arith, same, h.epochs))) in
      (none.0, none.1, none.2, record { epochs = omega (arith, h.epochs); numbers = λ same. absurd (omega (arith, h.epochs, same)) })

  reset_sound : (phase : CodecState) (c : Control) → 1 ≤ c.opening.saturation → count_by is_dequeue c.tasks ≡ bit c.scheduled → Numbers c.epoch c.next_item c.work c.running → Sound 0 (record (after_reset c) { phase = phase })
  reset_sound phase c positive dequeues numbers =
      let old = old_item c.epoch numbers.first c.running numbers.before in
      (omega (counting, kept_tasks, old, either (not (eqb c.size 0)) c.scheduled), record { first = 0; queued = refl; before = old.3 })

  -- a promise that is resolved is pending no more
  none_left : (ps : List ℕ) → count_by (λ q. eqb q p) (filter (λ q. not (eqb q p)) ps) ≡ 0
  none_left [] = refl
  none_left (x ∷ ps) = by (eqb x p) refl (none_left ps)
    where
      by : (b : Bool) → eqb x p ≡ b → count_by (λ q. eqb q p) (filter (λ q. not (eqb q p)) ps) ≡ 0 → count_by (λ q. eqb q p) (cond (not b) (x ∷ filter (λ q. not (eqb q p)) ps) (filter (λ q. not (eqb q p)) ps)) ≡ 0
      by true e rest = rest
      by false e rest = omega (counting, ap bit e, rest)

  resolved : (at : ℕ) (ps : List ℕ) → (bit (eqb at p) ≡ 0) ⊎ (count_by (λ q. eqb q p) (filter (λ q. not (eqb q at)) ps) ≡ 0)
  resolved at ps = elim (same_or_apart at p) [ inl same ↦ inr (rw (same.1) (none_left ps)) | inr apart ↦ inl apart.0 ]

  -- a task runs
  task_sound : (t : Task) (ts : List Task) (c : Control) → IsSound (record c { tasks = t ∷ ts }) → IsSound (run_task t (record (at_next_place c) { tasks = ts }))
  task_sound Task.Process ts c h = process_sound c.messages _ refl (omega (counting, h.0), h.1)
  task_sound Task.Desaturate ts c h = process_sound c.messages _ refl (omega (counting, h.0), h.1)
  task_sound (Task.Flushed at units) ts c h = (omega (counting, h.0, resolved at c.pending, sum_by-filter_both (λ q. not (eqb q at)) (λ q. not (not (eqb q at))) (λ _. refl) (λ q. bit (eqb q p)) c.pending), h.1)
  task_sound (Task.Close x) ts c h = reset_sound Closed (record (at_next_place c) { tasks = ts }) h.0.positive (omega (counting, h.0.dequeues)) h.1
  task_sound t ts c h = (omega (counting, h.0), h.1)

  -- calls
  entered_sound : (c : Control) → IsSound c → IsSound (at_next_place c)
  entered_sound c h = (omega (counting, h.0), h.1)

  abbrev queued : Work → Control → List Message
  queued w c = c.messages ++ record { place = c.place; work = w } ∷ []

  sent_sound : (x : Call) (w : Work) (c : Control) → message_of x ≡ Some w → IsSound c → IsSound (accepted x c)
  sent_sound (Call.Configure config) w c m h = process_sound (queued (Work.Configure config) c) _ refl (omega (counting, h.0), h.1)
  sent_sound (Call.Decode chunk) w c m h = process_sound (queued (Work.Coded (Coded.Chunk chunk)) c) _ refl (omega (counting, h.0), h.1)
  sent_sound (Call.Encode (Handed.Cloned medium)) w c m h = process_sound (queued (Work.Coded (Coded.Medium medium)) c) _ refl (omega (counting, h.0), h.1)
  sent_sound Call.Flush w c m h = process_sound (queued Work.Flush c) _ refl (elim (same_or_apart c.place p) [ inl here ↦ omega (counting, h.0, here) | inr apart ↦ omega (counting, h.0, apart) ], h.1)
  sent_sound x w c m h = absurd cc

  removed_sound : (phase : CodecState) (c : Control) → IsSound c → Sound 0 (record (after_reset (at_next_place c)) { phase = phase })
  removed_sound phase c h = reset_sound phase (at_next_place c) h.0.positive h.0.dequeues h.1

  each_sound : EachStep (λ e s t. IsSound s.control → IsSound t.control)
  each_sound = record {
    refused = λ who x error s may e h. entered_sound s.control h;
    sent = λ who x w s m may e h. sent_sound x w s.control m h;
    removes_all = λ who x s is e h. by_removals (λ y. IsSound (accepted y s.control)) (removed_sound Unconfigured s.control h) (removed_sound Closed s.control h) x is;
    takes = λ who unit s may h. (omega (counting, h.0), h.1);
    grounds = λ who to s h. (omega (counting, h.0), h.1);
    start = λ i is epoch item s first may h.
        let free = and_parts (is_none s.control.running) (not s.control.halted) (begins_free epoch item i s.control may) in
        let waiting = subst (λ (ws : List Item). IsSound (record s.control { work = ws })) first h in
        start_sound _ i.number i.place i.work is s.control (not-true _ free.1) (subst (λ (o : Option Running). IsSound (record s.control { work = i ∷ is; running = o })) (idle_of s.control.running (omega (arith, ap bit free.0))) waiting);
    done = λ r e epoch item moment x s running own is h. done_sound r e moment s.control (subst (λ (o : Option Running). IsSound (record s.control { running = o })) running h);
    turn = λ x ts s first h. task_sound x ts s.control (subst (λ (xs : List Task). IsSound (record s.control { tasks = xs })) first h);
    reclaim = λ moment s may h. removed_sound Closed s.control h;
  }

  replay_sound : (es : List Entry) (s t : State) → replay_from es s ≡ Some t → IsSound s.control → IsSound t.control
  replay_sound [] s t h sound = subst (λ (x : State). IsSound x.control) (some_same s t h) sound
  replay_sound (e ∷ es) s t h sound = by (step e s) h (λ u k. by_steps (λ e s t. IsSound s.control → IsSound t.control) each_sound e s u k sound) (λ u k v. replay_sound es u t k v)
    where
      by : (o : Option State) → option_and_then (replay_from es) o ≡ Some t → ((u : State) → o ≡ Some u → IsSound u.control) → ((u : State) → replay_from es u ≡ Some t → IsSound u.control → IsSound t.control) → IsSound t.control
      by None h one rest = absurd cc
      by (Some u) h one rest = rest u h (one u refl)

  always : (o : Opening) (h : List Entry) (s : State) → 1 ≤ o.saturation → replay o h ≡ Some s → IsSound s.control
  always o h s some legal = replay_sound h (opening_state o) s legal (opening_sound o some)

takes_is : (ms : List Message) (c : Control) → takes_front ms c ≡ ready ms c.blocked c.saturated
takes_is [] c = refl
takes_is (m ∷ ms) c = refl

-- each fact
pub all_facts : Always IsNeverStuck
all_facts o h s some legal =
    let k = always 0 o h s some legal in
    record {
      counts = record { size = k.0.sizes; scheduled = k.0.dequeues };
      halts = record { closes = k.0.closes; idle = λ halted. idle_of s.control.running (omega (arith, k.0.idle, ap bit halted)) };
      numbers = record { first = k.1.first; queued = k.1.queued; running = k.1.before };
      blocks = λ b. omega (arith, k.0.blocks, ap bit b);
      saturates = record { saturated = λ b. omega (arith, k.0.saturates, ap bit b); desaturates = k.0.desaturates };
      saturation = record {
        most = omega (counting, k.0.most);
        open_for_more = λ unfilled. omega (arith, k.0.most, ap bit unfilled);
        to_be_open = λ queued. omega (counting, k.0.most, queued);
      };
      processes = λ takes. omega (arith, k.0.soon, ap bit (sym (takes_is s.control.messages s.control) ∙ takes));
      promises = λ p due fine. (always p o h s some legal).0.owes due (ap bit fine);
      names = record {
        pending = λ p new. (always p o h s some legal).0.named new;
        resolving = λ p new. omega (arith, (always p o h s some legal).0.fresh new);
      };
    }

-- where nothing is left to do, nothing is owed
no_message : (ms : List Message) (blocked saturated : Bool) → bit blocked ≡ 0 → bit saturated ≡ 0 → bit (ready ms blocked saturated) ≡ 0 → ms ≡ []
no_message [] blocked saturated b s none = refl
no_message (m ∷ ms) false false b s none = absurd (omega (arith, none))
no_message (m ∷ ms) true saturated b s none = absurd (omega (arith, b))
no_message (m ∷ ms) false true b s none = absurd (omega (arith, s))

no_promise : (ps : List ℕ) → ((p : ℕ) → 1 ≤ count_by (λ q. eqb q p) ps → ⊥) → ps ≡ []
no_promise [] none = refl
no_promise (p ∷ ps) none = absurd (none p (omega (counting, same_epoch p true)))

pub quiet : Always EndsQuiet
quiet o h s some legal q =
    let c = s.control in
    let at : (p : ℕ) → IsSound p (record c { work = []; running = None; tasks = [] }) = λ p. subst (λ (ts : List Task). IsSound p (record c { work = []; running = None; tasks = ts })) q.no_tasks (subst (λ (o : Option Running). IsSound p (record c { work = []; running = o })) q.idle (subst (λ (is : List Item). IsSound p (record c { work = is })) q.no_work (always p o h s some legal))) in
    let k = (at 0).0 in
    let gone : c.messages ≡ [] = no_message c.messages c.blocked c.saturated (omega (arith, k)) (omega (arith, k)) (omega (arith, k)) in
    let due : (p : ℕ) → count_by (λ m. flushes p m.place m.work) c.messages ≡ 0 = λ p. ap (λ (ms : List Message). count_by (λ m. flushes p m.place m.work) ms) gone in
    record {
      no_messages = gone;
      no_size = k.sizes ∙ ap (λ (ms : List Message). count_by (λ m. is_coded m.work) ms) gone;
      no_promises = no_promise c.pending (λ p some. omega (arith, (at p).0.owes some (omega (arith, k)), due p));
    }
