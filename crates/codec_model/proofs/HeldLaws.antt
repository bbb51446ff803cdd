-- What a codec holds after one more entry.
use Rattle.std.proofs.Common.{ℕ, ◌≡◌, ◌==◌, ◌&&◌, Bool, true, false, cond, not, List, [], ◌∷◌, ◌++◌, Option, Some, None, is_none, refl, ap, sym, ◌∙◌, append_assoc, append-nil}
use Rattle.wc_base.specs.{declared.who.Who.Who, declared.error.DomError.DomError, Options.cond_is, Options.some_same}
use Rattle.std.specs.Prelude.{unwrap_or}
use Rattle.codec_model.specs.declared.entry.{Pair.Pair, Handed.Handed, Call.Call, Work.Work}
use Rattle.codec_model.specs.declared.entry.{Message.Message, Item.Item, Running.Running, Task.Task, Ended.Ended, Entry.Entry}
use Rattle.codec_model.specs.Control.{Control, held_of, is_close, process_queue, with_message, at_next_place, run_task, after_end, done_running}
use Rattle.codec_model.specs.Replay.{State, step, with_control, removed, removes, start_step, call_error, message_of, accepted}
use Rattle.codec_model.specs.Held.{in_order, held_by, running_pairs, items_held, messages_held, waiting_held, held_in, closes_codec, is_removal, leaves_held, adds_held, HeldStays, behind_held, front_held, waiting_after, running_after, HeldApart, HeldMoves}
use Rattle.codec_model.specs.StepLaws.{begins, begins_free, EachStep, by_removals, by_items, by_steps, Sends, asked, call_sends, senders_stay, refused_stays}

items_more : (is : List Item) (i : Item) → items_held (is ++ i ∷ []) ≡ items_held is ++ in_order (held_of i.work)
items_more [] i = append-nil (in_order (held_of i.work))
items_more (x ∷ xs) i = ap (λ l. in_order (held_of x.work) ++ l) (items_more xs i) ∙ sym (append_assoc (in_order (held_of x.work)) (items_held xs) (in_order (held_of i.work)))

messages_more : (ms : List Message) (m : Message) → messages_held (ms ++ m ∷ []) ≡ messages_held ms ++ in_order (held_of m.work)
messages_more [] m = append-nil (in_order (held_of m.work))
messages_more (x ∷ xs) m = ap (λ l. in_order (held_of x.work) ++ l) (messages_more xs m) ∙ sym (append_assoc (in_order (held_of x.work)) (messages_held xs) (in_order (held_of m.work)))

-- what waits, and what runs, stay where messages are processed
process_held : (c : Control) → (waiting_held (process_queue c.messages c) ≡ waiting_held c) × ((process_queue c.messages c).running ≡ c.running)
process_held c = by_items (λ (d : Control). (waiting_held d ≡ waiting_held c) × (d.running ≡ c.running)) (λ m ms d blocked saturated scheduled event size few e h.
    let item : Item = record { number = d.next_item; place = m.place; work = m.work } in
    let taken = append_assoc (items_held d.work) (in_order (held_of m.work)) (messages_held ms) ∙ ap (λ l. items_held d.work ++ messages_held l) (sym e) in
    (ap (λ l. l ++ messages_held ms) (items_more d.work item) ∙ (taken ∙ h.0), h.1)) c.messages c refl (refl, refl)

-- a step leaves what runs, and adds this to what waits
abbrev Adds : List Pair → Control → Control → Type 0
Adds more c d = (waiting_held d ≡ waiting_held c ++ more) × (d.running ≡ c.running)

adds_nothing : (c : Control) → waiting_held c ≡ waiting_held c ++ []
adds_nothing c = sym (append-nil (waiting_held c))

-- a message that is queued
queued_held : (at : ℕ) (w : Work) (c : Control) → Adds (in_order (held_of w)) c (with_message at w c)
queued_held at w c =
    let m : Message = record { place = at; work = w } in
    let kept = process_held (record c { messages = c.messages ++ m ∷ [] }) in
    (kept.0 ∙ (ap (λ l. items_held c.work ++ l) (messages_more c.messages m) ∙ sym (append_assoc (items_held c.work) (messages_held c.messages) (in_order (held_of w)))), kept.1)

sent_held : (w : Work) (c d : Control) → Sends w c d → Adds (in_order (held_of w)) c d
sent_held w c d k = rw k.is (queued_held c.place w (asked c k.phase k.key_required k.size k.pending))

-- a call that is refused adds no reference
refused_adds : (who : Who) (x : Call) (error : DomError) (c : Control) → call_error x c ≡ Some error → adds_held (Entry.Call who x) ≡ []
refused_adds who (Call.Encode (Handed.Cloned medium)) error c e = absurd cc
refused_adds who x error c e = refl

-- a message holds what its call adds
message_adds : (who : Who) (x : Call) (w : Work) → message_of x ≡ Some w → in_order (held_of w) ≡ adds_held (Entry.Call who x)
message_adds who x w m = ap (λ (v : Work). in_order (held_of v)) (sym (some_same (unwrap_or (message_of x) w) w (is_there (message_of x) w m))) ∙ by x w m
  where
    is_there : (o : Option Work) (w : Work) → o ≡ Some w → Some (unwrap_or o w) ≡ Some w
    is_there None w h = absurd cc
    is_there (Some v) w h = h

    by : (x : Call) (w : Work) → message_of x ≡ Some w → in_order (held_of (unwrap_or (message_of x) w)) ≡ adds_held (Entry.Call who x)
    by (Call.Encode (Handed.Cloned medium)) w m = refl
    by (Call.Configure config) w m = refl
    by (Call.Decode chunk) w m = refl
    by Call.Flush w m = refl
    by x w m = absurd cc

-- with what waits, where nothing is removed
none_removed : (b : Bool) (more waiting : List Pair) → b ≡ false → more ≡ [] → waiting ≡ cond b [] waiting ++ more
none_removed true more waiting b none = absurd cc
none_removed false more waiting b none = rw none (sym (append-nil waiting))

sent_apart : (who : Who) (x : Call) (w : Work) (s : State) → message_of x ≡ Some w → HeldApart (Entry.Call who x) s (with_control (accepted x s.control) s)
sent_apart who x w s m =
    let k = sent_held w s.control (accepted x s.control) (call_sends x w s.control m) in
    record {
      waits = rw (senders_stay x w m, ← message_adds who x w m) k.0;
      runs = ap (λ (r : Option Running). held_by r s.running_held) k.1;
    }

removed_apart : (who : Who) (x : Call) (s : State) → removes x ≡ true → call_error x s.control ≡ None → HeldApart (Entry.Call who x) s (removed (accepted x s.control) s)
removed_apart who x s is e = by_removals (λ y. call_error y s.control ≡ None → HeldApart (Entry.Call who y) s (removed (accepted y s.control) s)) (λ h. record { waits = rw h refl; runs = refl }) (λ h. record { waits = rw h refl; runs = refl }) x is e

done_held : (r : Running) (e : Ended) (moment : ℕ) (held : Option Pair) (c : Control) → (waiting_held (done_running r e moment (at_next_place c)) ≡ waiting_held c) × (held_by (done_running r e moment (at_next_place c)).running held ≡ [])
done_held r e moment held c = by (r.epoch == c.epoch) _
  where
    by : (b : Bool) (p : Option ℕ) → (waiting_held (cond b (after_end r e (record (at_next_place c) { running = None; progress = p })) (record (at_next_place c) { running = None })) ≡ waiting_held c) × (held_by (cond b (after_end r e (record (at_next_place c) { running = None; progress = p })) (record (at_next_place c) { running = None })).running held ≡ [])
    by true p = (refl, refl)
    by false p = (refl, refl)

task_held : (x : Task) (ts : List Task) (c : Control) → (waiting_held (run_task x (record (at_next_place c) { tasks = ts })) ≡ cond (is_close x) [] (waiting_held c) ++ []) × ((run_task x (record (at_next_place c) { tasks = ts })).running ≡ c.running)
task_held Task.Process ts c = let k = process_held (record (at_next_place c) { tasks = ts }) in (k.0 ∙ adds_nothing c, k.1)
task_held Task.Desaturate ts c = let k = process_held (record (at_next_place c) { tasks = ts; saturated = false }) in (k.0 ∙ adds_nothing c, k.1)
task_held (Task.Close x) ts c = (refl, refl)
task_held x ts c = (adds_nothing c, refl)

each_apart : EachStep HeldApart
each_apart = record {
  refused = λ who x error s may e. record {
    waits = none_removed _ (adds_held (Entry.Call who x)) (waiting_held s.control) (refused_stays who x error s e) (refused_adds who x error s.control e);
    runs = refl;
  };
  sent = λ who x w s m may e. sent_apart who x w s m;
  removes_all = λ who x s is e. removed_apart who x s is e;
  takes = λ who unit s may. record { waits = adds_nothing s.control; runs = refl };
  grounds = λ who to s. record { waits = adds_nothing s.control; runs = refl };
  start = λ i is epoch item s first may. record {
    waits = ap (λ (l : List Item). behind_held l ++ messages_held s.control.messages) (sym first);
    runs = ap front_held (sym first);
  };
  done = λ r e epoch item moment x s running own is.
      let k = done_held r e moment s.running_held s.control in record { waits = k.0 ∙ adds_nothing s.control; runs = k.1 };
  turn = λ x ts s first.
      let k = task_held x ts s.control in
      record {
        waits = k.0 ∙ ap (λ (l : List Task). cond (closes_codec l) [] (waiting_held s.control) ++ []) (sym first);
        runs = ap (λ (r : Option Running). held_by r s.running_held) k.1;
      };
  reclaim = λ moment s may. record { waits = refl; runs = refl };
}

pub held_moves : HeldMoves
held_moves = by_steps HeldApart each_apart

-- ---- both together

no_running : (is : List Item) (epoch item : ℕ) (s t : State) → start_step is epoch item s ≡ Some t → running_pairs s ≡ []
no_running [] epoch item s t h = absurd cc
no_running (i ∷ is) epoch item s t h = idle s.control.running (begins_free epoch item i s.control (cond_is (begins epoch item i s.control) _ t h).0)
  where
    idle : (o : Option Running) → (is_none o && not s.control.halted) ≡ true → held_by o s.running_held ≡ []
    idle None may = refl
    idle (Some r) may = absurd cc

front_behind : (is : List Item) (ms : List Message) → front_held is ++ (behind_held is ++ messages_held ms) ≡ items_held is ++ messages_held ms
front_behind [] ms = refl
front_behind (i ∷ is) ms = sym (append_assoc (in_order (held_of i.work)) (items_held is) (messages_held ms))

kept_or : (b : Bool) (running waiting more : List Pair) → running ++ (cond b [] waiting ++ more) ≡ cond b running (running ++ waiting) ++ more
kept_or true running waiting more = refl
kept_or false running waiting more = sym (append_assoc running waiting more)

joined : (e : Entry) (s t : State) → step e s ≡ Some t → running_after e s ++ waiting_after e s ≡ leaves_held e s ++ adds_held e
joined (Entry.Start epoch item) s t h =
    front_behind s.control.work s.control.messages
    ∙ (ap (λ l. l ++ waiting_held s.control) (sym (no_running s.control.work epoch item s t h)) ∙ sym (append-nil (held_in s)))
joined (Entry.Done epoch item moment x) s t h = refl
joined e s t h = kept_or (is_removal e s) (running_pairs s) (waiting_held s.control) (adds_held e)

pub held_stays : HeldStays
held_stays e s t h =
    let apart = held_moves e s t h in
    ap (λ l. l ++ waiting_held t.control) apart.runs ∙ (ap (λ l. running_after e s ++ l) apart.waits ∙ joined e s t h)
