-- A start, an end of an item and a turn leave fewer steps.
use Rattle.std.proofs.Common.{ℕ, zero, suc, ◌≡◌, ◌+◌, ◌≤◌, ◌&&◌, not, Bool, true, false, eqb, cond, List, ◌∷◌, length, length-append, count_by, Option, Some, None, refl, sym, ap, subst, arith}
use Rattle.std.specs.Prelude.{max, unwrap_or}
use Rattle.std.proofs.lemmas.List.Sums.{count_by-le-length}
use Rattle.std.proofs.lemmas.List.Filters.{sum_by-filter_both}
use Rattle.codec_model.specs.declared.entry.{Work.Work, WorkKind.WorkKind, Message.Message, Item.Item, Running.Running, Task.Task, Ended.Ended}
use Rattle.codec_model.specs.Control.{Control, is_coded, is_dequeue, after_message, process_queue, at_next_place, run_task, done_running, after_end, after_close, task_weight, left}
use Rattle.codec_model.specs.Facts.{bit, is_step, CountsMessages, LeavesFewer}
use Rattle.codec_model.specs.StepLaws.{EachStep, by_work, by_queue, by_steps}
use Rattle.codec_model.proofs.FactLaws.{counting, at_most_one, all_facts}

-- messages are processed
taken_left : (at : ℕ) (w : Work) (ms : List Message) (c : Control) → left (record (after_message (record { place = at; work = w }) c) { messages = ms }) ≤ left (record c { messages = record { place = at; work = w } ∷ ms })
taken_left at w ms c =
    by_work (λ x. left (record (after_message (record { place = at; work = x }) c) { messages = ms }) ≤ left (record c { messages = record { place = at; work = x } ∷ ms }))
    (λ config. omega (counting, length-append {A = Item})) (λ input. omega (counting, length-append {A = Item})) (omega (counting, length-append {A = Item})) w

process_left : (c : Control) → left (process_queue c.messages c) ≤ left c
process_left c = by_queue (λ (d : Control). left d ≤ left c) (λ m ms d e h. omega (arith, taken_left m.place m.work ms d, ap length e, h)) c.messages c refl (omega arith)

-- a removal queues an event only where a message was queued
event_if : (size : ℕ) (b : Bool) → bit (not (eqb size 0) && b) ≤ size
event_if zero b = omega arith
event_if (suc n) b = omega (arith, at_most_one (not (eqb (suc n) 0) && b))

close_left : (c : Control) → c.size ≡ count_by (λ m. is_coded m.work) c.messages → left (after_close c) ≤ left c
close_left c h = omega (counting, h, event_if c.size (not c.scheduled), count_by-le-length (λ m. is_coded m.work) c.messages, sum_by-filter_both is_dequeue (λ t. not (is_dequeue t)) (λ _. refl) task_weight c.tasks)

task_left : (t : Task) (ts : List Task) (c : Control) → c.size ≡ count_by (λ m. is_coded m.work) c.messages → left (run_task t (record (at_next_place c) { tasks = ts })) + 1 ≤ left (record c { tasks = t ∷ ts })
task_left Task.Process ts c h = omega (counting, process_left (record (at_next_place c) { tasks = ts }))
task_left Task.Desaturate ts c h = omega (counting, process_left (record (at_next_place c) { tasks = ts; saturated = false }))
task_left (Task.Close x) ts c h = omega (counting, close_left (record (at_next_place c) { tasks = ts }) h)
task_left t ts c h = omega counting

-- the item at work ends
settled_left : (epoch number at : ℕ) (e : Ended) (k : WorkKind) (c : Control) → left (after_end (record { epoch = epoch; number = number; place = at; kind = k }) e c) ≤ left c + 2
settled_left epoch number at (Ended.Ran units) WorkKind.Coded c = omega counting
settled_left epoch number at e k c = omega counting

done_left : (r : Running) (e : Ended) (moment : ℕ) (c : Control) → left (done_running r e moment (at_next_place c)) + 1 ≤ left (record c { running = Some r })
done_left r e moment c = by (eqb r.epoch c.epoch)
  where
    by : (b : Bool) → left (cond b (after_end r e (record (at_next_place c) { running = None; progress = Some (max moment (unwrap_or c.progress moment)) })) (record (at_next_place c) { running = None })) + 1 ≤ left (record c { running = Some r })
    by true = omega (arith, settled_left r.epoch r.number r.place e r.kind (record (at_next_place c) { running = None; progress = Some (max moment (unwrap_or c.progress moment)) }))
    by false = omega arith

each_left : EachStep (λ e s t. is_step e ≡ true → CountsMessages s.control → left t.control + 1 ≤ left s.control)
each_left = record {
  refused = λ who x error s may e is h. absurd cc;
  sent = λ who x w s m may e is h. absurd cc;
  removes_all = λ who x s removes e is h. absurd cc;
  takes = λ who unit s may is h. absurd cc;
  grounds = λ who to s is h. absurd cc;
  start = λ i is epoch item s first may _ h. rw first (omega arith);
  done = λ r e epoch item moment x s running own is _ h. subst (λ (o : Option Running). left (done_running r e moment (at_next_place s.control)) + 1 ≤ left (record s.control { running = o })) (sym running) (done_left r e moment s.control);
  turn = λ x ts s first _ h. subst (λ (xs : List Task). left (run_task x (record (at_next_place s.control) { tasks = ts })) + 1 ≤ left (record s.control { tasks = xs })) (sym first) (task_left x ts s.control h.size);
  reclaim = λ moment s may is h. absurd cc;
}

pub leaves_fewer : LeavesFewer
leaves_fewer o h s e t some legal is steps = by_steps _ each_left e s t steps is (all_facts o h s some legal).counts
