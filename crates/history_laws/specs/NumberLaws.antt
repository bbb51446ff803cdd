-- No number of a codec's state is above the number of its entries.
use Rattle.std.proofs.Common.{ℕ, ◌≡◌, ◌+◌, ◌≤◌, Bool, true, false, eqb, cond, List, [], ◌∷◌, ◌++◌, length, length-append, Some, None, refl, ap, sym, subst, ◌∙◌, arith}
use Rattle.std.specs.Prelude.{max, unwrap_or}
use Rattle.wc_base.specs.declared.ground.Ground.{Ground}
use Rattle.wc_base.specs.Options.{some_same}
use Rattle.codec_model.specs.declared.entry.Opening.{Opening}
use Rattle.codec_model.specs.declared.entry.Call.{Call}
use Rattle.codec_model.specs.declared.entry.Entry.{Entry}
use Rattle.codec_model.specs.declared.entry.Work.{Work}
use Rattle.codec_model.specs.declared.entry.Message.{Message}
use Rattle.codec_model.specs.declared.entry.Item.{Item}
use Rattle.codec_model.specs.declared.entry.Running.{Running}
use Rattle.codec_model.specs.declared.entry.Task.{Task}
use Rattle.codec_model.specs.declared.entry.Task.TheVariants as task
use Rattle.codec_model.specs.declared.entry.Ended.{Ended}
use Rattle.codec_model.specs.Control.{Control, process_queue, at_next_place, run_task, done_running, after_end, start_first, after_reset, after_close, after_take, after_ground}
use Rattle.codec_model.specs.Replay.{State, opening_state, step, accepted, removes}
use Rattle.history_laws.specs.Numbers.{AreItemsUpTo, IsUpTo}
use Rattle.history_laws.specs.OutputLaws.{all_append}
use Rattle.codec_model.specs.StepLaws.{EachStep, by_items, by_removals, by_steps, Sends, asked, call_sends}

items_up : (n : ℕ) (is : List Item) → AreItemsUpTo n is → AreItemsUpTo (n + 1) is
items_up n [] h = tt
items_up n (i ∷ is) h = (omega (arith, h.0), items_up n is h.1)

up : (n : ℕ) (c : Control) → IsUpTo n c → IsUpTo (n + 1) c
up n c h = record {
  place = omega (arith, h.place);
  epoch = omega (arith, h.epoch);
  size = omega (arith, h.size);
  taken = omega (arith, h.taken);
  next = omega (arith, h.next);
  queued = items_up n c.work h.queued;
  running = λ r is. (omega (arith, (h.running r is).0), omega (arith, (h.running r is).1));
}

-- an entry takes its place
entered : (n : ℕ) (c : Control) → IsUpTo n c → IsUpTo (n + 1) (at_next_place c)
entered n c h = let more = up n c h in record {
  place = omega (arith, h.place);
  epoch = more.epoch;
  size = more.size;
  taken = more.taken;
  next = more.next;
  queued = more.queued;
  running = more.running;
}

longer : {X : Type 0} (xs : List X) (x : X) → length (xs ++ x ∷ []) ≡ length xs + 1
longer xs x = length-append xs (x ∷ [])

-- ---- messages

item_up : (n : ℕ) (at : ℕ) (w : Work) (ms : List Message) (c : Control) → c.messages ≡ record { place = at; work = w } ∷ ms → IsUpTo n c → AreItemsUpTo n (c.work ++ record { number = c.next_item; place = at; work = w } ∷ [])
item_up n at w ms c e h = all_append (λ (i : Item). i.number ≤ n) c.work (record { number = c.next_item; place = at; work = w } ∷ []) h.queued (omega (arith, h.next, ap length e), tt)

processed_up : (n : ℕ) (c : Control) → IsUpTo n c → IsUpTo n (process_queue c.messages c)
processed_up n c h = by_items (IsUpTo n) (λ m ms d blocked saturated scheduled event size few e k. record {
  place = k.place;
  epoch = k.epoch;
  size = omega (arith, k.size, few);
  taken = k.taken;
  next = omega (arith, k.next, ap length e);
  queued = item_up n m.place m.work ms d e k;
  running = k.running;
}) c.messages c refl h

-- ---- calls

sent_up : (n : ℕ) (w : Work) (c d : Control) → Sends w c d → IsUpTo n c → IsUpTo (n + 1) d
sent_up n w c d k h =
    let before = asked c k.phase k.key_required k.size k.pending in
    let m : Message = record { place = c.place; work = w } in
    rw k.is (processed_up (n + 1) (record before { messages = before.messages ++ m ∷ [] }) (record {
      place = omega (arith, h.place);
      epoch = omega (arith, h.epoch);
      size = omega (arith, h.size, k.few);
      taken = omega (arith, h.taken);
      next = omega (arith, h.next, longer c.messages m);
      queued = items_up n c.work h.queued;
      running = (up n c h).running;
    }))

-- ---- removals

reset_up : (n : ℕ) (c : Control) → IsUpTo n c → IsUpTo (n + 1) (after_reset (at_next_place c))
reset_up n c h = record {
  place = omega (arith, h.place);
  epoch = omega (arith, h.epoch);
  size = omega arith;
  taken = omega (arith, h.taken);
  next = omega arith;
  queued = tt;
  running = (up n c h).running;
}

closed_up : (n : ℕ) (c : Control) → IsUpTo n c → IsUpTo (n + 1) (after_close (at_next_place c))
closed_up n c h = let r = reset_up n c h in record { place = r.place; epoch = r.epoch; size = r.size; taken = r.taken; next = r.next; queued = r.queued; running = r.running }

removal_up : (n : ℕ) (x : Call) (c : Control) → removes x ≡ true → IsUpTo n c → IsUpTo (n + 1) (accepted x c)
removal_up n x c is h = by_removals (λ y. IsUpTo (n + 1) (accepted y c)) (reset_up n c h) (closed_up n c h) x is

-- ---- starts and ends

begun_up : (n : ℕ) (i : Item) (is : List Item) (c : Control) → c.work ≡ i ∷ is → IsUpTo n c → IsUpTo (n + 1) (start_first (i ∷ is) (at_next_place c))
begun_up n i is c first h =
    let items : AreItemsUpTo n (i ∷ is) = subst (AreItemsUpTo n) first h.queued in
    let more = entered n c h in record {
      place = more.place;
      epoch = more.epoch;
      size = more.size;
      taken = more.taken;
      next = more.next;
      queued = items_up n is items.1;
      running = λ r now. let same = some_same _ r now in (subst (λ (x : Running). x.epoch ≤ n + 1) same (omega (arith, h.epoch)), subst (λ (x : Running). x.number ≤ n + 1) same (omega (arith, items.0)));
    }

-- the same in all that counts
same_up : (n : ℕ) (c d : Control) → d.place ≡ c.place → d.epoch ≡ c.epoch → d.size ≡ c.size → d.taken ≤ n → d.next_item ≡ c.next_item → d.messages ≡ c.messages → d.work ≡ c.work → d.running ≡ c.running → IsUpTo n c → IsUpTo n d
same_up n c d place epoch size taken next messages items busy h = record {
  place = omega (arith, h.place, place);
  epoch = omega (arith, h.epoch, epoch);
  size = omega (arith, h.size, size);
  taken = taken;
  next = omega (arith, h.next, next, ap length messages);
  queued = rw items (h.queued);
  running = λ r is. h.running r (sym busy ∙ is);
}

-- the same with nothing at work
idle_up : (n : ℕ) (c : Control) → IsUpTo n c → IsUpTo n (record c { running = None })
idle_up n c h = record { place = h.place; epoch = h.epoch; size = h.size; taken = h.taken; next = h.next; queued = h.queued; running = λ r is. absurd cc }

done_up : (n : ℕ) (r : Running) (e : Ended) (moment : ℕ) (c : Control) → IsUpTo n c → IsUpTo (n + 1) (done_running r e moment (at_next_place c))
done_up n r e moment c h = by (eqb r.epoch c.epoch)
  where
    by : (b : Bool) → IsUpTo (n + 1) (cond b (after_end r e (record (at_next_place c) { running = None; progress = Some (max moment (unwrap_or c.progress moment)) })) (record (at_next_place c) { running = None }))
    by true = same_up (n + 1) (record (at_next_place c) { running = None }) _ refl refl refl (entered n c h).taken refl refl refl refl (idle_up (n + 1) (at_next_place c) (entered n c h))
    by false = idle_up (n + 1) (at_next_place c) (entered n c h)

-- ---- turns

run_up : (n : ℕ) (t : Task) (ts : List Task) (c : Control) → IsUpTo n c → IsUpTo (n + 1) (run_task t (record (at_next_place c) { tasks = ts }))
run_up n task.Process ts c h = processed_up (n + 1) _ (same_up (n + 1) (at_next_place c) _ refl refl refl (entered n c h).taken refl refl refl refl (entered n c h))
run_up n task.Desaturate ts c h = processed_up (n + 1) _ (same_up (n + 1) (at_next_place c) _ refl refl refl (entered n c h).taken refl refl refl refl (entered n c h))
run_up n (task.Close x) ts c h = let r = closed_up n c h in record { place = r.place; epoch = r.epoch; size = r.size; taken = r.taken; next = r.next; queued = r.queued; running = r.running }
run_up n t ts c h = same_up (n + 1) (at_next_place c) _ refl refl refl (entered n c h).taken refl refl refl refl (entered n c h)

-- ---- entries

taken_by : (n : ℕ) (c : Control) → IsUpTo n c → IsUpTo (n + 1) (after_take (at_next_place c))
taken_by n c h = same_up (n + 1) (at_next_place c) (after_take (at_next_place c)) refl refl refl (omega (arith, h.taken)) refl refl refl refl (entered n c h)

grounded : (n : ℕ) (to : Ground) (c : Control) → IsUpTo n c → IsUpTo (n + 1) (after_ground to (at_next_place c))
grounded n to c h = let k = entered n c h in same_up (n + 1) (at_next_place c) (after_ground to (at_next_place c)) refl refl refl k.taken refl refl refl refl k

each_up : (n : ℕ) → EachStep (λ e s t. IsUpTo n s.control → IsUpTo (n + 1) t.control)
each_up n = record {
  refused = λ who x error s may e h. entered n s.control h;
  sent = λ who x w s m may e h. sent_up n w s.control _ (call_sends x w s.control m) h;
  removes_all = λ who x s is e h. removal_up n x s.control is h;
  takes = λ who unit s may h. taken_by n s.control h;
  grounds = λ who to s h. grounded n to s.control h;
  start = λ i is epoch item s first may h. begun_up n i is s.control first h;
  done = λ r e epoch item moment x s running own is h. done_up n r e moment s.control h;
  turn = λ x ts s first h. run_up n x ts s.control h;
  reclaim = λ moment s may h. closed_up n s.control h;
}

pub step_up : (n : ℕ) (e : Entry) (s t : State) → step e s ≡ Some t → IsUpTo n s.control → IsUpTo (n + 1) t.control
step_up n = by_steps (λ e s t. IsUpTo n s.control → IsUpTo (n + 1) t.control) (each_up n)

pub opening_up : (o : Opening) → IsUpTo 0 (opening_state o).control
opening_up o = record { place = omega arith; epoch = omega arith; size = omega arith; taken = omega arith; next = omega arith; queued = tt; running = λ r is. absurd cc }
