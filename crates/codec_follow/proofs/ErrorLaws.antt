-- Where each item is served, the codec closes only for want of memory.
use Rattle.std.proofs.Common.{ℕ, ◌≡◌, ◌+◌, List, [], ◌∷◌, ◌++◌, filter, map, Some, None, IfSome, refl, ◌∙◌, arith}
use Rattle.std.proofs.lemmas.List.Sums.{sum_by-cons, sum_by_push}
use Rattle.std.specs.Prelude.{option_map, unwrap_or, sum_by}
use Rattle.std.specs.List.{AllByRecursion}
use Rattle.wc_base.specs.{declared.error.DomError.DomError}
use Rattle.codec_definitions.specs.declared.unit.Unit as media
use Rattle.codec_model.specs.declared.entry.{Opening.Opening, Entry.Entry, Event.Event}
use Rattle.codec_model.specs.declared.entry.{Message.Message, Task.Task, Work.Work}
use Rattle.codec_model.specs.Control.{Control, is_dequeue, process_queue}
use Rattle.codec_model.specs.Replay.{State, opening_state, step, accepted, IsLegal}
use Rattle.codec_model.specs.Shown.{shows, shown_from, shown, rejections, outputs_from}
use Rattle.codec_model.specs.StepLaws.{EachStep, Sends, asked, call_sends, by_queue, by_removals, by_steps}
use Rattle.history_laws.specs.OutputLaws.{all_append}
use Rattle.codec_follow.specs.Errors.{IsServed, AreServedFrom, AreServed, IsForMemory}

-- how many tasks close the codec for something else than want of memory
abbrev other : Task → ℕ
other (Task.Close DomError.OutOfMemory) = 0
other (Task.Close x) = 1
other _ = 0

-- no queued task does
abbrev AllFine : List Task → Type 0
AllFine ts = sum_by other ts ≡ 0

only_memory : (x : DomError) (ts : List Task) → AllFine (Task.Close x ∷ ts) → x ≡ DomError.OutOfMemory
only_memory DomError.OutOfMemory ts fine = refl
only_memory x ts fine = absurd (omega (arith, sum_by-cons other (Task.Close x) ts, fine))

-- ---- steps

process_fine : (ms : List Message) (c : Control) → c.messages ≡ ms → AllFine c.tasks → AllFine (process_queue ms c).tasks
process_fine = by_queue (λ (d : Control). AllFine d.tasks) (λ m ms d e h. grind (arith, sum_by_push, h))

dequeues_fine : (ts : List Task) → AllFine (filter is_dequeue ts)
dequeues_fine [] = refl
dequeues_fine (Task.Dequeue ∷ ts) = sum_by-cons other Task.Dequeue (filter is_dequeue ts) ∙ omega (arith, dequeues_fine ts)
dequeues_fine (t ∷ ts) = dequeues_fine ts

sent_fine : (w : Work) (c d : Control) → Sends w c d → AllFine c.tasks → AllFine d.tasks
sent_fine w c d k fine = let before = asked c k.phase k.key_required k.size k.pending in rw k.is (process_fine (c.messages ++ record { place = c.place; work = w } ∷ []) (record before { messages = before.messages ++ record { place = c.place; work = w } ∷ [] }) refl fine)

each_fine : EachStep (λ e s t. IsServed e s → AllFine s.control.tasks → AllFine t.control.tasks)
each_fine = record {
  refused = λ who x error s may e served fine. fine;
  sent = λ who x w s m may e served fine. sent_fine w s.control _ (call_sends x w s.control m) fine;
  removes_all = λ who x s is e served fine. by_removals (λ y. AllFine (accepted y s.control).tasks) (grind (arith, sum_by_push, dequeues_fine s.control.tasks)) (grind (arith, sum_by_push, dequeues_fine s.control.tasks)) x is;
  takes = λ who unit s may served fine. fine;
  grounds = λ who to s served fine. fine;
  start = λ i is epoch item s first may served fine. fine;
  -- an item that was served ran, or memory was wanted
  done = λ r e epoch item moment o s running own is served fine. grind (arith, sum_by_push, running, served, is, fine);
  turn = λ x ts s first served fine. grind (arith, sum_by_push, sum_by-cons other x ts, process_fine, dequeues_fine ts, first, fine);
  reclaim = λ moment s may served fine. elim served [ ];
}

-- ---- what is shown

abbrev AllFor : List Event → Type 0
AllFor xs = AllByRecursion IsForMemory xs

rejections_for : (e : DomError) (ps : List ℕ) → AllFor (rejections e ps)
rejections_for e [] = tt
rejections_for e (p ∷ ps) = (tt, rejections_for e ps)

outputs_for : (n : ℕ) (us : List media.Unit) → AllFor (outputs_from n us)
outputs_for n [] = tt
outputs_for n (u ∷ us) = (tt, outputs_for (n + 1) us)

shows_for : (e : Entry) (s : State) → IsServed e s → AllFine s.control.tasks → AllFor (shows e s)
shows_for e s served fine = grind (arith, outputs_for, rejections_for, all_append IsForMemory, only_memory, served, fine)

abbrev Placed : ℕ × Event → Type 0
Placed x = IsForMemory x.1

placed : (place : ℕ) (xs : List Event) → AllFor xs → AllByRecursion Placed (map (λ (x : Event). (place, x)) xs)
placed place [] h = tt
placed place (x ∷ xs) h = (h.0, placed place xs h.1)

shown_for : (h : List Entry) (s : State) → AreServedFrom h s → AllFine s.control.tasks → AllByRecursion Placed (shown_from h s)
shown_for [] s served fine = tt
shown_for (e ∷ es) s served fine =
    all_append Placed (map (λ (x : Event). (s.control.place, x)) (shows e s)) (unwrap_or (option_map (shown_from es) (step e s)) []) (placed s.control.place (shows e s) (shows_for e s served.0 fine))
    (elim (step e s) as (λ o. step e s ≡ o → IfSome o (AreServedFrom es) → AllByRecursion Placed (unwrap_or (option_map (shown_from es) o) [])) [
      | None ↦ λ is more. tt
      | Some t ↦ λ is more. shown_for es t more (by_steps _ each_fine e s t is served.0 fine)
    ] refl served.1)

pub served_give_no_error : (o : Opening) (h : List Entry) → IsLegal o h → AreServed o h → AllByRecursion Placed (shown o h)
served_give_no_error o h legal served = shown_for h (opening_state o) served refl
