-- The places that a control state needs.
use Rattle.std.proofs.Common.{ℕ, ◌+◌, ◌*◌, ◌≤◌, List, [], ◌∷◌, length, sum_by, filter, ◌≡◌, ◌++◌, length-append, count_by, refl, ap, arith}
use Rattle.std.proofs.lemmas.List.Sums.{sum_by-cons, sum_by_push, count_by-le-length}
use Rattle.std.proofs.lemmas.List.Filters.{sum_by-filter_both}
use Rattle.std.proofs.lemmas.Bool.{ne_eqb}
use Rattle.std.specs.Prelude.{Option, Some, None, IfSome, true, false, Bool, not, ◌==◌, ◌&&◌, if◌then◌else◌, cond}
use Rattle.codec_model.specs.declared.entry.{Message.Message, Item.Item, Running.Running, WorkKind.WorkKind, Task.Task, Ended.Ended}
use Rattle.codec_model.specs.Facts.{bit}
use Rattle.codec_model.specs.Control.{Control, is_coded, coded_out, task_weight, running_weight, coded_running, is_dequeue, with_end}

weighs : (t : Task) → (1 ≤ task_weight t) × (task_weight t ≤ 2)
weighs Task.Unblock = omega arith
weighs t = omega arith

pub tasks_fit : (ts : List Task) → length ts ≤ sum_by task_weight ts
tasks_fit [] = omega arith
tasks_fit (t ∷ ts) = omega (arith, weighs t, tasks_fit ts, sum_by-cons task_weight t ts)

pub tasks_weigh : (ts : List Task) → sum_by task_weight ts ≤ 2 * length ts
tasks_weigh [] = omega arith
tasks_weigh (t ∷ ts) = omega (arith, weighs t, tasks_weigh ts, sum_by-cons task_weight t ts)

pub dequeues_fit : (ts : List Task) → sum_by task_weight (filter is_dequeue ts) ≤ sum_by task_weight ts
dequeues_fit ts = omega (arith, sum_by-filter_both is_dequeue (λ t. not (is_dequeue t)) (λ _. refl) task_weight ts)

-- a task that is queued under a test
heavier_if : (t : Task) (b : Bool) (ts : List Task) → sum_by task_weight (cond b (ts ++ t ∷ []) ts) ≤ sum_by task_weight ts + task_weight t
heavier_if t true ts = omega (arith, sum_by_push)
heavier_if t false ts = omega arith

heavier_unless : (t : Task) (b : Bool) (ts : List Task) → sum_by task_weight (cond b ts (ts ++ t ∷ [])) ≤ sum_by task_weight ts + task_weight t
heavier_unless t true ts = heavier_if t false ts
heavier_unless t false ts = heavier_if t true ts

pub running_weighs : (r : Option Running) → running_weight r ≤ 3
running_weighs None = omega arith
running_weighs (Some r) = omega arith

-- an item that is at work from before a removal
pub ran_before : (e : ℕ) (r : Option Running) → IfSome r (λ x. x.epoch ≤ e) → IfSome r (λ x. x.epoch ≤ e + 1)
ran_before e None h = tt
ran_before e (Some r) h = omega (arith, h)

-- a running item counts where it is a coded one of this epoch
coded_ran : (e : ℕ) (r : Running) → coded_running e (Some r) ≤ bit (r.epoch == e)
coded_ran e r = by r.kind
  where
    by : (k : WorkKind) → coded_running e (Some (record r { kind = k })) ≤ bit (r.epoch == e)
    by WorkKind.Coded = omega arith
    by k = omega arith

pub none_coded : (e : ℕ) (r : Option Running) → IfSome r (λ x. x.epoch ≤ e) → coded_running (e + 1) r ≡ 0
none_coded e None h = refl
none_coded e (Some r) h = omega (arith, coded_ran (e + 1) r, ap bit (ne_eqb r.epoch (e + 1) (λ same. omega (arith, same, h))))

-- an item of an earlier epoch is not among them
pub late_runs : (e : ℕ) (r : Running) (o : Option Running) → o ≡ Some r → (r.epoch == e) ≡ false → coded_running e o ≡ 0
late_runs e r o is late = rw is (omega (arith, coded_ran e r, ap bit late))

-- no more coded items are queued or running than items
at_most_one : (b : Bool) → bit b ≤ 1
at_most_one true = omega arith
at_most_one false = omega arith

coded_runs : (e : ℕ) (o : Option Running) → coded_running e o ≤ 1
coded_runs e None = omega arith
coded_runs e (Some r) = omega (arith, coded_ran e r, at_most_one (r.epoch == e))

pub coded_fits : (s : Control) → coded_out s ≤ length s.work + 1
coded_fits s = omega (arith, count_by-le-length (λ i. is_coded i.work) s.work, coded_runs s.epoch s.running)

-- what a removal leaves of the tasks
pub cleared_left : (size : ℕ) (scheduled : Bool) (ms : List Message) (is : List Item) (r : Option Running) (ts : List Task) → size ≡ count_by (λ x. is_coded x.work) ms → 7 * 0 + 4 * 0 + running_weight r + sum_by task_weight (if not (size == 0) && not scheduled then filter is_dequeue ts ++ Task.Dequeue ∷ [] else filter is_dequeue ts) ≤ 7 * length ms + 4 * length is + running_weight r + sum_by task_weight ts
cleared_left size scheduled ms is r ts h = omega (arith, by (size == 0) refl)
  where
    by : (b : Bool) → (size == 0) ≡ b → sum_by task_weight (if not b && not scheduled then filter is_dequeue ts ++ Task.Dequeue ∷ [] else filter is_dequeue ts) ≤ 7 * length ms + sum_by task_weight ts
    by true none = omega (arith, dequeues_fit ts)
    by false some =
        let big : 1 ≤ size = grind (arith, some) in
        omega (arith, dequeues_fit ts, big, h, count_by-le-length (λ x. is_coded x.work) ms, heavier_if Task.Dequeue (not scheduled) (filter is_dequeue ts))

-- the end of an item queues two tasks of weight 1 at most, or one of weight 2
pub end_weighs : (r : Running) (e : Ended) (saturated : Bool) (ts : List Task) → sum_by task_weight (with_end r e saturated ts) ≤ sum_by task_weight ts + 2
end_weighs r e saturated ts = by e r.kind
  where
    by : (e : Ended) (k : WorkKind) → sum_by task_weight (with_end (record r { kind = k }) e saturated ts) ≤ sum_by task_weight ts + 2
    by (Ended.Ran units) WorkKind.Coded = omega (arith, heavier_if, heavier_unless)
    by e k = omega (arith, sum_by_push)

-- a message that is processed becomes an item, and queues a task of weight 1 at most
pub taken_left : (ms rest : List Message) (m : Message) (is more : List Item) (i : Item) (r : Option Running) (ts later : List Task) → ms ≡ m ∷ rest → more ≡ is ++ i ∷ [] → sum_by task_weight later ≤ sum_by task_weight ts + 1 → 7 * length rest + 4 * length more + running_weight r + sum_by task_weight later ≤ 7 * length ms + 4 * length is + running_weight r + sum_by task_weight ts
taken_left ms rest m is more i r ts later front back few = rw (front, back) (omega (arith, few, length-append is (i ∷ [])))

pub dequeue_weighs : (scheduled : Bool) (ts later : List Task) → later ≡ (if true && not scheduled then ts ++ Task.Dequeue ∷ [] else ts) → sum_by task_weight later ≤ sum_by task_weight ts + 1
dequeue_weighs scheduled ts later is = rw is (omega (arith, heavier_if Task.Dequeue (not scheduled) ts))

-- as many places as a removal takes are no longer needed
dequeues_weigh : (ts : List Task) → sum_by task_weight (filter is_dequeue ts) + length ts ≤ sum_by task_weight ts + length (filter is_dequeue ts)
dequeues_weigh [] = omega arith
dequeues_weigh (Task.Dequeue ∷ ts) = omega (arith, dequeues_weigh ts, sum_by-cons task_weight Task.Dequeue)
dequeues_weigh (t ∷ ts) = omega (arith, dequeues_weigh ts, weighs t, sum_by-cons task_weight t ts)

pub cleared_places : (size : ℕ) (scheduled : Bool) (ms : List Message) (is : List Item) (r : Option Running) (ts : List Task) → size ≡ count_by (λ x. is_coded x.work) ms → 7 * 0 + 4 * 0 + running_weight r + sum_by task_weight (if not (size == 0) && not scheduled then filter is_dequeue ts ++ Task.Dequeue ∷ [] else filter is_dequeue ts) + length ts ≤ 7 * length ms + 4 * length is + running_weight r + sum_by task_weight ts + length (filter is_dequeue ts)
cleared_places size scheduled ms is r ts h = omega (arith, by (size == 0) refl)
  where
    by : (b : Bool) → (size == 0) ≡ b → sum_by task_weight (if not b && not scheduled then filter is_dequeue ts ++ Task.Dequeue ∷ [] else filter is_dequeue ts) + length ts ≤ 7 * length ms + sum_by task_weight ts + length (filter is_dequeue ts)
    by true none = omega (arith, dequeues_weigh ts)
    by false some =
        let big : 1 ≤ size = grind (arith, some) in
        omega (arith, dequeues_weigh ts, big, h, count_by-le-length (λ x. is_coded x.work) ms, heavier_if Task.Dequeue (not scheduled) (filter is_dequeue ts))
