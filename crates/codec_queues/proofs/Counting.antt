-- The tasks of a ring that count, as tasks come and go and a removal leaves some behind.
use Rattle.std.proofs.Common.{ℕ, ◌≡◌, ◌+◌, ◌≤◌, ◌<◌, ◌==◌, ◌||◌, Bool, true, false, eq-eqb, cond, List, [], ◌∷◌, ◌++◌, length, length-append, drop, filter, count_by, refl, ap, sym, ◌∙◌, arith}
use Rattle.std.specs.List.{AllByRecursion}
use Rattle.std.proofs.lemmas.Bool.{ne_eqb}
use Rattle.std.proofs.lemmas.List.Sums.{sum_by_push}
use Rattle.codec_model.specs.declared.entry.{Message.Message, Item.Item, Task.Task}
use Rattle.codec_model.specs.Control.{is_dequeue, is_desaturate}
use Rattle.codec_queues.specs.Queues.{QueuedTask, QueuesValue, counts, tasks_of, places_of, with_tasks, removed_from, AreQueued, AreOfQueues}

-- the queues that these lists and rings are
abbrev pub queues_of : ℕ → List Message → List Item → List Task → ℕ → ℕ → ℕ → QueuesValue
queues_of e ms is ts m w t = record { epoch = e; messages = ms; work = is; tasks = ts; message_places = m; work_places = w; task_places = t }

same_queues : (e : ℕ) (ms : List Message) (is : List Item) (ts us : List Task) (m w t u : ℕ) → ts ≡ us → t ≡ u → queues_of e ms is ts m w t ≡ queues_of e ms is us m w u
same_queues e ms is ts us m w t u h k = rw (h, k) refl

-- ---- no more tasks count than stand in the ring

pub count_at_most : (e : ℕ) (qs : List QueuedTask) → length (tasks_of e qs) ≤ length qs
count_at_most e [] = omega arith
count_at_most e (q ∷ qs) =
    let rest = count_at_most e qs in
    elim (counts e q) as (λ b. length (cond b (q.task ∷ tasks_of e qs) (tasks_of e qs)) ≤ length (q ∷ qs)) [
      | true ↦ omega (arith, rest)
      | false ↦ omega (arith, rest)
    ]

-- ---- a task comes

-- a task of the epoch
abbrev pub of_epoch : ℕ → Task → QueuedTask
of_epoch e t = record { epoch = e; task = t }

counts_now : (e : ℕ) (t : Task) → counts e (of_epoch e t) ≡ true
counts_now e t = rw (eq-eqb e e refl) refl

-- it counts behind the others
tasks_push : (e : ℕ) (qs : List QueuedTask) (t : Task) → tasks_of e (qs ++ of_epoch e t ∷ []) ≡ tasks_of e qs ++ t ∷ []
tasks_push e [] t = rw (counts_now e t) refl
tasks_push e (q ∷ qs) t =
    let rest = tasks_push e qs t in
    elim (counts e q) as (λ b. cond b (q.task ∷ tasks_of e (qs ++ of_epoch e t ∷ [])) (tasks_of e (qs ++ of_epoch e t ∷ [])) ≡ cond b (q.task ∷ tasks_of e qs) (tasks_of e qs) ++ t ∷ []) [
      | true ↦ ap (λ (l : List Task). q.task ∷ l) rest
      | false ↦ rest
    ]

each_push : (e : ℕ) (qs : List QueuedTask) (t : Task) → AllByRecursion (λ q. q.epoch ≤ e) qs → AllByRecursion (λ q. q.epoch ≤ e) (qs ++ of_epoch e t ∷ [])
each_push e [] t h = (omega arith, tt)
each_push e (q ∷ qs) t h = (h.0, each_push e qs t h.1)

pub pushed : (e : ℕ) (qs : List QueuedTask) (t : Task) (more : List QueuedTask) (n count : ℕ) → AreOfQueues e qs n → more ≡ qs ++ of_epoch e t ∷ [] → count ≡ n + cond (is_desaturate t) 1 0 → AreOfQueues e more count
pushed e qs t more n count h is more_counted = record {
  queued = rw is (record { each = each_push e qs t h.queued.each });
  counted = more_counted ∙ (omega (arith, h.counted, sum_by_push) ∙ sym (ap (count_by is_desaturate) (ap (tasks_of e) is ∙ tasks_push e qs t)));
}

pub pushed_queues : (e : ℕ) (ms : List Message) (is : List Item) (m w : ℕ) (qs more : List QueuedTask) (capacity now : ℕ) (t : Task) → length (tasks_of e qs) < places_of e qs capacity → more ≡ qs ++ of_epoch e t ∷ [] → now ≡ capacity → queues_of e ms is (tasks_of e more) m w (places_of e more now) ≡ with_tasks (tasks_of e qs ++ t ∷ []) (queues_of e ms is (tasks_of e qs) m w (places_of e qs capacity))
pushed_queues e ms is m w qs more capacity now t free back same =
    let tasks = ap (tasks_of e) back ∙ tasks_push e qs t in
    same_queues e ms is _ _ m w _ _ tasks (omega (arith, free, same, ap length tasks, ap length back, length-append (tasks_of e qs) (t ∷ []), length-append qs (of_epoch e t ∷ [])))

-- ---- a removal

removed_next : (b d : Bool) (t : Task) (later ts : List Task) → is_dequeue t ≡ d → later ≡ filter is_dequeue ts → cond d (t ∷ later) later ≡ filter is_dequeue (cond (b || d) (t ∷ ts) ts)
removed_next true true t later ts is same = rw (is, same) refl
removed_next false true t later ts is same = rw (is, same) refl
removed_next true false t later ts is same = rw (is, same) refl
removed_next false false t later ts is same = same

-- in the next epoch the dequeue events alone count
tasks_removed : (e : ℕ) (qs : List QueuedTask) → AllByRecursion (λ q. q.epoch ≤ e) qs → tasks_of (e + 1) qs ≡ filter is_dequeue (tasks_of e qs)
tasks_removed e [] h = refl
tasks_removed e (q ∷ qs) h =
    let late : (q.epoch == e + 1) ≡ false = ne_eqb q.epoch (e + 1) (λ same. omega (arith, same, h.0)) in
    rw late (removed_next (q.epoch == e) (is_dequeue q.task) q.task (tasks_of (e + 1) qs) (tasks_of e qs) refl (tasks_removed e qs h.1))

each_later : (e : ℕ) (qs : List QueuedTask) → AllByRecursion (λ q. q.epoch ≤ e) qs → AllByRecursion (λ q. q.epoch ≤ e + 1) qs
each_later e [] h = tt
each_later e (q ∷ qs) h = (omega (arith, h.0), each_later e qs h.1)

-- no dequeue event desaturates
none_desaturate : (ts : List Task) → count_by is_desaturate (filter is_dequeue ts) ≡ 0
none_desaturate [] = refl
none_desaturate (Task.Dequeue ∷ ts) = none_desaturate ts
none_desaturate (t ∷ ts) = none_desaturate ts

pub removed : (e : ℕ) (qs : List QueuedTask) (n : ℕ) → AreOfQueues e qs n → AreOfQueues (e + 1) qs 0
removed e qs n h = record {
  queued = record { each = each_later e qs h.queued.each };
  counted = sym (ap (count_by is_desaturate) (tasks_removed e qs h.queued.each) ∙ none_desaturate (tasks_of e qs));
}

pub removed_queues : (e : ℕ) (ms : List Message) (is : List Item) (m w : ℕ) (qs : List QueuedTask) (capacity : ℕ) → AreQueued e qs → queues_of (e + 1) [] [] (tasks_of (e + 1) qs) m w (places_of (e + 1) qs capacity) ≡ removed_from (queues_of e ms is (tasks_of e qs) m w (places_of e qs capacity))
removed_queues e ms is m w qs capacity h =
    let tasks = tasks_removed e qs h.each in
    same_queues (e + 1) [] [] _ _ m w _ _ tasks (omega (arith, ap length tasks))

-- ---- a turn passes over what does not count

-- of these tasks some in front, of which none counts, were passed over
pub record IsPassed (e : ℕ) (qs : List QueuedTask) (capacity : ℕ) (rest : List QueuedTask) (now : ℕ) : Type 0 where
  pub tasks : tasks_of e rest ≡ tasks_of e qs
  pub queued : AreQueued e rest
  pub places : places_of e qs capacity ≤ places_of e rest now

pub passed_none : (e : ℕ) (qs : List QueuedTask) (capacity : ℕ) → AreQueued e qs → IsPassed e qs capacity qs capacity
passed_none e qs capacity h = record { tasks = refl; queued = h; places = omega arith }

pub passed_more : (e : ℕ) (qs : List QueuedTask) (capacity : ℕ) (before : List QueuedTask) (now : ℕ) (q : QueuedTask) (rest : List QueuedTask) (later : ℕ) → IsPassed e qs capacity before now → before ≡ q ∷ rest → counts e q ≡ false → later ≡ now → length before ≤ now → IsPassed e qs capacity rest later
passed_more e qs capacity before now q rest later h is passed same within =
    let tasks : tasks_of e before ≡ tasks_of e rest = rw (is, passed) refl in
    record {
      tasks = sym tasks ∙ h.tasks;
      queued = record { each = (rw is at h.queued.each).1 };
      places = omega (arith, h.places, same, within, ap length is, ap length tasks);
    }

pub record IsFound (e : ℕ) (qs : List QueuedTask) (capacity : ℕ) (q : QueuedTask) (rest : List QueuedTask) (now : ℕ) : Type 0 where
  pub front : tasks_of e qs ≡ q.task ∷ tasks_of e rest
  pub behind : tasks_of e rest ≡ drop 1 (tasks_of e qs)
  pub queued : AreQueued e rest
  pub places : places_of e qs capacity ≤ places_of e rest now

pub passed_found : (e : ℕ) (qs : List QueuedTask) (capacity : ℕ) (before : List QueuedTask) (now : ℕ) (q : QueuedTask) (rest : List QueuedTask) (later : ℕ) → IsPassed e qs capacity before now → before ≡ q ∷ rest → counts e q ≡ true → later ≡ now → length before ≤ now → IsFound e qs capacity q rest later
passed_found e qs capacity before now q rest later h is counted same within =
    let tasks : tasks_of e before ≡ q.task ∷ tasks_of e rest = rw (is, counted) refl in
    let all = sym h.tasks ∙ tasks in
    record {
      front = all;
      behind = sym (ap (λ (l : List Task). drop 1 l) all);
      queued = record { each = (rw is at h.queued.each).1 };
      places = omega (arith, h.places, same, within, ap length is, ap length tasks);
    }

-- all were passed over
pub none_left : (e : ℕ) (qs : List QueuedTask) (capacity : ℕ) (rest : List QueuedTask) (now : ℕ) → IsPassed e qs capacity rest now → rest ≡ [] → tasks_of e qs ≡ []
none_left e qs capacity rest now h is = sym h.tasks ∙ ap (tasks_of e) is
