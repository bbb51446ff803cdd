-- What a machine has room for as its queues change.
use Rattle.std.proofs.Common.{ℕ, ◌≡◌, ◌+◌, ◌*◌, ◌^◌, ◌≤◌, ◌<◌, ◌==◌, Bool, false, not, eq-eqb, cond, Option, Some, None, [], ◌∷◌, ◌++◌, length, length-append, List, sum_by, count_by, ap, refl, subst, sym, ◌∙◌, arith}
use Rattle.std.specs.Prelude.{IfSome, is_some, ◌&&◌, if◌then◌else◌}
use Rattle.std.proofs.lemmas.List.Sums.{sum_by-cons, sum_by_push}
use Rattle.codec_model.specs.declared.entry.{Message.Message, Work.Work, WorkKind.WorkKind, Item.Item, Running.Running, Task.Task}
use Rattle.codec_model.specs.Control.{is_coded, kind_of, coded_out, coded_running, running_weight, left, task_weight}
use Rattle.codec_queues.specs.{Kept.IsRoomy, Kept.control_of, Queues.QueuesValue, Queues.with_places, Queues.with_tasks, Queues.removed_from, Rising.IsRising, declared.machine.Machine.TheInside.Inside}
use Rattle.codec_queues.proofs.{Room.tasks_weigh, Room.running_weighs, Room.cleared_left, Room.cleared_places, Room.none_coded, Room.ran_before, Rising.rising_next}

-- the numbers of a machine that has its places
pub record Fits (m : Inside) : Type 0 where
  pub counted : left (control_of m) ≤ m.room
  pub small : m.room + 1 < 2 ^ 62
  pub for_work : m.room ≤ m.queues.work_places
  pub for_tasks : left (control_of m) + 1 ≤ m.queues.task_places
  pub epochs : m.queues.epoch ≤ m.place
  pub items : m.next_item + length m.queues.messages ≤ m.place
  pub sizes : m.size ≡ count_by (λ x. is_coded x.work) m.queues.messages
  pub coded : m.coded ≡ coded_out (control_of m)
  pub outputs : m.shown ≤ 2 ^ 64 * m.place
  pub takes : m.taken ≤ m.place

pub roomy : (m : Inside) → Fits m → IfSome m.running (λ r. r.epoch ≤ m.queues.epoch) → IsRising m.pending.items m.place → IsRoomy m
roomy m fits ran promises = assumption

-- the next entry's machine, with the messages and the places of another
abbrev pub queued : Inside → Inside → Inside
queued m n = record m { place = m.place + 1; phase = n.phase; key_required = n.key_required; queues = n.queues; size = n.size; pending = n.pending; room = n.room }

-- these queues with a message more, and with the places of others
abbrev pub with_one : QueuesValue → QueuesValue → ℕ → Work → QueuesValue
with_one o q place w = record (with_places o q) { messages = q.messages ++ record { place = place; work = w } ∷ [] }

pub one_more : (a b q : QueuesValue) (place : ℕ) (w : Work) → a ≡ record b { messages = b.messages ++ record { place = place; work = w } ∷ [] } → b ≡ with_places b q → a ≡ with_one b q place w
one_more a b q place w h k = h ∙ ap (λ (x : QueuesValue). record x { messages = x.messages ++ record { place = place; work = w } ∷ [] }) k

-- where one message more has places for all that may come of it, all has its place
pub roomy_queued : {m n : Inside} (o : QueuesValue) (w : Work) → IsRoomy m → n ≡ queued m n → n.queues ≡ with_one o m.queues m.place w → n.size ≡ m.size + cond (is_coded w) 1 0 → IsRising n.pending.items (m.place + 1) →
    7 * length m.queues.messages + 4 * length m.queues.work + 2 * length m.queues.tasks + 10 ≤ n.room → n.room + 1 < 2 ^ 62 → n.room ≤ o.work_places → n.room + 1 ≤ o.task_places → IsRoomy n
roomy_queued {m} {n} o w h is queues size rises enough small fits_work fits_tasks =
    let longer = length-append m.queues.messages (record { place = m.place; work = w } ∷ []) in
    let all : IsRoomy (record (queued m n) { queues = with_one o m.queues m.place w }) = roomy (record (queued m n) { queues = with_one o m.queues m.place w }) (omega (arith, h, sum_by_push, longer, size, enough, small, fits_work, fits_tasks, tasks_weigh m.queues.tasks, running_weighs m.running)) h.ran rises in
    subst IsRoomy (sym is) (subst (λ (q : QueuesValue). IsRoomy (record (queued m n) { queues = q })) (sym queues) all)

-- the next entry's machine, with the tasks, the promises and what is shown of another
abbrev pub turned : Inside → Inside → Inside
turned m n = record m { place = m.place + 1; pending = n.pending; blocked = n.blocked; saturated = n.saturated; queues = n.queues; scheduled = n.scheduled; shown = n.shown; active = n.active }

-- queues that differ in their tasks alone, of which the later ones have no fewer places
pub record Turns (q r : QueuesValue) : Type 0 where
  pub epoch : r.epoch ≡ q.epoch
  pub messages : r.messages ≡ q.messages
  pub work : r.work ≡ q.work
  pub work_places : r.work_places ≡ q.work_places
  pub task_places : q.task_places ≤ r.task_places

-- where the tasks weigh no more, all has its place there
pub roomy_turned : {m n : Inside} → IsRoomy m → n ≡ turned m n → Turns m.queues n.queues → sum_by task_weight n.queues.tasks ≤ sum_by task_weight m.queues.tasks → IsRising n.pending.items m.place → n.shown ≤ 2 ^ 64 * (m.place + 1) → IsRoomy n
roomy_turned {m} {n} h is turns less rises shown =
    let coded = ap (λ (l : List Message). count_by (λ x. is_coded x.work) l) turns.messages in
    let items = ap (λ (l : List Item). count_by (λ x. is_coded x.work) l) turns.work in
    let runs = ap (λ (e : ℕ). coded_running e m.running) turns.epoch in
    subst IsRoomy (sym is) (roomy (turned m n) (omega (arith, h, less, shown, turns.epoch, turns.work_places, turns.task_places, ap length turns.messages, ap length turns.work, coded, items, runs)) (subst (λ (e : ℕ). IfSome m.running (λ r. r.epoch ≤ e)) (sym turns.epoch) h.ran) (rising_next n.pending.items m.place rises))

-- a task left the queue
pub popped_weighs : (t : Task) (ts us : List Task) → ts ≡ t ∷ us → sum_by task_weight us ≤ sum_by task_weight ts
popped_weighs t ts us is = rw is (omega (arith, sum_by-cons task_weight t us))

-- the task that unblocks queues one that processes
pub unblocked_weighs : (t : Task) (ts us : List Task) → ts ≡ t ∷ us → t ≡ Task.Unblock → sum_by task_weight (us ++ Task.Process ∷ []) ≤ sum_by task_weight ts
unblocked_weighs t ts us is unblocks = omega (arith, sum_by_push, sum_by-cons task_weight t us, ap (λ (l : List Task). sum_by task_weight l) is, ap task_weight unblocks)

-- the next entry's machine, with an item at work
abbrev pub started : Inside → Inside → Running → Inside
started m n r = record m { place = m.place + 1; queues = n.queues; running = Some r }

none_of : {X : Type 0} (o : Option X) → is_some o ≡ false → o ≡ None
none_of None h = refl
none_of (Some x) h = absurd cc

-- an item of this epoch that is at work counts where it is a coded one
coded_starts : (e number place : ℕ) (w : Work) → coded_running e (Some (record { epoch = e; number = number; place = place; kind = kind_of w })) ≡ cond (is_coded w) 1 0
coded_starts e number place (Work.Coded input) = rw (eq-eqb e e refl) refl
coded_starts e number place w = refl

-- where the front item is at work, all has its place
pub roomy_started : {m n : Inside} (i : Item) (rest : List Item) (e : ℕ) (k : WorkKind) → IsRoomy m → n ≡ started m n (record { epoch = e; number = i.number; place = i.place; kind = k }) → is_some m.running ≡ false → m.queues.work ≡ i ∷ rest → n.queues ≡ record m.queues { work = rest } → e ≡ m.queues.epoch → k ≡ kind_of i.work → IsRoomy n
roomy_started {m} {n} i rest e k h is idle front queues same kind =
    let idle_none = none_of m.running idle in
    let r : Running = record { epoch = m.queues.epoch; number = i.number; place = i.place; kind = kind_of i.work } in
    let items = ap (λ (l : List Item). count_by (λ x. is_coded x.work) l) front in
    let weight = ap running_weight idle_none in
    let coded = ap (λ (o : Option Running). coded_running m.queues.epoch o) idle_none in
    let all : IsRoomy (record (started m n r) { queues = record m.queues { work = rest } }) =
    roomy (record (started m n r) { queues = record m.queues { work = rest } })
    (omega (arith, h, items, weight, coded, sum_by-cons, ap length front, coded_starts m.queues.epoch i.number i.place i.work)) (omega arith) (rising_next m.pending.items m.place h.promises) in
    subst IsRoomy (sym is) (rw (same, kind) (subst (λ (q : QueuesValue). IsRoomy (record (started m n r) { queues = q })) (sym queues) all))

-- a machine of this entry with its counts from new
abbrev pub cleared : Inside → Inside → Inside
cleared m n = record n { place = m.place; room = m.room; running = m.running; shown = m.shown; taken = m.taken; size = 0; next_item = 0; coded = 0 }

-- the tasks after a removal
abbrev pub left_tasks : Bool → Bool → List Task → List Task
left_tasks wanted scheduled ts = if wanted && not scheduled then ts ++ Task.Dequeue ∷ [] else ts

-- where a removal has left the running item and the dequeue events, all has its place
pub roomy_cleared : {m n : Inside} (q : QueuesValue) → IsRoomy m → n ≡ cleared m n → q ≡ removed_from m.queues → n.queues ≡ with_tasks (left_tasks (not (m.size == 0)) m.scheduled q.tasks) q → m.queues.epoch < m.place → IsRising n.pending.items m.place → IsRoomy n
roomy_cleared {m} {n} q h is removed queues before rises =
    let less = cleared_left m.size m.scheduled m.queues.messages m.queues.work m.running m.queues.tasks h.sizes in
    let places = cleared_places m.size m.scheduled m.queues.messages m.queues.work m.running m.queues.tasks h.sizes in
    let kept : QueuesValue = with_tasks (left_tasks (not (m.size == 0)) m.scheduled (removed_from m.queues).tasks) (removed_from m.queues) in
    let same = queues ∙ ap (λ (x : QueuesValue). with_tasks (left_tasks (not (m.size == 0)) m.scheduled x.tasks) x) removed in
    let all : IsRoomy (record (cleared m n) { queues = kept }) =
    roomy (record (cleared m n) { queues = kept }) (omega (arith, h, less, places, before, none_coded m.queues.epoch m.running h.ran)) (ran_before m.queues.epoch m.running h.ran) rises in
    subst IsRoomy (sym is) (subst (λ (x : QueuesValue). IsRoomy (record (cleared m n) { queues = x })) (sym same) all)
