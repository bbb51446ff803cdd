-- Outputs that wait stand in the order of the tasks that will show them, call after call.
use Rattle.std.proofs.Common.{ℕ, zero, suc, ◌≡◌, ◌+◌, ◌≤◌, ◌&&◌, not, Bool, true, false, eqb, cond, eq-eqb, List, [], ◌∷◌, ◌++◌, append_assoc, append-nil, length, drop, filter, slice_get, Some, None, refl, ap, sym, subst, ◌∙◌, arith}
use Rattle.std.specs.List.{AllByRecursion}
use Rattle.std.proofs.lemmas.Bool.{and_parts, eqb-true}
use Rattle.wc_base.specs.{Options.some_same}
use Rattle.codec_definitions.specs.declared.unit.Unit as media
use Rattle.codec_model.specs.declared.entry.{WorkKind.WorkKind, Work.Work, Running.Running, Call.Call, Entry.Entry, Outcome.Outcome, Ended.Ended, Task.Task}
use Rattle.codec_model.specs.Control.{Control, kind_of, process_queue, at_next_place, done_running, is_dequeue, with_ran, with_end, with_output, halts, carried, after_reset}
use Rattle.codec_model.specs.Replay.{State, ended_of, accepted, removes, step}
use Rattle.codec_model.specs.StepLaws.{by_items, by_removals, Sends, asked, call_sends, task_ran, EachStep, by_steps}
use Rattle.codec_laws.specs.declared.source.Source.{Source}
use Rattle.codec_laws.specs.Sources.{Book, given_by, after_item, after_ran}
use Rattle.codec_laws.proofs.Course.{Asked, waiting_asked, Course, course_after, plain, settled, fresh, done_course_is, turn_course_is, refused_course, sent_course, removal_course, done_course, turn_course}
use Rattle.codec_laws.proofs.FlowLaws.{Flow, mid_now, other_halts}
use Rattle.codec_laws.proofs.OutLaws.{length-given_by, carried_long, output_units, flushed_units, kinds_at, Left, left_now, old_left, ran_as}
use Rattle.codec_laws.proofs.PlaceLaws.{Rising, all_both}

-- the place behind the last of these calls
abbrev pub behind : List Asked → ℕ → ℕ
behind [] n = n
behind (a ∷ qs) n = behind qs (a.0 + 1)

pub behind_more : (qs : List Asked) (a : Asked) (n : ℕ) → behind (qs ++ a ∷ []) n ≡ a.0 + 1
behind_more [] a n = refl
behind_more (b ∷ qs) a n = behind_more qs a (b.0 + 1)

pub behind_up : (qs : List Asked) (m n : ℕ) → m ≤ n → behind qs m ≤ behind qs n
behind_up [] m n le = le
behind_up (a ∷ qs) m n le = omega arith

pub rising_behind : (low high : ℕ) (qs more : List Asked) → Rising low (qs ++ more) high → Rising (behind qs low) more high
rising_behind low high [] more h = h
rising_behind low high (a ∷ qs) more h = rising_behind (a.0 + 1) high qs more h.1

abbrev pub IsOf : ℕ → Source → Type 0
IsOf p y = y.call ≡ p

abbrev pub IsLate : ℕ → Source → Type 0
IsLate low y = low ≤ y.call

-- the outputs of a call in front
pub record Brings (p : ℕ) (us : List media.Unit) (low : ℕ) (ws rest : List Source) : Type 0 where
  pub front : List Source
  pub is : ws ≡ front ++ rest
  pub long : length front ≡ length us
  pub own : AllByRecursion (IsOf p) front
  pub late : low ≤ p

-- each task that shows outputs shows those of one call, from this place on and below that one
abbrev pub LinedUp : ℕ → List Task → List Source → ℕ → Type 0
LinedUp low [] ws high = (ws ≡ []) × (low ≤ high)
LinedUp low (Task.Output us ∷ ts) ws high = (p : ℕ) × (rest : List Source) × Brings p us low ws rest × LinedUp (p + 1) ts rest high
LinedUp low (Task.Flushed p us ∷ ts) ws high = (rest : List Source) × Brings p us low ws rest × LinedUp (p + 1) ts rest high
LinedUp low (t ∷ ts) ws high = LinedUp low ts ws high

abbrev pub Lined : Course → Control → Type 0
Lined x c = LinedUp 0 c.tasks x.book.waiting (behind x.past 0)

-- ---- lists

pub all_map : {X : Type 0} (P Q : X → Type 0) (xs : List X) → ((x : X) → P x → Q x) → AllByRecursion P xs → AllByRecursion Q xs
all_map P Q [] f h = tt
all_map P Q (x ∷ xs) f h = (f x h.0, all_map P Q xs f h.1)

pub lined_low : (ts : List Task) (low : ℕ) (ws : List Source) (high : ℕ) → LinedUp low ts ws high → low ≤ high
lined_low [] low ws high h = h.1
lined_low (Task.Output us ∷ ts) low ws high h = let k = lined_low ts (h.0 + 1) h.1 high h.3 in let l = h.2.late in omega (arith, k, l)
lined_low (Task.Flushed p us ∷ ts) low ws high h = let k = lined_low ts (p + 1) h.0 high h.2 in let l = h.1.late in omega (arith, k, l)
lined_low (t ∷ ts) low ws high h = lined_low ts low ws high h

brings_lower : (p : ℕ) (us : List media.Unit) (low lower : ℕ) (ws rest : List Source) → lower ≤ low → Brings p us low ws rest → Brings p us lower ws rest
brings_lower p us low lower ws rest le h = record { front = h.front; is = h.is; long = h.long; own = h.own; late = let l = h.late in omega (arith, le, l) }

lined_lower : (ts : List Task) (low lower : ℕ) (ws : List Source) (high : ℕ) → lower ≤ low → LinedUp low ts ws high → LinedUp lower ts ws high
lined_lower [] low lower ws high le h = (h.0, (let l = h.1 in omega (arith, le, l)))
lined_lower (Task.Output us ∷ ts) low lower ws high le h = (h.0, h.1, brings_lower h.0 us low lower ws h.1 le h.2, h.3)
lined_lower (Task.Flushed p us ∷ ts) low lower ws high le h = (h.0, brings_lower p us low lower ws h.0 le h.1, h.2)
lined_lower (t ∷ ts) low lower ws high le h = lined_lower ts low lower ws high le h

lined_higher : (ts : List Task) (low : ℕ) (ws : List Source) (high higher : ℕ) → high ≤ higher → LinedUp low ts ws high → LinedUp low ts ws higher
lined_higher [] low ws high higher le h = (h.0, (let l = h.1 in omega (arith, le, l)))
lined_higher (Task.Output us ∷ ts) low ws high higher le h = (h.0, h.1, h.2, lined_higher ts (h.0 + 1) h.1 high higher le h.3)
lined_higher (Task.Flushed p us ∷ ts) low ws high higher le h = (h.0, h.1, lined_higher ts (p + 1) h.0 high higher le h.2)
lined_higher (t ∷ ts) low ws high higher le h = lined_higher ts low ws high higher le h

late_both : (p low : ℕ) (front rest : List Source) → low ≤ p → AllByRecursion (IsOf p) front → AllByRecursion (IsLate (p + 1)) rest → AllByRecursion (IsLate low) (front ++ rest)
late_both p low front rest le own late = all_both (IsLate low) front rest (all_map (IsOf p) (IsLate low) front (λ y is. omega (arith, le, is)) own) (all_map (IsLate (p + 1)) (IsLate low) rest (λ y l. omega (arith, le, l)) late)

-- what waits is of calls from this place on
pub lined_late : (ts : List Task) (low : ℕ) (ws : List Source) (high : ℕ) → LinedUp low ts ws high → AllByRecursion (IsLate low) ws
lined_late [] low ws high h = subst (λ (l : List Source). AllByRecursion (IsLate low) l) (sym h.0) tt
lined_late (Task.Output us ∷ ts) low ws high h = let b = h.2 in subst (λ (l : List Source). AllByRecursion (IsLate low) l) (sym b.is) (late_both h.0 low b.front h.1 b.late b.own (lined_late ts (h.0 + 1) h.1 high h.3))
lined_late (Task.Flushed p us ∷ ts) low ws high h = let b = h.1 in subst (λ (l : List Source). AllByRecursion (IsLate low) l) (sym b.is) (late_both p low b.front h.0 b.late b.own (lined_late ts (p + 1) h.0 high h.2))
lined_late (t ∷ ts) low ws high h = lined_late ts low ws high h

brings_more : (p : ℕ) (us : List media.Unit) (low : ℕ) (ws rest new : List Source) → Brings p us low ws rest → Brings p us low (ws ++ new) (rest ++ new)
brings_more p us low ws rest new h = record { front = h.front; is = ap (λ (l : List Source). l ++ new) h.is ∙ append_assoc h.front rest new; long = h.long; own = h.own; late = h.late }

-- one task more, with what it will show
lined_then : (ts : List Task) (t : Task) (low : ℕ) (ws new : List Source) (high next : ℕ) → ((l : ℕ) → l ≤ high → LinedUp l (t ∷ []) new next) → LinedUp low ts ws high → LinedUp low (ts ++ t ∷ []) (ws ++ new) next
lined_then [] t low ws new high next one h = subst (λ (l : List Source). LinedUp low (t ∷ []) (l ++ new) next) (sym h.0) (one low h.1)
lined_then (Task.Output us ∷ ts) t low ws new high next one h = (h.0, h.1 ++ new, brings_more h.0 us low ws h.1 new h.2, lined_then ts t (h.0 + 1) h.1 new high next one h.3)
lined_then (Task.Flushed p us ∷ ts) t low ws new high next one h = (h.0 ++ new, brings_more p us low ws h.0 new h.1, lined_then ts t (p + 1) h.0 new high next one h.2)
lined_then (u ∷ ts) t low ws new high next one h = lined_then ts t low ws new high next one h

-- one task more that shows nothing
lined_silent : (ts : List Task) (t : Task) (low : ℕ) (ws : List Source) (high : ℕ) → ((l : ℕ) → l ≤ high → LinedUp l (t ∷ []) [] high) → LinedUp low ts ws high → LinedUp low (ts ++ t ∷ []) ws high
lined_silent ts t low ws high one h = subst (λ (l : List Source). LinedUp low (ts ++ t ∷ []) l high) (append-nil ws) (lined_then ts t low ws [] high high one h)

event_lined : (event : Bool) (ts : List Task) (ws : List Source) (high : ℕ) → LinedUp 0 ts ws high → LinedUp 0 (cond event (ts ++ Task.Dequeue ∷ []) ts) ws high
event_lined true ts ws high h = lined_silent ts Task.Dequeue 0 ws high (λ l le. (refl, le)) h
event_lined false ts ws high h = h

desaturated_lined : (b : Bool) (ts : List Task) (ws : List Source) (high : ℕ) → LinedUp 0 ts ws high → LinedUp 0 (cond b (ts ++ Task.Desaturate ∷ []) ts) ws high
desaturated_lined true ts ws high h = lined_silent ts Task.Desaturate 0 ws high (λ l le. (refl, le)) h
desaturated_lined false ts ws high h = h

processed_lined : (c : Control) (ws : List Source) (high : ℕ) → LinedUp 0 c.tasks ws high → LinedUp 0 (process_queue c.messages c).tasks ws high
processed_lined c ws high h = by_items (λ (d : Control). LinedUp 0 d.tasks ws high) (λ m ms d blocked saturated scheduled event size few e k. event_lined event d.tasks ws high k) c.messages c refl h

-- ---- entries that leave what waits

same_lined : (x y : Course) (c d : Control) → y.book.waiting ≡ x.book.waiting → y.past ≡ x.past → d.tasks ≡ c.tasks → Lined x c → Lined y d
same_lined x y c d waiting past tasks h = rw (waiting, past, tasks) h

sent_lined : (w : Work) (x : Course) (c d : Control) → Sends w c d → Lined x c → Lined (plain (Some w) x) d
sent_lined w x c d k h =
    let before = asked c k.phase k.key_required k.size k.pending in
    rw k.is (processed_lined (record before { messages = before.messages ++ record { place = c.place; work = w } ∷ [] }) x.book.waiting (behind x.past 0) h)

dequeues_lined : (ts : List Task) → LinedUp 0 (filter is_dequeue ts) [] 0
dequeues_lined [] = (refl, omega arith)
dequeues_lined (Task.Unblock ∷ ts) = dequeues_lined ts
dequeues_lined (Task.Process ∷ ts) = dequeues_lined ts
dequeues_lined (Task.Desaturate ∷ ts) = dequeues_lined ts
dequeues_lined (Task.Output units ∷ ts) = dequeues_lined ts
dequeues_lined (Task.Flushed promise units ∷ ts) = dequeues_lined ts
dequeues_lined (Task.Dequeue ∷ ts) = dequeues_lined ts
dequeues_lined (Task.Close error ∷ ts) = dequeues_lined ts

reset_lined : (c : Control) → LinedUp 0 (after_reset c).tasks [] 0
reset_lined c = event_lined (not (eqb c.size 0) && not c.scheduled) (filter is_dequeue c.tasks) [] 0 (dequeues_lined c.tasks)

remove_lined : (y : Call) (x : Course) (s : State) → removes y ≡ true → Lined (fresh x) (accepted y s.control)
remove_lined y x s is = by_removals (λ y. Lined (fresh x) (accepted y s.control)) (reset_lined (at_next_place s.control)) (reset_lined (at_next_place s.control)) y is

-- ---- turns

drop_front : {X : Type 0} (front rest : List X) → drop (length front) (front ++ rest) ≡ rest
drop_front [] rest = refl
drop_front (x ∷ front) rest = drop_front front rest

pub brought : (p : ℕ) (us vs : List media.Unit) (low : ℕ) (ws rest : List Source) → length vs ≡ length us → Brings p us low ws rest → drop (length vs) ws ≡ rest
brought p us vs low ws rest long b = rw b.is (ap (λ (n : ℕ). drop n (b.front ++ rest)) (long ∙ sym b.long) ∙ drop_front b.front rest)

turn_lined : (t : Task) (ts : List Task) (x : Course) (s : State) → s.control.tasks ≡ t ∷ ts → Lined x s.control → Lined (turn_course_is t s x) (task_ran t ts s).control
turn_lined t ts x s first h = by t (subst (λ (l : List Task). LinedUp 0 l x.book.waiting (behind x.past 0)) first h)
  where
    by : (t : Task) → LinedUp 0 (t ∷ ts) x.book.waiting (behind x.past 0) → Lined (turn_course_is t s x) (task_ran t ts s).control
    by Task.Unblock h = lined_silent ts Task.Process 0 x.book.waiting (behind x.past 0) (λ l le. (refl, le)) h
    by Task.Process h = processed_lined (record (at_next_place s.control) { tasks = ts }) x.book.waiting (behind x.past 0) h
    by Task.Desaturate h = processed_lined (record (at_next_place s.control) { tasks = ts; saturated = false }) x.book.waiting (behind x.past 0) h
    by (Task.Output us) h =
        let long : length (carried s.control.active us) ≡ length us = carried_long s.control.active us in
        rw (output_units s.control.shown (carried s.control.active us), brought h.0 us (carried s.control.active us) 0 x.book.waiting h.1 long h.2) (lined_lower ts (h.0 + 1) 0 h.1 (behind x.past 0) (omega arith) h.3)
    by (Task.Flushed p us) h =
        let long : length (carried s.control.active us) ≡ length us = carried_long s.control.active us in
        rw (flushed_units s.control.shown p (carried s.control.active us), brought p us (carried s.control.active us) 0 x.book.waiting h.0 long h.1) (lined_lower ts (p + 1) 0 h.0 (behind x.past 0) (omega arith) h.2)
    by Task.Dequeue h = h
    by (Task.Close error) h = reset_lined (record (at_next_place s.control) { tasks = ts })

-- ---- ends of items

pub given_own : (p f n k : ℕ) → AllByRecursion (IsOf p) (given_by p f n k)
given_own p f n zero = tt
given_own p f n (suc k) = (refl, given_own p f (n + 1) k)

brings_given : (p f n : ℕ) (us : List media.Unit) (low : ℕ) → low ≤ p → Brings p us low (given_by p f n (length us)) []
brings_given p f n us low le = record { front = given_by p f n (length us); is = sym (append-nil _); long = length-given_by p f n (length us); own = given_own p f n (length us); late = le }

output_lined : (p f n : ℕ) (us : List media.Unit) (ts : List Task) (ws : List Source) (high : ℕ) → high ≤ p → LinedUp 0 ts ws high → LinedUp 0 (with_output us ts) (ws ++ given_by p f n (length us)) (p + 1)
output_lined p f n us ts ws high le h = by (eqb (length us) 0) refl
  where
    by : (b : Bool) → eqb (length us) 0 ≡ b → LinedUp 0 (cond b ts (ts ++ Task.Output us ∷ [])) (ws ++ given_by p f n (length us)) (p + 1)
    by true e = rw (eqb-true (length us) 0 e, append-nil ws) (lined_higher ts 0 ws high (p + 1) (omega (arith, le)) h)
    by false e = lined_then ts (Task.Output us) 0 ws (given_by p f n (length us)) high (p + 1) (λ l k. (p, [], brings_given p f n us l (omega (arith, k, le)), (refl, omega arith))) h

ran_lined : (epoch number p : ℕ) (k : WorkKind) (us : List media.Unit) (b : Bool) (ts : List Task) (book : Book) (high : ℕ) → high ≤ p → LinedUp 0 ts book.waiting high → LinedUp 0 (with_ran (record { epoch = epoch; number = number; place = p; kind = k }) us b ts) (after_item (length us) (Some (p, k)) book).waiting (p + 1)
ran_lined epoch number p WorkKind.Configure us b ts book high le h = lined_higher (ts ++ Task.Unblock ∷ []) 0 book.waiting high (p + 1) (omega (arith, le)) (lined_silent ts Task.Unblock 0 book.waiting high (λ l k. (refl, k)) h)
ran_lined epoch number p WorkKind.Coded us b ts book high le h = output_lined p book.configure book.given us _ book.waiting high le (desaturated_lined _ ts book.waiting high h)
ran_lined epoch number p WorkKind.Flush us b ts book high le h = lined_then ts (Task.Flushed p us) 0 book.waiting (given_by p book.configure book.given (length us)) high (p + 1) (λ l k. ([], brings_given p book.configure book.given us l (omega (arith, k, le)), (refl, omega arith))) h

here_lined : (r : Running) (us : List media.Unit) (b : Bool) (ts : List Task) (book : Book) (n : ℕ) (a : Asked) (ds : List Task) (high : ℕ) → n ≡ length us → r.place ≡ a.0 → r.kind ≡ kind_of a.1 → ds ≡ with_ran r us b ts → high ≤ a.0 → LinedUp 0 ts book.waiting high → LinedUp 0 ds (after_item n (Some (a.0, kind_of a.1)) book).waiting (a.0 + 1)
here_lined r us b ts book n a ds high long place kind tasks far h = rw (tasks, long, ← place, ← kind) (ran_lined r.epoch r.number r.place r.kind us b ts book high (omega (arith, far, place)) h)

settled_lined : (x : Course) (s : State) (a : Asked) (n item : ℕ) (d : Control) → Flow x s → x.mid ≡ a ∷ [] → item ≡ length x.past → LinedUp 0 d.tasks (after_item n (Some (a.0, kind_of a.1)) x.book).waiting (a.0 + 1) → Lined (settled s.control.epoch item n s x) d
settled_lined x s a n item d f mid number h =
    let calls : slice_get x.book.calls item ≡ Some (a.0, kind_of a.1) = rw (f.calls, f.works, mid, number) (kinds_at x.past a (waiting_asked s.control)) in
    rw (eq-eqb s.control.epoch s.control.epoch refl, eq-eqb s.control.epoch x.book.epoch (sym f.epoch), calls, mid, behind_more x.past a 0) h

closed_lined : (r : Running) (e : Ended) (b : Bool) (ts : List Task) (ws : List Source) (high : ℕ) → halts e ≡ true → LinedUp 0 ts ws high → LinedUp 0 (with_end r e b ts) ws high
closed_lined r (Ended.Ran us) b ts ws high stop h = absurd cc
closed_lined r Ended.Refused b ts ws high stop h = lined_silent ts (Task.Close _) 0 ws high (λ l le. (refl, le)) h
closed_lined r (Ended.NoSlot n) b ts ws high stop h = lined_silent ts (Task.Close _) 0 ws high (λ l le. (refl, le)) h
closed_lined r Ended.NoMemory b ts ws high stop h = lined_silent ts (Task.Close _) 0 ws high (λ l le. (refl, le)) h

-- the call at work stands behind those that ran
pub mid_behind : (since : ℕ) (x : Course) (s : State) (a : Asked) → Flow x s → Rising since x.works s.control.place → x.mid ≡ a ∷ [] → behind x.past since ≤ a.0
mid_behind since x s a f rises mid =
    let works : x.works ≡ x.past ++ ((a ∷ []) ++ waiting_asked s.control) = f.works ∙ (append_assoc x.past x.mid (waiting_asked s.control) ∙ ap (λ (qs : List Asked). x.past ++ (qs ++ waiting_asked s.control)) mid) in
    (rising_behind since s.control.place x.past _ (subst (λ (qs : List Asked). Rising since qs s.control.place) works rises)).0

now_lined : (r : Running) (e : Ended) (moment since : ℕ) (o : Outcome) (x : Course) (s : State) → s.control.running ≡ Some r → r.epoch ≡ s.control.epoch → ended_of r.kind s.running_given o ≡ Some e → Flow x s → Rising since x.works s.control.place → Lined x s.control → Lined (done_course_is s.control.epoch r.number o s x) (done_running r e moment (at_next_place s.control))
now_lined r e moment since o x s running now is f rises h =
    let k = mid_now x.mid (length x.past) s r running now f.mid in
    let a = k.0 in
    let same : k.2.r ≡ r = some_same k.2.r r (sym k.2.is ∙ running) in
    let number : r.number ≡ length x.past = ap (λ (q : Running). q.number) (sym same) ∙ k.2.number in
    let kind : r.kind ≡ kind_of a.1 = ap (λ (q : Running). q.kind) (sym same) ∙ k.2.kind in
    let place : r.place ≡ a.0 = ap (λ (q : Running). q.place) (sym same) ∙ k.2.place in
    let far = mid_behind since x s a f rises k.1 in
    let left = left_now r e moment s.control (eq-eqb r.epoch s.control.epoch now) in
    by o is a k.1 number kind place (let up = behind_up x.past 0 since (omega arith) in omega (arith, far, up)) left
  where
    stops : (o : Outcome) → halts e ≡ true → Left r e s.control (done_running r e moment (at_next_place s.control)) → Lined (plain None x) (done_running r e moment (at_next_place s.control))
    stops o stop left = rw left.tasks (closed_lined r e s.control.saturated s.control.tasks x.book.waiting (behind x.past 0) stop h)

    by : (o : Outcome) → ended_of r.kind s.running_given o ≡ Some e → (a : Asked) → x.mid ≡ a ∷ [] → r.number ≡ length x.past → r.kind ≡ kind_of a.1 → r.place ≡ a.0 → behind x.past 0 ≤ a.0 → Left r e s.control (done_running r e moment (at_next_place s.control)) → Lined (done_course_is s.control.epoch r.number o s x) (done_running r e moment (at_next_place s.control))
    by (Outcome.Ran n) is a mid number kind place far left =
        let ran = ran_as r.kind s.running_given n e is in
        let tasks : (done_running r e moment (at_next_place s.control)).tasks ≡ with_ran r ran.units s.control.saturated s.control.tasks = left.tasks ∙ ap (λ (y : Ended). with_end r y s.control.saturated s.control.tasks) (sym ran.is) in
        let here = here_lined r ran.units s.control.saturated s.control.tasks x.book n a (done_running r e moment (at_next_place s.control)).tasks (behind x.past 0) ran.long place kind tasks far h in
        settled_lined x s a n r.number (done_running r e moment (at_next_place s.control)) f mid number here
    by Outcome.Refused is a mid number kind place far left = stops Outcome.Refused (other_halts r.kind s.running_given Outcome.Refused e refl is) left
    by (Outcome.NoSlot m) is a mid number kind place far left = stops (Outcome.NoSlot m) (other_halts r.kind s.running_given (Outcome.NoSlot m) e refl is) left
    by Outcome.NoMemory is a mid number kind place far left = stops Outcome.NoMemory (other_halts r.kind s.running_given Outcome.NoMemory e refl is) left

past_lined : (r : Running) (e : Ended) (item moment : ℕ) (o : Outcome) (x : Course) (s : State) → eqb r.epoch s.control.epoch ≡ false → Flow x s → Lined x s.control → Lined (done_course_is r.epoch item o s x) (done_running r e moment (at_next_place s.control))
past_lined r e item moment o x s old f h = by o (old_left r e moment s.control old)
  where
    by : (o : Outcome) → (done_running r e moment (at_next_place s.control)).tasks ≡ s.control.tasks → Lined (done_course_is r.epoch item o s x) (done_running r e moment (at_next_place s.control))
    by (Outcome.Ran n) tasks =
        let book : after_ran (Some (record { epoch = r.epoch; item = item; units = n })) x.book ≡ x.book = ap (λ (b : Bool). cond b (after_item n (slice_get x.book.calls item) x.book) x.book) (ap (λ (m : ℕ). eqb r.epoch m) f.epoch ∙ old) in
        same_lined x (settled r.epoch item n s x) s.control (done_running r e moment (at_next_place s.control)) (ap (λ (b : Book). b.waiting) book) (ap (λ (b : Bool). cond b (x.past ++ x.mid) x.past) old) tasks h
    by o tasks = same_lined x (plain None x) s.control (done_running r e moment (at_next_place s.control)) refl refl tasks h

done_lined : (r : Running) (e : Ended) (epoch item moment since : ℕ) (o : Outcome) (x : Course) (s : State) → s.control.running ≡ Some r → (eqb r.epoch epoch && eqb r.number item) ≡ true → ended_of r.kind s.running_given o ≡ Some e → Flow x s → Rising since x.works s.control.place → Lined x s.control → Lined (done_course_is epoch item o s x) (done_running r e moment (at_next_place s.control))
done_lined r e epoch item moment since o x s running own is f rises h =
    let parts = and_parts (eqb r.epoch epoch) (eqb r.number item) own in
    by (eqb r.epoch s.control.epoch) refl (eqb-true r.epoch epoch parts.0) (eqb-true r.number item parts.1)
  where
    by : (b : Bool) → eqb r.epoch s.control.epoch ≡ b → r.epoch ≡ epoch → r.number ≡ item → Lined (done_course_is epoch item o s x) (done_running r e moment (at_next_place s.control))
    by true t same number = let now = eqb-true r.epoch s.control.epoch t in subst (λ (n : ℕ). Lined (done_course_is n item o s x) (done_running r e moment (at_next_place s.control))) (sym now ∙ same) (subst (λ (n : ℕ). Lined (done_course_is s.control.epoch n o s x) (done_running r e moment (at_next_place s.control))) number (now_lined r e moment since o x s running now is f rises h))
    by false t same number = subst (λ (n : ℕ). Lined (done_course_is n item o s x) (done_running r e moment (at_next_place s.control))) same (past_lined r e item moment o x s t f h)

-- ---- each entry

abbrev Lines : Entry → State → State → Type 0
Lines e s t = (x : Course) (since : ℕ) → Flow x s → Rising since x.works s.control.place → Lined x s.control → Lined (course_after e s x) t.control

each_lined : EachStep Lines
each_lined = record {
  refused = λ who y error s may e x since f rises h. rw (refused_course who y error s x e) h;
  sent = λ who y w s m may e x since f rises h. rw (sent_course who y w s x m e) (sent_lined w x s.control (accepted y s.control) (call_sends y w s.control m) h);
  removes_all = λ who y s is e x since f rises h. rw (removal_course who y s x is e) (remove_lined y x s is);
  takes = λ who unit s may x since f rises h. h;
  grounds = λ who to s x since f rises h. h;
  start = λ i is epoch item s first may x since f rises h. h;
  done = λ r e epoch item moment o s running own is x since f rises h. subst (λ (y : Course). Lined y (done_running r e moment (at_next_place s.control))) (sym (done_course epoch item moment o s x)) (done_lined r e epoch item moment since o x s running own is f rises h);
  turn = λ t ts s first x since f rises h. rw (turn_course t ts s x first) (turn_lined t ts x s first h);
  reclaim = λ moment s may x since f rises h. reset_lined (at_next_place s.control);
}

pub step_lined : (e : Entry) (s t : State) → step e s ≡ Some t → Lines e s t
step_lined = by_steps Lines each_lined
