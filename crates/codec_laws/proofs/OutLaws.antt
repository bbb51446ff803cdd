-- What was shown since the last removal, and what is queued, is what the items that ran give; each output has its source.
use Rattle.std.proofs.Common.{ℕ, zero, suc, ◌≡◌, ◌+◌, ◌≤◌, ◌&&◌, not, Bool, true, false, eqb, cond, eq-eqb, List, [], ◌∷◌, ◌++◌, append_assoc, append-nil, length, length-append, take, drop, filter, slice_get, Option, Some, None, refl, ap, sym, subst, ◌∙◌, arith}
use Rattle.std.specs.Prelude.{unwrap_or}
use Rattle.std.proofs.lemmas.Bool.{and_parts, eqb-true}
use Rattle.wc_base.specs.{Options.some_same, Options.cond_is}
use Rattle.wc_config.specs.declared.config.AudioDecoderConfig.{AudioDecoderConfig}
use Rattle.codec_definitions.specs.declared.unit.Unit as media
use Rattle.codec_definitions.specs.declared.unit.Unit.TheVariants as unit
use Rattle.codec_model.specs.declared.entry.{WorkKind.WorkKind, Work.Work, Running.Running, Call.Call, Entry.Entry, Outcome.Outcome, Ended.Ended, Task.Task, Event.Event}
use Rattle.codec_model.specs.Control.{Control, kind_of, process_queue, at_next_place, done_running, is_dequeue, with_ran, with_end, with_output, halts, carried, active_after, after_reset}
use Rattle.codec_model.specs.Replay.{State, Given, nothing_given, given_more, answer_to, ended_of, ended_run, accepted, removes, step}
use Rattle.codec_model.specs.Shown.{outputs_from, units_in}
use Rattle.codec_model.specs.StepLaws.{by_items, by_removals, Sends, asked, call_sends, task_ran, EachStep, by_steps}
use Rattle.history_laws.specs.{OutputLaws.units_append}
use Rattle.codec_laws.specs.declared.source.Source.{Source}
use Rattle.codec_laws.specs.Sources.{Book, given_by, after_item, after_ran}
use Rattle.codec_laws.proofs.Course.{Asked, waiting_asked, kinds, given_all, Course, course_after, plain, turned, settled, fresh, done_course_is, turn_course_is, refused_course, sent_course, take_course, ground_course, removal_course, start_course, done_course, turn_course}
use Rattle.codec_laws.proofs.FlowLaws.{Flow, mid_now, given_more_all, other_halts}

-- the units that an item gives
abbrev pub yields : Work → Given → List media.Unit
yields w g = unwrap_or (answer_to (kind_of w) (given_more w g)) []

-- what items give, one after another
abbrev pub parts : List Asked → Given → List (List media.Unit)
parts [] g = []
parts (a ∷ qs) g = yields a.1 g ∷ parts qs (given_more a.1 g)

-- such lists as they are shown, one after another
abbrev pub shows_all : List (List media.Unit) → Option AudioDecoderConfig → List media.Unit
shows_all [] a = []
shows_all (us ∷ ps) a = carried a us ++ shows_all ps (active_after a us)

abbrev pub active_all : List (List media.Unit) → Option AudioDecoderConfig → Option AudioDecoderConfig
active_all [] a = a
active_all (us ∷ ps) a = active_all ps (active_after a us)

abbrev pub task_parts : List Task → List (List media.Unit)
task_parts [] = []
task_parts (Task.Output us ∷ ts) = us ∷ task_parts ts
task_parts (Task.Flushed promise us ∷ ts) = us ∷ task_parts ts
task_parts (t ∷ ts) = task_parts ts

-- the sources of what items give: after a configure at f, whose configuration gave n outputs
abbrev pub configure_of : List Asked → ℕ → ℕ
configure_of [] f = f
configure_of ((p, Work.Configure c) ∷ qs) f = configure_of qs p
configure_of ((p, w) ∷ qs) f = configure_of qs f

abbrev pub count_of : List Asked → Given → ℕ → ℕ
count_of [] g n = n
count_of ((p, Work.Configure c) ∷ qs) g n = count_of qs (given_more (Work.Configure c) g) 0
count_of ((p, w) ∷ qs) g n = count_of qs (given_more w g) (n + length (yields w g))

abbrev pub sources_of : List Asked → Given → ℕ → ℕ → List Source
sources_of [] g f n = []
sources_of ((p, Work.Configure c) ∷ qs) g f n = sources_of qs (given_more (Work.Configure c) g) p 0
sources_of ((p, w) ∷ qs) g f n = given_by p f n (length (yields w g)) ++ sources_of qs (given_more w g) f (n + length (yields w g))

pub record Outs (x : Course) (c : Control) : Type 0 where
  pub shown : x.units ++ shows_all (task_parts c.tasks) c.active ≡ shows_all (parts x.past nothing_given) None
  pub active : active_all (task_parts c.tasks) c.active ≡ active_all (parts x.past nothing_given) None
  pub counted : length x.sources ≡ length x.units
  pub sources : x.sources ++ x.book.waiting ≡ sources_of x.past nothing_given 0 0
  pub configure : x.book.configure ≡ configure_of x.past 0
  pub count : x.book.given ≡ count_of x.past nothing_given 0

-- ---- lists

pub task_parts_more : (ts : List Task) (t : Task) → task_parts (ts ++ t ∷ []) ≡ task_parts ts ++ task_parts (t ∷ [])
task_parts_more [] t = refl
task_parts_more (Task.Output us ∷ ts) t = ap (λ (ps : List (List media.Unit)). us ∷ ps) (task_parts_more ts t)
task_parts_more (Task.Flushed promise us ∷ ts) t = ap (λ (ps : List (List media.Unit)). us ∷ ps) (task_parts_more ts t)
task_parts_more (u ∷ ts) t = task_parts_more ts t

pub shows_more : (ps : List (List media.Unit)) (us : List media.Unit) (a : Option AudioDecoderConfig) → shows_all (ps ++ us ∷ []) a ≡ shows_all ps a ++ carried (active_all ps a) us
shows_more [] us a = append-nil (carried a us)
shows_more (vs ∷ ps) us a = ap (λ (l : List media.Unit). carried a vs ++ l) (shows_more ps us (active_after a vs)) ∙ sym (append_assoc (carried a vs) _ _)

pub active_more : (ps : List (List media.Unit)) (us : List media.Unit) (a : Option AudioDecoderConfig) → active_all (ps ++ us ∷ []) a ≡ active_after (active_all ps a) us
active_more [] us a = refl
active_more (vs ∷ ps) us a = active_more ps us (active_after a vs)

pub parts_more : (qs : List Asked) (a : Asked) (g : Given) → parts (qs ++ a ∷ []) g ≡ parts qs g ++ yields a.1 (given_all qs g) ∷ []
parts_more [] a g = refl
parts_more (b ∷ qs) a g = ap (λ (ps : List (List media.Unit)). yields b.1 g ∷ ps) (parts_more qs a (given_more b.1 g))

pub configure_more : (qs : List Asked) (a : Asked) (f : ℕ) → configure_of (qs ++ a ∷ []) f ≡ configure_of (a ∷ []) (configure_of qs f)
configure_more [] a f = refl
configure_more ((p, Work.Configure c) ∷ qs) a f = configure_more qs a p
configure_more ((p, Work.Coded input) ∷ qs) a f = configure_more qs a f
configure_more ((p, Work.Flush) ∷ qs) a f = configure_more qs a f

pub count_more : (qs : List Asked) (a : Asked) (g : Given) (n : ℕ) → count_of (qs ++ a ∷ []) g n ≡ count_of (a ∷ []) (given_all qs g) (count_of qs g n)
count_more [] a g n = refl
count_more ((p, Work.Configure c) ∷ qs) a g n = count_more qs a _ 0
count_more ((p, Work.Coded input) ∷ qs) a g n = count_more qs a _ _
count_more ((p, Work.Flush) ∷ qs) a g n = count_more qs a _ _

pub sources_more : (qs : List Asked) (a : Asked) (g : Given) (f n : ℕ) → sources_of (qs ++ a ∷ []) g f n ≡ sources_of qs g f n ++ sources_of (a ∷ []) (given_all qs g) (configure_of qs f) (count_of qs g n)
sources_more [] a g f n = refl
sources_more ((p, Work.Configure c) ∷ qs) a g f n = sources_more qs a _ p 0
sources_more ((p, Work.Coded input) ∷ qs) a g f n = ap (λ (l : List Source). given_by p f n (length (yields (Work.Coded input) g)) ++ l) (sources_more qs a _ f _) ∙ sym (append_assoc (given_by p f n (length (yields (Work.Coded input) g))) _ _)
sources_more ((p, Work.Flush) ∷ qs) a g f n = ap (λ (l : List Source). given_by p f n (length (yields Work.Flush g)) ++ l) (sources_more qs a _ f _) ∙ sym (append_assoc (given_by p f n (length (yields Work.Flush g))) _ _)

pub length-given_by : (p f n k : ℕ) → length (given_by p f n k) ≡ k
length-given_by p f n zero = refl
length-given_by p f n (suc k) = ap suc (length-given_by p f (n + 1) k)

pub carried_long : (a : Option AudioDecoderConfig) (us : List media.Unit) → length (carried a us) ≡ length us
carried_long a [] = refl
carried_long a (unit.Sound samples ∷ us) = refl
carried_long a (unit.Image picture ∷ us) = refl
carried_long a (unit.Coded chunk None ∷ us) = refl
carried_long a (unit.Coded chunk (Some c) ∷ us) = refl

-- a configure gives nothing
pub configure_yields : (w : Work) (g : Given) → kind_of w ≡ WorkKind.Configure → yields w g ≡ []
configure_yields (Work.Configure c) g h = by (answer_to WorkKind.Configure (given_more (Work.Configure c) g)) refl
  where
    by : (o : Option (List media.Unit)) → answer_to WorkKind.Configure (given_more (Work.Configure c) g) ≡ o → unwrap_or o [] ≡ []
    by None e = refl
    by (Some us) e = sym (some_same [] us (cond_is _ (Some []) us e).1)
configure_yields (Work.Coded input) g h = absurd cc
configure_yields Work.Flush g h = absurd cc

-- as many sources as outputs
sources_long : (qs : List Asked) (g : Given) (f n : ℕ) (a : Option AudioDecoderConfig) → length (sources_of qs g f n) ≡ length (shows_all (parts qs g) a)
sources_long [] g f n a = refl
sources_long ((p, Work.Configure c) ∷ qs) g f n a = rw (configure_yields (Work.Configure c) g refl) (sources_long qs _ p 0 a)
sources_long ((p, Work.Coded input) ∷ qs) g f n a = rw (length-append (given_by p f n (length (yields (Work.Coded input) g))), length-append (carried a (yields (Work.Coded input) g)), length-given_by, carried_long, sources_long qs (given_more (Work.Coded input) g) f (n + length (yields (Work.Coded input) g)) (active_after a (yields (Work.Coded input) g))) refl
sources_long ((p, Work.Flush) ∷ qs) g f n a = rw (length-append (given_by p f n (length (yields Work.Flush g))), length-append (carried a (yields Work.Flush g)), length-given_by, carried_long, sources_long qs (given_more Work.Flush g) f (n + length (yields Work.Flush g)) (active_after a (yields Work.Flush g))) refl

-- as many sources wait as outputs are queued
pub waiting_long : (x : Course) (c : Control) → Outs x c → length x.book.waiting ≡ length (shows_all (task_parts c.tasks) c.active)
waiting_long x c h =
    omega (arith, h.counted, length-append x.sources x.book.waiting, length-append x.units (shows_all (task_parts c.tasks) c.active), ap (λ (l : List Source). length l) h.sources, ap (λ (l : List media.Unit). length l) h.shown, sources_long x.past nothing_given 0 0 None)

-- ---- entries that leave what is queued

same_outs : (x y : Course) (c d : Control) → y.units ≡ x.units → y.past ≡ x.past → y.sources ≡ x.sources → y.book.waiting ≡ x.book.waiting → y.book.configure ≡ x.book.configure → y.book.given ≡ x.book.given → task_parts d.tasks ≡ task_parts c.tasks → d.active ≡ c.active → Outs x c → Outs y d
same_outs x y c d units past sources waiting configure given tasks active h = record {
  shown = rw (units, tasks, active, past) (h.shown);
  active = rw (tasks, active, past) (h.active);
  counted = rw (sources, units) (h.counted);
  sources = rw (sources, waiting, past) (h.sources);
  configure = rw past (configure ∙ h.configure);
  count = rw past (given ∙ h.count);
}

event_parts : (event : Bool) (ts : List Task) → task_parts (cond event (ts ++ Task.Dequeue ∷ []) ts) ≡ task_parts ts
event_parts true ts = task_parts_more ts Task.Dequeue ∙ append-nil (task_parts ts)
event_parts false ts = refl

-- what processing leaves
record Queued (c d : Control) : Type 0 where
  tasks : task_parts d.tasks ≡ task_parts c.tasks
  active : d.active ≡ c.active

processed : (c : Control) → Queued c (process_queue c.messages c)
processed c = by_items (λ (d : Control). Queued c d) (λ m ms d blocked saturated scheduled event size few e h. record { tasks = event_parts event d.tasks ∙ h.tasks; active = h.active }) c.messages c refl (record { tasks = refl; active = refl })

sent_outs : (w : Work) (x : Course) (c d : Control) → Sends w c d → Outs x c → Outs (plain (Some w) x) d
sent_outs w x c d k h =
    let before = asked c k.phase k.key_required k.size k.pending in
    let q = processed (record before { messages = before.messages ++ record { place = c.place; work = w } ∷ [] }) in
    rw k.is (same_outs x (plain (Some w) x) c _ refl refl refl refl refl refl q.tasks q.active h)

-- ---- removals

dequeue_parts : (ts : List Task) → task_parts (filter is_dequeue ts) ≡ []
dequeue_parts [] = refl
dequeue_parts (Task.Unblock ∷ ts) = dequeue_parts ts
dequeue_parts (Task.Process ∷ ts) = dequeue_parts ts
dequeue_parts (Task.Desaturate ∷ ts) = dequeue_parts ts
dequeue_parts (Task.Output units ∷ ts) = dequeue_parts ts
dequeue_parts (Task.Flushed promise units ∷ ts) = dequeue_parts ts
dequeue_parts (Task.Dequeue ∷ ts) = dequeue_parts ts
dequeue_parts (Task.Close error ∷ ts) = dequeue_parts ts

reset_parts : (c : Control) → task_parts (after_reset c).tasks ≡ []
reset_parts c = event_parts (not (eqb c.size 0) && not c.scheduled) (filter is_dequeue c.tasks) ∙ dequeue_parts c.tasks

removed_outs : (x : Course) (d : Control) → task_parts d.tasks ≡ [] → d.active ≡ None → Outs (fresh x) d
removed_outs x d tasks active = record {
  shown = rw tasks refl;
  active = rw (tasks, active) refl;
  counted = refl;
  sources = refl;
  configure = refl;
  count = refl;
}

remove_outs : (y : Call) (x : Course) (s : State) → removes y ≡ true → Outs (fresh x) (accepted y s.control)
remove_outs y x s is = by_removals (λ y. Outs (fresh x) (accepted y s.control)) (removed_outs x _ (reset_parts (at_next_place s.control)) refl) (removed_outs x _ (reset_parts (at_next_place s.control)) refl) y is

-- ---- turns

pub output_units : (n : ℕ) (us : List media.Unit) → units_in (outputs_from n us) ≡ us
output_units n [] = refl
output_units n (u ∷ us) = ap (λ (l : List media.Unit). u ∷ l) (output_units (n + 1) us)

pub flushed_units : (n promise : ℕ) (us : List media.Unit) → units_in (outputs_from n us ++ Event.Resolve promise ∷ []) ≡ us
flushed_units n promise us = units_append (outputs_from n us) (Event.Resolve promise ∷ []) ∙ (append-nil (units_in (outputs_from n us)) ∙ output_units n us)

pub take_and_drop : {X : Type 0} (n : ℕ) (xs : List X) → take n xs ++ drop n xs ≡ xs
take_and_drop zero xs = refl
take_and_drop (suc n) [] = refl
take_and_drop {X} (suc n) (x ∷ xs) = ap (λ (l : List X). x ∷ l) (take_and_drop n xs)

length-take_front : {X : Type 0} (n : ℕ) (xs : List X) → n ≤ length xs → length (take n xs) ≡ n
length-take_front zero xs h = refl
length-take_front (suc n) [] h = absurd (omega (arith, h))
length-take_front (suc n) (x ∷ xs) h = ap suc (length-take_front n xs (omega (arith, h)))

-- the front task's outputs are shown
shown_outs : (us : List media.Unit) (x : Course) (c d : Control) → task_parts c.tasks ≡ us ∷ task_parts d.tasks → d.active ≡ active_after c.active us → Outs x c → Outs (turned (carried c.active us) x) d
shown_outs us x c d tasks active h =
    let long = waiting_long x c h in
    let first : length (shows_all (task_parts c.tasks) c.active) ≡ length (carried c.active us) + length (shows_all (task_parts d.tasks) (active_after c.active us)) = rw tasks (length-append (carried c.active us) _) in
    let few : length (carried c.active us) ≤ length x.book.waiting = omega (arith, long, first) in
    record {
      shown = rw (append_assoc, active) (rw tasks at h.shown);
      active = rw active (rw tasks at h.active);
      counted = rw (length-append x.sources, length-append x.units, h.counted, length-take_front (length (carried c.active us)) x.book.waiting few) refl;
      sources = rw (append_assoc, take_and_drop (length (carried c.active us)) x.book.waiting) (h.sources);
      configure = h.configure;
      count = h.count;
    }

silent_outs : (x : Course) (c d : Control) → task_parts d.tasks ≡ task_parts c.tasks → d.active ≡ c.active → Outs x c → Outs (turned [] x) d
silent_outs x c d tasks active h = same_outs x (turned [] x) c d (append-nil x.units) refl (append-nil x.sources) refl refl refl tasks active h

turn_outs : (t : Task) (ts : List Task) (x : Course) (s : State) → s.control.tasks ≡ t ∷ ts → Outs x s.control → Outs (turn_course_is t s x) (task_ran t ts s).control
turn_outs Task.Unblock ts x s first h = silent_outs x s.control _ (rw first (task_parts_more ts Task.Process ∙ append-nil (task_parts ts))) refl h
turn_outs Task.Process ts x s first h = let q = processed (record (at_next_place s.control) { tasks = ts }) in silent_outs x s.control _ (rw first q.tasks) q.active h
turn_outs Task.Desaturate ts x s first h = let q = processed (record (at_next_place s.control) { tasks = ts; saturated = false }) in silent_outs x s.control _ (rw first q.tasks) q.active h
turn_outs (Task.Output us) ts x s first h = rw (output_units s.control.shown (carried s.control.active us)) (shown_outs us x s.control _ (ap task_parts first) refl h)
turn_outs (Task.Flushed promise us) ts x s first h = rw (flushed_units s.control.shown promise (carried s.control.active us)) (shown_outs us x s.control _ (ap task_parts first) refl h)
turn_outs Task.Dequeue ts x s first h = silent_outs x s.control _ (rw first refl) refl h
turn_outs (Task.Close error) ts x s first h = removed_outs x _ (reset_parts (record (at_next_place s.control) { tasks = ts })) refl

-- ---- ends of items

desaturated_parts : (b : Bool) (ts : List Task) → task_parts (cond b (ts ++ Task.Desaturate ∷ []) ts) ≡ task_parts ts
desaturated_parts true ts = task_parts_more ts Task.Desaturate ∙ append-nil (task_parts ts)
desaturated_parts false ts = refl

-- what is queued behind these parts
record Adds (ps qs : List (List media.Unit)) (us : List media.Unit) : Type 0 where
  shown : (a : Option AudioDecoderConfig) → shows_all qs a ≡ shows_all ps a ++ carried (active_all ps a) us
  active : (a : Option AudioDecoderConfig) → active_all qs a ≡ active_after (active_all ps a) us

adds_none : (ps qs : List (List media.Unit)) → qs ≡ ps → Adds ps qs []
adds_none ps qs same = record { shown = λ a. rw same (sym (append-nil (shows_all ps a))); active = λ a. rw same refl }

adds_one : (ps qs : List (List media.Unit)) (us : List media.Unit) → qs ≡ ps ++ us ∷ [] → Adds ps qs us
adds_one ps qs us same = record { shown = λ a. rw same (shows_more ps us a); active = λ a. rw same (active_more ps us a) }

none_long : (us : List media.Unit) → length us ≡ 0 → us ≡ []
none_long [] h = refl
none_long (u ∷ us) h = absurd (omega (arith, h))

output_adds : (us : List media.Unit) (ts vs : List Task) → task_parts vs ≡ task_parts ts → Adds (task_parts ts) (task_parts (with_output us vs)) us
output_adds us ts vs same = by (eqb (length us) 0) refl
  where
    by : (b : Bool) → eqb (length us) 0 ≡ b → Adds (task_parts ts) (task_parts (cond b vs (vs ++ Task.Output us ∷ []))) us
    by true e = subst (λ (l : List media.Unit). Adds (task_parts ts) (task_parts vs) l) (sym (none_long us (eqb-true (length us) 0 e))) (adds_none _ _ same)
    by false e = adds_one _ _ us (task_parts_more vs (Task.Output us) ∙ ap (λ (ps : List (List media.Unit)). ps ++ us ∷ []) same)

ran_adds : (epoch number place : ℕ) (k : WorkKind) (us : List media.Unit) (b : Bool) (ts : List Task) → (k ≡ WorkKind.Configure → us ≡ []) → Adds (task_parts ts) (task_parts (with_ran (record { epoch = epoch; number = number; place = place; kind = k }) us b ts)) us
ran_adds epoch number place WorkKind.Configure us b ts none = rw (none refl) (adds_none _ _ (task_parts_more ts Task.Unblock ∙ append-nil (task_parts ts)))
ran_adds epoch number place WorkKind.Coded us b ts none = output_adds us ts _ (desaturated_parts _ ts)
ran_adds epoch number place WorkKind.Flush us b ts none = adds_one _ _ us (task_parts_more ts (Task.Flushed place us))

-- the call of the item at work, among the calls
pub kinds_at : (past : List Asked) (a : Asked) (rest : List Asked) → slice_get (kinds ((past ++ a ∷ []) ++ rest)) (length past) ≡ Some (a.0, kind_of a.1)
kinds_at [] a rest = refl
kinds_at (b ∷ past) a rest = kinds_at past a rest

-- where the outputs of an item that ran come from
record Sourced (x : Course) (a : Asked) (b : Book) : Type 0 where
  sources : x.sources ++ b.waiting ≡ sources_of (x.past ++ a ∷ []) nothing_given 0 0
  configure : b.configure ≡ configure_of (x.past ++ a ∷ []) 0
  count : b.given ≡ count_of (x.past ++ a ∷ []) nothing_given 0

sourced : (x : Course) (c : Control) (p : ℕ) (w : Work) (n : ℕ) → n ≡ length (yields w (given_all x.past nothing_given)) → Outs x c → Sourced x (p, w) (after_item n (Some (p, kind_of w)) x.book)
sourced x c p (Work.Configure config) n long h = record {
  sources = h.sources ∙ sym (sources_more x.past (p, Work.Configure config) nothing_given 0 0 ∙ append-nil (sources_of x.past nothing_given 0 0));
  configure = sym (configure_more x.past (p, Work.Configure config) 0);
  count = sym (count_more x.past (p, Work.Configure config) nothing_given 0);
}
sourced x c p (Work.Coded input) n long h = record {
  sources = sym (append_assoc x.sources x.book.waiting _) ∙ (rw (h.sources, h.configure, h.count, long) (sym (sources_more x.past (p, Work.Coded input) nothing_given 0 0 ∙ ap (λ (l : List Source). sources_of x.past nothing_given 0 0 ++ l) (append-nil _))));
  configure = h.configure ∙ sym (configure_more x.past (p, Work.Coded input) 0);
  count = rw (h.count, long) (sym (count_more x.past (p, Work.Coded input) nothing_given 0));
}
sourced x c p Work.Flush n long h = record {
  sources = sym (append_assoc x.sources x.book.waiting _) ∙ (rw (h.sources, h.configure, h.count, long) (sym (sources_more x.past (p, Work.Flush) nothing_given 0 0 ∙ ap (λ (l : List Source). sources_of x.past nothing_given 0 0 ++ l) (append-nil _))));
  configure = h.configure ∙ sym (configure_more x.past (p, Work.Flush) 0);
  count = rw (h.count, long) (sym (count_more x.past (p, Work.Flush) nothing_given 0));
}

-- the item of this epoch ran
ran_outs : (x : Course) (s : State) (a : Asked) (us : List media.Unit) (item : ℕ) (d : Control) → Flow x s → x.mid ≡ a ∷ [] → item ≡ length x.past → yields a.1 (given_all x.past nothing_given) ≡ us → Adds (task_parts s.control.tasks) (task_parts d.tasks) us → d.active ≡ s.control.active → Outs x s.control → Outs (settled s.control.epoch item (length us) s x) d
ran_outs x s a us item d f mid number yield adds active h =
    let calls : slice_get x.book.calls item ≡ Some (a.0, kind_of a.1) = rw (f.calls, f.works, mid, number) (kinds_at x.past a (waiting_asked s.control)) in
    let from = sourced x s.control a.0 a.1 (length us) (ap (λ (l : List media.Unit). length l) (sym yield)) h in
    rw (eq-eqb s.control.epoch s.control.epoch refl, eq-eqb s.control.epoch x.book.epoch (sym f.epoch), calls, mid) (record {
      shown = rw (active, adds.shown s.control.active, ← append_assoc, h.shown, h.active, parts_more x.past a nothing_given, shows_more (parts x.past nothing_given) _ None, yield) refl;
      active = rw (active, adds.active s.control.active, h.active, parts_more x.past a nothing_given, active_more (parts x.past nothing_given) _ None, yield) refl;
      counted = h.counted;
      sources = from.sources;
      configure = from.configure;
      count = from.count;
    })

-- an item that ran, as its answer has it
pub record RanAs (k : WorkKind) (g : Given) (n : ℕ) (e : Ended) : Type 0 where
  pub units : List media.Unit
  pub answered : answer_to k g ≡ Some units
  pub long : n ≡ length units
  pub is : Ended.Ran units ≡ e

pub ran_as : (k : WorkKind) (g : Given) (n : ℕ) (e : Ended) → ended_of k g (Outcome.Ran n) ≡ Some e → RanAs k g n e
ran_as k g n e h = by (answer_to k g) refl h
  where
    by : (o : Option (List media.Unit)) → answer_to k g ≡ o → ended_run n o ≡ Some e → RanAs k g n e
    by None is h = absurd cc
    by (Some us) is h = let c = cond_is (eqb n (length us)) (Some (Ended.Ran us)) e h in record { units = us; answered = is; long = eqb-true n (length us) c.0; is = some_same (Ended.Ran us) e c.1 }

-- an item that did not run closes the codec
closing_parts : (r : Running) (e : Ended) (b : Bool) (ts : List Task) → halts e ≡ true → task_parts (with_end r e b ts) ≡ task_parts ts
closing_parts r (Ended.Ran us) b ts h = absurd cc
closing_parts r Ended.Refused b ts h = task_parts_more ts (Task.Close _) ∙ append-nil (task_parts ts)
closing_parts r (Ended.NoSlot n) b ts h = task_parts_more ts (Task.Close _) ∙ append-nil (task_parts ts)
closing_parts r Ended.NoMemory b ts h = task_parts_more ts (Task.Close _) ∙ append-nil (task_parts ts)

-- what the end of an item leaves
pub record Left (r : Running) (e : Ended) (c d : Control) : Type 0 where
  pub tasks : d.tasks ≡ with_end r e c.saturated c.tasks
  pub active : d.active ≡ c.active

pub left_now : (r : Running) (e : Ended) (moment : ℕ) (c : Control) → eqb r.epoch c.epoch ≡ true → Left r e c (done_running r e moment (at_next_place c))
left_now r e moment c now = rw now (record { tasks = refl; active = refl })

pub old_left : (r : Running) (e : Ended) (moment : ℕ) (c : Control) → eqb r.epoch c.epoch ≡ false → (done_running r e moment (at_next_place c)).tasks ≡ c.tasks
old_left r e moment c old = rw old refl

old_active : (r : Running) (e : Ended) (moment : ℕ) (c : Control) → eqb r.epoch c.epoch ≡ false → (done_running r e moment (at_next_place c)).active ≡ c.active
old_active r e moment c old = rw old refl

now_outs : (r : Running) (e : Ended) (moment : ℕ) (o : Outcome) (x : Course) (s : State) → s.control.running ≡ Some r → r.epoch ≡ s.control.epoch → ended_of r.kind s.running_given o ≡ Some e → Flow x s → Outs x s.control → Outs (done_course_is s.control.epoch r.number o s x) (done_running r e moment (at_next_place s.control))
now_outs r e moment o x s running now is f h =
    let k = mid_now x.mid (length x.past) s r running now f.mid in
    let a = k.0 in
    let same : k.2.r ≡ r = some_same k.2.r r (sym k.2.is ∙ running) in
    let number : r.number ≡ length x.past = ap (λ (q : Running). q.number) (sym same) ∙ k.2.number in
    let kind : r.kind ≡ kind_of a.1 = ap (λ (q : Running). q.kind) (sym same) ∙ k.2.kind in
    let given : s.running_given ≡ given_more a.1 (given_all x.past nothing_given) = k.2.same ∙ (f.given ∙ (ap (λ (qs : List Asked). given_all (x.past ++ qs) nothing_given) k.1 ∙ given_more_all x.past a nothing_given)) in
    let left = left_now r e moment s.control (eq-eqb r.epoch s.control.epoch now) in
    by o is a k.1 number kind given left
  where
    stops : (o : Outcome) → halts e ≡ true → Left r e s.control (done_running r e moment (at_next_place s.control)) → Outs (plain None x) (done_running r e moment (at_next_place s.control))
    stops o stop left = same_outs x (plain None x) s.control _ refl refl refl refl refl refl (ap task_parts left.tasks ∙ closing_parts r e s.control.saturated s.control.tasks stop) left.active h

    by : (o : Outcome) → ended_of r.kind s.running_given o ≡ Some e → (a : Asked) → x.mid ≡ a ∷ [] → r.number ≡ length x.past → r.kind ≡ kind_of a.1 → s.running_given ≡ given_more a.1 (given_all x.past nothing_given) → Left r e s.control (done_running r e moment (at_next_place s.control)) → Outs (done_course_is s.control.epoch r.number o s x) (done_running r e moment (at_next_place s.control))
    by (Outcome.Ran n) is a mid number kind given left =
        let ran = ran_as r.kind s.running_given n e is in
        let same : answer_to (kind_of a.1) (given_more a.1 (given_all x.past nothing_given)) ≡ answer_to r.kind s.running_given = sym (ap (λ (w : WorkKind). answer_to w s.running_given) kind ∙ ap (λ (g : Given). answer_to (kind_of a.1) g) given) in
        let yield : yields a.1 (given_all x.past nothing_given) ≡ ran.units = ap (λ (o : Option (List media.Unit)). unwrap_or o []) (same ∙ ran.answered) in
        let none : r.kind ≡ WorkKind.Configure → ran.units ≡ [] = λ configures. sym yield ∙ configure_yields a.1 (given_all x.past nothing_given) (sym kind ∙ configures) in
        let adds = ran_adds r.epoch r.number r.place r.kind ran.units s.control.saturated s.control.tasks none in
        let tasks : task_parts (done_running r e moment (at_next_place s.control)).tasks ≡ task_parts (with_ran r ran.units s.control.saturated s.control.tasks) = ap task_parts (left.tasks ∙ ap (λ (y : Ended). with_end r y s.control.saturated s.control.tasks) (sym ran.is)) in
        rw ran.long (ran_outs x s a ran.units r.number _ f mid number yield (subst (λ (ps : List (List media.Unit)). Adds (task_parts s.control.tasks) ps ran.units) (sym tasks) adds) left.active h)
    by Outcome.Refused is a mid number kind given left = stops Outcome.Refused (other_halts r.kind s.running_given Outcome.Refused e refl is) left
    by (Outcome.NoSlot m) is a mid number kind given left = stops (Outcome.NoSlot m) (other_halts r.kind s.running_given (Outcome.NoSlot m) e refl is) left
    by Outcome.NoMemory is a mid number kind given left = stops Outcome.NoMemory (other_halts r.kind s.running_given Outcome.NoMemory e refl is) left

past_outs : (r : Running) (e : Ended) (item moment : ℕ) (o : Outcome) (x : Course) (s : State) → eqb r.epoch s.control.epoch ≡ false → Flow x s → Outs x s.control → Outs (done_course_is r.epoch item o s x) (done_running r e moment (at_next_place s.control))
past_outs r e item moment o x s old f h = by o (ap task_parts (old_left r e moment s.control old)) (old_active r e moment s.control old)
  where
    by : (o : Outcome) → task_parts (done_running r e moment (at_next_place s.control)).tasks ≡ task_parts s.control.tasks → (done_running r e moment (at_next_place s.control)).active ≡ s.control.active → Outs (done_course_is r.epoch item o s x) (done_running r e moment (at_next_place s.control))
    by (Outcome.Ran n) tasks active =
        let book : after_ran (Some (record { epoch = r.epoch; item = item; units = n })) x.book ≡ x.book = ap (λ (b : Bool). cond b (after_item n (slice_get x.book.calls item) x.book) x.book) (ap (λ (m : ℕ). eqb r.epoch m) f.epoch ∙ old) in
        same_outs x (settled r.epoch item n s x) s.control _ refl (ap (λ (b : Bool). cond b (x.past ++ x.mid) x.past) old) refl (ap (λ (b : Book). b.waiting) book) (ap (λ (b : Book). b.configure) book) (ap (λ (b : Book). b.given) book) tasks active h
    by o tasks active = same_outs x (plain None x) s.control _ refl refl refl refl refl refl tasks active h

done_outs : (r : Running) (e : Ended) (epoch item moment : ℕ) (o : Outcome) (x : Course) (s : State) → s.control.running ≡ Some r → (eqb r.epoch epoch && eqb r.number item) ≡ true → ended_of r.kind s.running_given o ≡ Some e → Flow x s → Outs x s.control → Outs (done_course_is epoch item o s x) (done_running r e moment (at_next_place s.control))
done_outs r e epoch item moment o x s running own is f h =
    let parts = and_parts (eqb r.epoch epoch) (eqb r.number item) own in
    by (eqb r.epoch s.control.epoch) refl (eqb-true r.epoch epoch parts.0) (eqb-true r.number item parts.1)
  where
    by : (b : Bool) → eqb r.epoch s.control.epoch ≡ b → r.epoch ≡ epoch → r.number ≡ item → Outs (done_course_is epoch item o s x) (done_running r e moment (at_next_place s.control))
    by true t same number = let now = eqb-true r.epoch s.control.epoch t in subst (λ (n : ℕ). Outs (done_course_is n item o s x) (done_running r e moment (at_next_place s.control))) (sym now ∙ same) (subst (λ (n : ℕ). Outs (done_course_is s.control.epoch n o s x) (done_running r e moment (at_next_place s.control))) number (now_outs r e moment o x s running now is f h))
    by false t same number = subst (λ (n : ℕ). Outs (done_course_is n item o s x) (done_running r e moment (at_next_place s.control))) same (past_outs r e item moment o x s t f h)

-- ---- each entry

each_outs : EachStep (λ e s t. (x : Course) → Flow x s → Outs x s.control → Outs (course_after e s x) t.control)
each_outs = record {
  refused = λ who y error s may e x f h. rw (refused_course who y error s x e) (same_outs x _ s.control _ refl refl refl refl refl refl refl refl h);
  sent = λ who y w s m may e x f h. rw (sent_course who y w s x m e) (sent_outs w x s.control (accepted y s.control) (call_sends y w s.control m) h);
  removes_all = λ who y s is e x f h. rw (removal_course who y s x is e) (remove_outs y x s is);
  takes = λ who unit s may x f h. rw (take_course who unit s x) (same_outs x _ s.control _ refl refl refl refl refl refl refl refl h);
  grounds = λ who to s x f h. rw (ground_course who to s x) (same_outs x _ s.control _ refl refl refl refl refl refl refl refl h);
  start = λ i is epoch item s first may x f h. rw (start_course epoch item s x) (same_outs x _ s.control _ refl refl refl refl refl refl refl refl h);
  done = λ r e epoch item moment o s running own is x f h. rw (done_course epoch item moment o s x) (done_outs r e epoch item moment o x s running own is f h);
  turn = λ t ts s first x f h. rw (turn_course t ts s x first) (turn_outs t ts x s first h);
  reclaim = λ moment s may x f h. removed_outs x _ (reset_parts (at_next_place s.control)) refl;
}

pub step_outs : (e : Entry) (s t : State) → step e s ≡ Some t → (x : Course) → Flow x s → Outs x s.control → Outs (course_after e s x) t.control
step_outs = by_steps (λ e s t. (x : Course) → Flow x s → Outs x s.control → Outs (course_after e s x) t.control) each_outs
