-- No legal history is stuck: what may come next, and what is done where nothing is left.
use Rattle.std.proofs.Common.{ℕ, zero, suc, ◌≡◌, ◌+◌, ◌≤◌, ◌&&◌, not, Bool, true, false, eqb, cond, eq-eqb, subst, List, [], ◌∷◌, ◌++◌, length, count_by, Option, Some, None, is_some, is_none, refl, ap, sym, ◌∙◌, arith}
use Rattle.std.specs.Prelude.{option_map, option_and_then, unwrap_or, slice_get}
use Rattle.std.specs.List.{sum_by}
use Rattle.std.proofs.lemmas.Bool.{and_from}
use Rattle.std.proofs.lemmas.List.Sums.{sum_by-cons}
use Rattle.wc_base.specs.{declared.who.Who.Who, Options.some_same}
use Rattle.codec_definitions.specs.declared.unit.Unit as media
use Rattle.codec_model.specs.declared.entry.{Opening.Opening, Entry.Entry, Call.Call, Item.Item, Running.Running, Task.Task, Outcome.Outcome, Ended.Ended, WorkKind.WorkKind}
use Rattle.codec_model.specs.Control.{Control, task_weight, running_weight, left, is_close, may_start}
use Rattle.codec_model.specs.Replay.{State, Given, opening_state, step, start_step, done_step, done_ended, turn_step, answer_to, ended_of, ended_run, ended_refused, replay, replay_from, IsLegal}
use Rattle.codec_model.specs.Shown.{shown_at}
use Rattle.codec_model.specs.ShownLaws.{replay_append}
use Rattle.codec_model.specs.Facts.{bit, IsNeverStuck, IsQuiet, EndsQuiet, Always, LeavesFewer}
use Rattle.codec_laws.specs.Sights.{sight_of, sights_from}
use Rattle.codec_laws.specs.Left.{left_after, IsQuietAfter, wants, GoesOn, size_from, IsAllDone, NothingStuck}
use Rattle.codec_laws.proofs.PromiseLaws.{EndedBy, count, flushed_at, flushes_from, few_flushes, ends_balance}
use Rattle.codec_laws.proofs.OldLaws.{opening_course, opening_flow}
use Rattle.codec_laws.proofs.EndLaws.{opening_promises, legal_state}

-- ---- nothing is left

some_weight : (t : Task) → 1 ≤ task_weight t
some_weight Task.Unblock = omega arith
some_weight t = omega arith

no_tasks : (ts : List Task) → sum_by task_weight ts ≡ 0 → ts ≡ []
no_tasks [] h = refl
no_tasks (t ∷ ts) h = absurd (let all = sum_by-cons task_weight t ts in omega (arith, all, h, some_weight t))

none_there : {X : Type 0} (xs : List X) → length xs ≡ 0 → xs ≡ []
none_there [] h = refl
none_there (x ∷ xs) h = absurd (omega (arith, h))

none_runs : (o : Option Running) → running_weight o ≡ 0 → o ≡ None
none_runs None h = refl
none_runs (Some r) h = absurd (omega (arith, h))

quiet_by : (c : Control) → left c ≡ 0 → IsQuiet c
quiet_by c h = record {
  no_work = none_there c.work (omega (arith, h));
  idle = none_runs c.running (omega (arith, h));
  no_tasks = no_tasks c.tasks (omega (arith, h));
}

nothing_by : (c : Control) → IsQuiet c → EndsQuiet c → left c ≡ 0
nothing_by c quiet ends =
    let messages : length c.messages ≡ 0 = ap length (ends quiet).no_messages in
    let work : length c.work ≡ 0 = ap length quiet.no_work in
    let running : running_weight c.running ≡ 0 = ap running_weight quiet.idle in
    let tasks : sum_by task_weight c.tasks ≡ 0 = ap (sum_by task_weight) quiet.no_tasks in
    omega (arith, messages, work, running, tasks)

pub left_is : (o : Opening) (h : List Entry) (s : State) → replay o h ≡ Some s → left_after o h ≡ left s.control
left_is o h s is = ap (λ (u : Option State). unwrap_or (option_map (λ (t : State). left t.control) u) 0) is

-- the state of a history is one
same_state : (o : Opening) (h : List Entry) (s : State) → replay o h ≡ Some s → (q : IsQuietAfter o h) → IsQuiet s.control
same_state o h s is q = subst (λ (u : State). IsQuiet u.control) (some_same q.state s (sym q.replays ∙ is)) q.quiet

-- ---- what may come next

may_follow : (o : Opening) (h : List Entry) (s : State) (e : Entry) → replay o h ≡ Some s → is_some (step e s) ≡ true → IsLegal o (h ++ e ∷ [])
may_follow o h s e is fine = ap is_some (replay_append o h e s is) ∙ fine

-- an end of an item, as the codec's definition answers
pub record AnEnd (k : WorkKind) (g : Given) : Type 0 where
  pub outcome : Outcome
  pub end : Ended
  pub legal : ended_of k g outcome ≡ Some end
  pub wants_nothing : (epoch item : ℕ) → wants (Entry.Done epoch item 0 outcome) ≡ false

an_end : (k : WorkKind) (g : Given) → AnEnd k g
an_end k g = by (answer_to k g) refl
  where
    by : (a : Option (List media.Unit)) → answer_to k g ≡ a → AnEnd k g
    by None is = record { outcome = Outcome.Refused; end = Ended.Refused; legal = ap ended_refused is; wants_nothing = λ epoch item. refl }
    by (Some us) is = record { outcome = Outcome.Ran (length us); end = Ended.Ran us; legal = ap (ended_run (length us)) is ∙ ap (λ (b : Bool). cond b (Some (Ended.Ran us)) None) (eq-eqb (length us) (length us) refl); wants_nothing = λ epoch item. refl }

both : (a b : ℕ) → (eqb a a && eqb b b) ≡ true
both a b = and_from (eqb a a) (eqb b b) (eq-eqb a a refl) (eq-eqb b b refl)

ends_next : (r : Running) (s : State) (x : Outcome) (e : Ended) → s.control.running ≡ Some r → ended_of r.kind s.running_given x ≡ Some e → is_some (step (Entry.Done r.epoch r.number 0 x) s) ≡ true
ends_next r s x e is legal =
    ap (λ (o : Option Running). is_some (done_step o r.epoch r.number 0 x s)) is
    ∙ (ap (λ (b : Bool). is_some (cond b (done_ended r (ended_of r.kind s.running_given x) 0 s) None)) (both r.epoch r.number)
    ∙ ap (λ (o : Option Ended). is_some (done_ended r o 0 s)) legal)

turns_next : (t : Task) (ts : List Task) (s : State) → s.control.tasks ≡ t ∷ ts → is_some (step Entry.Turn s) ≡ true
turns_next t ts s is = ap (λ (us : List Task). is_some (turn_step us s)) is ∙ by t
  where
    by : (t : Task) → is_some (turn_step (t ∷ ts) s) ≡ true
    by (Task.Close error) = refl
    by t = refl

some_of : {X : Type 0} (b : Bool) (x : X) → b ≡ true → is_some (cond b (Some x) None) ≡ true
some_of true x h = refl
some_of false x h = absurd cc

starts_next : (i : Item) (is : List Item) (s : State) → s.control.work ≡ i ∷ is → may_start s.control ≡ true → is_some (step (Entry.Start s.control.epoch i.number) s) ≡ true
starts_next i is s work may =
    ap (λ (js : List Item). is_some (start_step js s.control.epoch i.number s)) work
    ∙ some_of _ _ (and_from (may_start s.control && eqb s.control.epoch s.control.epoch) (eqb i.number i.number) (and_from (may_start s.control) (eqb s.control.epoch s.control.epoch) may (eq-eqb s.control.epoch s.control.epoch refl)) (eq-eqb i.number i.number refl))

awake_of : (b : Bool) → 0 ≡ bit b → b ≡ false
awake_of true h = absurd (omega (arith, h))
awake_of false h = refl

may_start_by : (c : Control) → c.running ≡ None → c.halted ≡ false → may_start c ≡ true
may_start_by c idle awake = ap (λ (o : Option Running). is_none o && not c.halted) idle ∙ ap not awake

module _ (o : Opening) (h : List Entry) (s : State) (is : replay o h ≡ Some s) where
  ends_on : (r : Running) → s.control.running ≡ Some r → GoesOn o h
  ends_on r runs =
      let e = an_end r.kind s.running_given in
      record { next = Entry.Done r.epoch r.number 0 e.outcome; is = refl; wants_nothing = e.wants_nothing r.epoch r.number; legal = may_follow o h s _ is (ends_next r s e.outcome e.end runs e.legal) }

  turns_on : (t : Task) (ts : List Task) → s.control.tasks ≡ t ∷ ts → GoesOn o h
  turns_on t ts tasks = record { next = Entry.Turn; is = refl; wants_nothing = refl; legal = may_follow o h s _ is (turns_next t ts s tasks) }

  starts_on : (i : Item) (js : List Item) → s.control.work ≡ i ∷ js → may_start s.control ≡ true → GoesOn o h
  starts_on i js work may = record { next = Entry.Start s.control.epoch i.number; is = refl; wants_nothing = refl; legal = may_follow o h s _ is (starts_next i js s work may) }

  goes_on : IsNeverStuck s.control → EndsQuiet s.control → 1 ≤ left s.control → GoesOn o h
  goes_on facts ends some = by_running s.control.running refl
    where
      by_work : (js : List Item) → s.control.work ≡ js → s.control.running ≡ None → s.control.tasks ≡ [] → GoesOn o h
      by_work (i ∷ js) work idle tasks = starts_on i js work (may_start_by s.control idle (awake_of s.control.halted (sym (ap (count_by is_close) tasks) ∙ facts.halts.closes)))
      by_work [] work idle tasks = absurd (let none = nothing_by s.control (record { no_work = work; idle = idle; no_tasks = tasks }) ends in omega (arith, none, some))

      by_tasks : (ts : List Task) → s.control.tasks ≡ ts → s.control.running ≡ None → GoesOn o h
      by_tasks (t ∷ ts) tasks idle = turns_on t ts tasks
      by_tasks [] tasks idle = by_work s.control.work refl idle tasks

      by_running : (u : Option Running) → s.control.running ≡ u → GoesOn o h
      by_running (Some r) runs = ends_on r runs
      by_running None idle = by_tasks s.control.tasks refl idle

-- ---- all is done

size_is : (h : List Entry) (s t : State) → replay_from h s ≡ Some t → size_from s.control.size (sights_from h s) ≡ t.control.size
size_is [] s t is = ap (λ (u : State). u.control.size) (some_same s t is)
size_is (e ∷ es) s t is = by (step e s) refl is (λ u. size_is es u t)
  where
    by : (o : Option State) → step e s ≡ o → option_and_then (replay_from es) o ≡ Some t → ((u : State) → replay_from es u ≡ Some t → size_from u.control.size (sights_from es u) ≡ t.control.size) → size_from s.control.size (unwrap_or (option_map (λ (u : State). sight_of e (shown_at e s) u.control.size ∷ sights_from es u) o) []) ≡ t.control.size
    by None steps is more = absurd cc
    by (Some u) steps is more = more u is

flush_there : (q p place : ℕ) (who : Who) (es : List Entry) → q ≡ place + p → slice_get es p ≡ Some (Entry.Call who Call.Flush) → 1 ≤ flushes_from q es place
flush_there q p place who [] at is = absurd cc
flush_there q zero place who (e ∷ es) at is =
    let here : flushed_at q e place ≡ 1 = ap (λ (x : Entry). flushed_at q x place) (some_same e (Entry.Call who Call.Flush) is) ∙ ap bit (eq-eqb place q (omega (arith, at))) in
    omega (arith, here)
flush_there q (suc p) place who (e ∷ es) at is = let rest = flush_there q p (place + 1) who es (omega (arith, at)) is in omega (arith, rest)

all_done : (o : Opening) (h : List Entry) (s : State) → replay o h ≡ Some s → IsQuiet s.control → EndsQuiet s.control → IsAllDone o h
all_done o h s is quiet ends = record {
  ended = λ p who flush.
      (let k : EndedBy p h (opening_state o) s = ends_balance p h (opening_state o) s opening_course (opening_flow o) (opening_promises o) is in
      let b = k.balance in
      let none : count p s.control.pending ≡ 0 = ap (count p) (ends quiet).no_promises in
      omega (arith, b, none, few_flushes p h 0, flush_there p p 0 who h (omega arith) flush));
  no_size = size_is h (opening_state o) s is ∙ (ends quiet).no_size;
}

pub nothing_stuck : Always IsNeverStuck → Always EndsQuiet → LeavesFewer → NothingStuck
nothing_stuck facts ends fewer o h some legal =
    let k = legal_state o h legal in
    let s : State = k.0 in
    let now : left_after o h ≡ left s.control = left_is o h s k.1 in
    let quiet : EndsQuiet s.control = ends o h s some k.1 in
    record {
      goes_on = λ more. goes_on o h s k.1 (facts o h s some k.1) quiet (omega (arith, more, now));
      fewer = λ e is next.
          (let t = legal_state o (h ++ e ∷ []) next in
          let steps : step e s ≡ Some t.0 = sym (replay_append o h e s k.1) ∙ t.1 in
          let lower = fewer o h s e t.0 some k.1 is steps in
          omega (arith, lower, now, left_is o (h ++ e ∷ []) t.0 t.1));
      quiet = λ none. record { state = s; replays = k.1; quiet = quiet_by s.control (sym now ∙ none) };
      nothing = λ q. now ∙ nothing_by s.control (same_state o h s k.1 q) quiet;
      done = λ q. all_done o h s k.1 (same_state o h s k.1 q) quiet;
    }
