-- What each entry makes of the running item and of the epoch, by what it is to the codec's box.
use Rattle.std.proofs.Common.{ℕ, suc, ◌≡◌, ◌==◌, not, Bool, true, false, cond, List, [], ◌∷◌, ◌++◌, Option, Some, None, is_some, is_none, refl, ap, sym, subst, ◌∙◌, add-one}
use Rattle.std.specs.Prelude.{max, unwrap_or}
use Rattle.std.proofs.lemmas.Bool.{and_parts}
use Rattle.wc_config.specs.declared.codec.CoderId.{CoderId}
use Rattle.codec_model.specs.declared.entry.Ended.{Ended}
use Rattle.codec_model.specs.declared.entry.Ended.TheVariants as ended
use Rattle.codec_model.specs.declared.entry.Entry.{Entry}
use Rattle.codec_model.specs.declared.entry.Item.{Item}
use Rattle.codec_model.specs.declared.entry.Outcome.TheVariants as outcome
use Rattle.codec_model.specs.declared.entry.Running.{Running}
use Rattle.codec_model.specs.declared.entry.Task.{Task}
use Rattle.codec_model.specs.declared.entry.Task.TheVariants as task
use Rattle.codec_model.specs.declared.entry.Work.{Work}
use Rattle.codec_model.specs.Control.{Control, at_next_place, process_queue, is_close, kind_of, may_start, front, start_item, after_end, done_running}
use Rattle.codec_model.specs.Replay.{State, step, missing_coder, accepted, ended_of, removed}
use Rattle.codec_model.specs.Held.{closes_codec}
use Rattle.codec_model.specs.StepLaws.{EachStep, by_steps, by_removals, by_items, begins_free, begun, task_ran, Sends, asked, call_sends, lacking_may_be_refused, refused_stays, sent_stays, removal_goes}
use Rattle.codec_accounts.specs.Boxes.{Act, Asks, Begins, Ends, Removes, Other, lacking, start_act, removal_act, act_of}

-- the running item and the epoch stay
pub record SameRun (s t : Control) : Type 0 where
  pub running : t.running ≡ s.running
  pub epoch : t.epoch ≡ s.epoch

-- the codec's running item may be refused a box
pub record NeedsBox (t : State) : Type 0 where
  pub running : Running
  pub is_running : t.control.running ≡ Some running
  pub refusable : (n : ℕ) → ended_of running.kind t.running_given (outcome.NoSlot n) ≡ Some (ended.NoSlot n)

-- an item of the current epoch begins where none is at work
pub record Starts (s t : State) : Type 0 where
  pub idle : s.control.running ≡ None
  pub item : Running
  pub runs : t.control.running ≡ Some item
  pub current : item.epoch ≡ t.control.epoch

-- the running item and what it was given stay
pub record KeepsItem (s t : State) : Type 0 where
  pub running : t.control.running ≡ s.control.running
  pub given : t.running_given ≡ s.running_given

-- what an entry makes of the running item and of the epoch, by what it is to the box
abbrev pub ActMakes : Act → State → State → Type 0
ActMakes (Asks id) s t = Starts s t × NeedsBox t
ActMakes Begins s t = Starts s t
ActMakes Ends s t = (is_some s.control.running ≡ true) × (t.control.running ≡ None)
ActMakes Removes s t = KeepsItem s t × (t.control.epoch ≡ suc s.control.epoch)
ActMakes Other s t = KeepsItem s t × (t.control.epoch ≡ s.control.epoch)

-- ---- processing

process_same : (s : Control) → SameRun s (process_queue s.messages s)
process_same s = by_items (SameRun s) (λ m ms c blocked saturated scheduled event size few e h. record { running = h.running; epoch = h.epoch }) s.messages s refl (record { running = refl; epoch = refl })

sent_same : (w : Work) (c d : Control) → Sends w c d → SameRun c d
sent_same w c d k =
    let before = asked c k.phase k.key_required k.size k.pending in
    let h = process_same (record before { messages = before.messages ++ record { place = c.place; work = w } ∷ [] }) in
    rw k.is (record { running = h.running; epoch = h.epoch })

-- ---- entries

-- a task that does not close the codec keeps both; one that closes it begins a new epoch
task_makes : (x : Task) (ts : List Task) (s : State) → ActMakes (removal_act (is_close x)) s (task_ran x ts s)
task_makes task.Process ts s = let k = process_same (record (at_next_place s.control) { tasks = ts }) in (record { running = k.running; given = refl }, k.epoch)
task_makes task.Desaturate ts s = let k = process_same (record (at_next_place s.control) { tasks = ts; saturated = false }) in (record { running = k.running; given = refl }, k.epoch)
task_makes (task.Close x) ts s = (record { running = refl; given = refl }, add-one s.control.epoch)
task_makes x ts s = (record { running = refl; given = refl }, refl)

-- a call that removes nothing, and one that removes all
stays_as : (b : Bool) (s t : State) → b ≡ false → ActMakes Other s t → ActMakes (removal_act b) s t
stays_as b s t none h = rw none h

start_makes : (i : Item) (is : List Item) (s : State) → s.control.work ≡ i ∷ is → may_start s.control ≡ true → ActMakes (start_act (lacking s.given (start_item s.control))) s (begun (i ∷ is) i s)
start_makes i is s work may =
    subst (λ (o : Option Item). ActMakes (start_act (lacking s.given o)) s (begun (i ∷ is) i s)) (sym front_is) (by_lack (missing_coder s.given i.work) refl)
  where
    front_is : start_item s.control ≡ Some i
    front_is = ap (λ (b : Bool). cond b (front s.control.work) None) may ∙ ap front work

    none_runs : (o : Option Running) → is_none o ≡ true → o ≡ None
    none_runs None h = refl
    none_runs (Some r) h = absurd cc

    r : Running
    r = record { epoch = s.control.epoch; number = i.number; place = i.place; kind = kind_of i.work }

    starts : Starts s (begun (i ∷ is) i s)
    starts = record { idle = none_runs s.control.running (and_parts (is_none s.control.running) (not s.control.halted) may).0; item = r; runs = refl; current = refl }

    by_lack : (o : Option CoderId) → missing_coder s.given i.work ≡ o → ActMakes (start_act o) s (begun (i ∷ is) i s)
    by_lack None lacks = starts
    by_lack (Some id) lacks = (starts, record { running = r; is_running = refl; refusable = λ n. lacking_may_be_refused i.work s.given id n lacks })

end_runs : (r : Running) (e : Ended) (moment : ℕ) (c : Control) → (done_running r e moment c).running ≡ None
end_runs r e moment c = by (r.epoch == c.epoch) (record c { running = None; progress = Some (max moment (unwrap_or c.progress moment)) }) refl
  where
    by : (b : Bool) (d : Control) → d.running ≡ None → (cond b (after_end r e d) (record c { running = None })).running ≡ None
    by true d none = none
    by false d none = refl

same : {s t : State} → SameRun s.control t.control → t.running_given ≡ s.running_given → ActMakes Other s t
same h given = (record { running = h.running; given = given }, h.epoch)

each_makes : EachStep (λ e s t. ActMakes (act_of e s) s t)
each_makes = record {
  refused = λ who x error s may e. stays_as _ s _ (refused_stays who x error s e) (record { running = refl; given = refl }, refl);
  sent = λ who x w s m may e. stays_as _ s _ (sent_stays who x w s m) (same (sent_same w s.control _ (call_sends x w s.control m)) refl);
  removes_all = λ who x s is e. rw (removal_goes who x s is e) (by_removals (λ y. ActMakes (removal_act true) s (removed (accepted y s.control) s)) (record { running = refl; given = refl }, add-one s.control.epoch) (record { running = refl; given = refl }, add-one s.control.epoch) x is);
  takes = λ who unit s may. (record { running = refl; given = refl }, refl);
  grounds = λ who to s. (record { running = refl; given = refl }, refl);
  start = λ i is epoch item s work may. start_makes i is s work (begins_free epoch item i s.control may);
  done = λ r e epoch item moment o s running own is. (ap is_some running, end_runs r e moment (at_next_place s.control));
  turn = λ x ts s first. subst (λ (l : List Task). ActMakes (removal_act (closes_codec l)) s (task_ran x ts s)) (sym first) (task_makes x ts s);
  reclaim = λ moment s may. (record { running = refl; given = refl }, add-one s.control.epoch);
}

-- What a legal entry makes of the running item and of the epoch is said by what it is to the box.
pub act_makes : (e : Entry) (s t : State) → step e s ≡ Some t → ActMakes (act_of e s) s t
act_makes = by_steps _ each_makes
