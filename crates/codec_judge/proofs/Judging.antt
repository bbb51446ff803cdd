-- What is known of a codec that is made again, after one entry more.
use Rattle.std.proofs.Common.{ℕ, ◌≡◌, eq-eqb, Bool, true, false, not, cond, List, [], ◌∷◌, ◌++◌, length, take, Option, Some, None, is_some, refl, ap, sym, subst, ◌∙◌, option_map}
use Rattle.std.specs.Prelude.{◌==◌, ◌&&◌, IfSome, option_and_then, unwrap_or}
use Rattle.std.proofs.lemmas.Bool.{and_parts, eqb-true, eqb-false, ne_eqb}
use Rattle.std.proofs.Math.Seq.{take-append_seam, take-length}
use Rattle.wc_base.specs.Options.{some_same, cond_is}
use Rattle.wc_base.specs.declared.who.Who.{Who}
use Rattle.wc_config.specs.declared.codec.CoderId.{CoderId}
use Rattle.coder_api.specs.Lent.{Lent}
use Rattle.codec_definitions.specs.declared.unit.Unit as media
use Rattle.codec_model.specs.declared.entry.{Call.Call, Ended.Ended, Entry.Entry, Item.Item, Opening.Opening, Outcome.Outcome, Running.Running, Work.Work, WorkKind.WorkKind}
use Rattle.codec_model.specs.Control.{Control, kind_of, front, may_start, may_take, may_reclaim, start_item}
use Rattle.codec_model.specs.Replay.{Given, State, answer_to, done_step, ended_of, missing_coder, may_call, opening_state, replay, replay_from, start_step, step}
use Rattle.codec_accounts.specs.Boxes.{after}
use Rattle.codec_core.specs.Codec.{Codec, KeepsRunning, Makes, handed_back, item_parts, kept_box, removed_if, state_at}
use Rattle.codec_core.specs.Job.{EndsBy, IsJob, IsJobOf, JobValue, missing_id, outcome_of, stopped_box}
use Rattle.codec_core.specs.Owning.{IsOwnJob}
use Rattle.codec_core.specs.declared.out.Out.{Out}
use Rattle.codec_judge.specs.Judge.{IsGrown, IsJudged, JobIsOut, Judges, box_held, box_removed, is_worked}
use Rattle.codec_judge.specs.Lawful.{box_allows, boxes_allow, has_coder, is_lawful_next, lack_after, lack_at, lack_from, lawful_after}
use Rattle.codec_judge.specs.Lender.{LenderValue, id_in, settled}

-- ---- the box that the item at work lacks

lack_rest : (x : Entry) (xs : List Entry) (s t : State) (e : Entry) (l : Option CoderId) (o : Option State) → step x s ≡ o → option_and_then (replay_from xs) o ≡ Some t
    → ((u : State) (k : Option CoderId) → replay_from xs u ≡ Some t → lack_from (xs ++ e ∷ []) u k ≡ lack_after e t (lack_from xs u k))
    → lack_from (xs ++ e ∷ []) (after x s) (lack_after x s l) ≡ lack_after e t (lack_from xs (after x s) (lack_after x s l))
lack_rest x xs s t e l None is r more = absurd cc
lack_rest x xs s t e l (Some u) is r more =
    let next : after x s ≡ u = ap (λ (o : Option State). unwrap_or o s) is in
    more (after x s) (lack_after x s l) (subst (λ (v : State). replay_from xs v ≡ Some t) (sym next) r)

lack_more_from : (h : List Entry) (s t : State) (e : Entry) (l : Option CoderId) → replay_from h s ≡ Some t → lack_from (h ++ e ∷ []) s l ≡ lack_after e t (lack_from h s l)
lack_more_from [] s t e l r = ap (λ (u : State). lack_after e u l) (some_same s t r)
lack_more_from (x ∷ xs) s t e l r = lack_rest x xs s t e l (step x s) refl r (λ u k. lack_more_from xs u t e k)

-- after one entry more
pub lack_more : (o : Opening) (h : List Entry) (e : Entry) (s : State) → replay o h ≡ Some s → lack_at o (h ++ e ∷ []) ≡ lack_after e s (lack_at o h)
lack_more o h e s r = lack_more_from h (opening_state o) s e None r

-- ---- whether the next entry is lawful

and_false : (b : Bool) → (b && false) ≡ false
and_false true = refl
and_false false = refl

module _ (made : List CoderId) (core : Codec) (legal : replay core.opening core.history ≡ Some (state_at core)) (e : Entry) where
  next_is : is_lawful_next made core.opening core.history e ≡ (is_some (step e (state_at core)) && boxes_allow made (lack_at core.opening core.history) e)
  next_is = ap (lawful_after made (lack_at core.opening core.history) e) legal

  pub lawful : (t : State) → step e (state_at core) ≡ Some t → boxes_allow made (lack_at core.opening core.history) e ≡ true → true ≡ is_lawful_next made core.opening core.history e
  lawful t steps allows = sym (next_is ∙ rw (steps, allows) refl)

  pub illegal : step e (state_at core) ≡ None → false ≡ is_lawful_next made core.opening core.history e
  illegal none = sym (next_is ∙ rw none refl)

  pub not_allowed : boxes_allow made (lack_at core.opening core.history) e ≡ false → false ≡ is_lawful_next made core.opening core.history e
  not_allowed fails = sym (next_is ∙ rw fails (and_false (is_some (step e (state_at core)))))

-- ---- what judging comes to

-- the entry was made
pub made_entry : (l next : LenderValue) (old new : Codec) (e : Entry) (job : Option JobValue) → replay old.opening old.history ≡ Some (state_at old) → Makes old new e → boxes_allow l.home (lack_at old.opening old.history) e ≡ true
    → JobIsOut new job → next.home ≡ l.home → next.out ≡ id_in (box_held new.slot job) → Judges l old e true new job next
made_entry l next old new e job legal made allows out home box = record {
  stands = record { legal = made.legal; job_out = out; box_out = box };
  same_home = home;
  same_opening = made.same_opening;
  is_lawful = lawful l.home old legal e (state_at new) made.steps allows;
  grown = made.longer;
}

-- the entry is not lawful, and none was made
pub no_entry : (l next : LenderValue) (core : Codec) (e : Entry) (job : Option JobValue) → IsJudged core job next → next.home ≡ l.home → false ≡ is_lawful_next l.home core.opening core.history e → Judges l core e false core job next
no_entry l next core e job stands home fails = record { stands = stands; same_home = home; same_opening = refl; is_lawful = fails; grown = take-length core.history }

-- the entry is not lawful, and another was made
pub other_entry : (l next : LenderValue) (old new : Codec) (e x : Entry) (job : Option JobValue) → Makes old new x → JobIsOut new job → next.home ≡ l.home → next.out ≡ id_in (box_held new.slot job)
    → false ≡ is_lawful_next l.home old.opening old.history e → Judges l old e false new job next
other_entry l next old new e x job made out home box fails = record {
  stands = record { legal = made.legal; job_out = out; box_out = box };
  same_home = home;
  same_opening = made.same_opening;
  is_lawful = fails;
  grown = ap (λ (h : List Entry). take (length old.history) h) made.longer ∙ take-append_seam old.history (x ∷ []);
}

-- a place more leaves all else
pub same_stands : (old new : Codec) (job : Option JobValue) (l : LenderValue) → new ≡ record old { spare = new.spare } → IsJudged old job l → IsJudged new job l
same_stands old new job l is h = subst (λ (core : Codec). IsJudged core job l) (sym is) (record { legal = h.legal; job_out = same_out job h.job_out; box_out = h.box_out })
  where
    same_out : (j : Option JobValue) → JobIsOut old j → JobIsOut (record old { spare = new.spare }) j
    same_out None h = h
    same_out (Some j) h = record { matches = h.matches; own = h.own; lacks = h.lacks; away = h.away }

pub same_judges : (old core new : Codec) (e : Entry) (b : Bool) (job : Option JobValue) (l next : LenderValue) → core ≡ record old { spare = core.spare } → Judges l core e b new job next → Judges l old e b new job next
same_judges old core new e b job l next is j = record {
  stands = j.stands;
  same_home = j.same_home;
  same_opening = j.same_opening ∙ ap (λ (c : Codec). c.opening) is;
  is_lawful = j.is_lawful ∙ ap (λ (c : Codec). is_lawful_next l.home c.opening c.history e) is;
  grown = subst (λ (h : List Entry). IsGrown b e h new.history) (ap (λ (c : Codec). c.history) is) j.grown;
}

-- ---- the job that is out

pub job_stays : (s t : State) (job : JobValue) → KeepsRunning s t → IsJobOf s job → IsJobOf t job
job_stays s t job keeps j = record {
  running = j.running;
  is_running = keeps.same_running ∙ j.is_running;
  same_epoch = j.same_epoch;
  same_number = j.same_number;
  same_kind = j.same_kind;
  given = subst (λ (g : Given). IsJob g job) (sym keeps.same_given) j.given;
}

pub out_stays : (old new : Codec) (e : Entry) (job : Option JobValue) → replay old.opening old.history ≡ Some (state_at old) → Makes old new e → KeepsRunning (state_at old) (state_at new) → new.out ≡ old.out → (old.slot ≡ None → new.slot ≡ None)
    → lack_after e (state_at old) (lack_at old.opening old.history) ≡ lack_at old.opening old.history → JobIsOut old job → JobIsOut new job
out_stays old new e None legal made keeps out slot lack h = keeps.same_running ∙ h
out_stays old new e (Some job) legal made keeps out slot lack h = record {
  matches = job_stays (state_at old) (state_at new) job keeps h.matches;
  own = subst (λ (o : Out). IsOwnJob o job) (sym out) h.own;
  lacks = h.lacks ∙ sym (rw (made.same_opening, made.longer) (lack_more old.opening old.history e (state_at old) legal ∙ lack));
  away = slot h.away;
}

pub is_away : (core : Codec) (job : Option JobValue) → JobIsOut core job → is_some job ≡ true → core.slot ≡ None
is_away core None h is = absurd cc
is_away core (Some job) h is = h.away

-- ---- boxes

pub kept_none : (stays : Bool) (slot new : Option Lent) → new ≡ kept_box stays slot → slot ≡ None → new ≡ None
kept_none true slot new is none = is ∙ none
kept_none false slot new is none = is

-- a box that stays is the codec's, and one that goes back was out
pub box_goes : (stays : Bool) (slot : Option Lent) (job : Option JobValue) (l : LenderValue) → (is_some job ≡ true → slot ≡ None) → l.out ≡ id_in (box_held slot job)
    → IfSome (handed_back stays slot) (λ b. l.out ≡ Some b.id) × ((settled (handed_back stays slot) l).out ≡ id_in (box_held (kept_box stays slot) job))
box_goes true slot job l away out = (tt, out)
box_goes false None None l away out = (tt, out)
box_goes false (Some b) None l away out = (out, refl)
box_goes false None (Some j) l away out = (tt, out)
box_goes false (Some b) (Some j) l away out = absurd (let none = away refl in cc)

pub settled_home : (back : Option Lent) (l : LenderValue) → (settled back l).home ≡ l.home
settled_home None l = refl
settled_home (Some b) l = refl

pub removed_box : (closes : Bool) (place : ℕ) (slot : Option Lent) → box_removed (removed_if closes place (stopped_box slot)) ≡ handed_back (not closes) slot
removed_box true place slot = refl
removed_box false place slot = refl

-- a call, a turn or a reclaim was made
pub left_judges : (l next : LenderValue) (old new : Codec) (e : Entry) (job : Option JobValue) (stays : Bool) (back : Option Lent) → IsJudged old job l → Makes old new e → KeepsRunning (state_at old) (state_at new) → new.out ≡ old.out
    → new.slot ≡ kept_box stays old.slot → back ≡ handed_back stays old.slot → next ≡ settled back l
    → lack_after e (state_at old) (lack_at old.opening old.history) ≡ lack_at old.opening old.history → boxes_allow l.home (lack_at old.opening old.history) e ≡ true → Judges l old e true new job next
left_judges l next old new e job stays back h made keeps out slot is gave lack allows =
    let goes = box_goes stays old.slot job l (is_away old job h.job_out) h.box_out in
    made_entry l next old new e job h.legal made allows
    (out_stays old new e job h.legal made keeps out (kept_none stays old.slot new.slot slot) lack h.job_out)
    (ap (λ (x : LenderValue). x.home) gave ∙ settled_home back l)
    (rw (gave, is, slot) goes.1)

-- what goes back then was out
pub was_out : (l : LenderValue) (old : Codec) (job : Option JobValue) (stays : Bool) (back : Option Lent) → IsJudged old job l → back ≡ handed_back stays old.slot → IfSome back (λ b. l.out ≡ Some b.id)
was_out l old job stays back h is = rw is (box_goes stays old.slot job l (is_away old job h.job_out) h.box_out).0

-- ---- starts

no_start_by : (is : List Item) (b : Bool) (epoch item : ℕ) (s : State) → cond b (front is) None ≡ None → may_start s.control ≡ b → start_step is epoch item s ≡ None
no_start_by [] b epoch item s none may = refl
no_start_by (i ∷ is) false epoch item s none may = rw may refl
no_start_by (i ∷ is) true epoch item s none may = absurd cc

pub no_start : (s : State) (epoch item : ℕ) → start_item s.control ≡ None → step (Entry.Start epoch item) s ≡ None
no_start s epoch item none = no_start_by s.control.work (may_start s.control) epoch item s none refl

eqb_swap : (a b : ℕ) → (a == b) ≡ (b == a)
eqb_swap a b = by (a == b) (b == a) refl refl
  where
    by : (x y : Bool) → (a == b) ≡ x → (b == a) ≡ y → x ≡ y
    by true true h k = refl
    by false false h k = refl
    by true false h k = absurd (eqb-false b a k (sym (eqb-true a b h)))
    by false true h k = absurd (eqb-false a b h (sym (eqb-true b a k)))

last_false : (a b c : Bool) → (b && c) ≡ false → (a && b && c) ≡ false
last_false true true true h = absurd cc
last_false true true false h = refl
last_false true false true h = refl
last_false true false false h = refl
last_false false true true h = refl
last_false false true false h = refl
last_false false false true h = refl
last_false false false false h = refl

-- the numbers are not those of the front item
other_by : (is : List Item) (i : Item) (epoch item : ℕ) (s : State) → front is ≡ Some i → ((epoch == s.control.epoch) && (item == i.number)) ≡ false → start_step is epoch item s ≡ None
other_by [] i epoch item s at fails = refl
other_by (j ∷ js) i epoch item s at fails = let same : j ≡ i = some_same j i at in rw (same, last_false (may_start s.control) (epoch == s.control.epoch) (item == i.number) fails) refl

pub other_start : (s : State) (i : Item) (epoch item : ℕ) → start_item s.control ≡ Some i → ((epoch == s.control.epoch) && (item == i.number)) ≡ false → step (Entry.Start epoch item) s ≡ None
other_start s i epoch item is fails = other_by s.control.work i epoch item s (cond_is (may_start s.control) (front s.control.work) i is).1 fails

pub some_item : (o : Option Item) (n : ℕ) (w : Work) → option_map item_parts o ≡ Some (n, w) → (i : Item) × (o ≡ Some i) × (i.number ≡ n) × (i.work ≡ w)
some_item None n w is = absurd cc
some_item (Some i) n w is = let same = some_same (item_parts i) (n, w) is in (i, refl, ap (λ x. x.0) same, ap (λ x. x.1) same)

-- no job is out where an item can start
pub idle_job : (core : Codec) (job : Option JobValue) (i : Item) → JobIsOut core job → start_item (state_at core).control ≡ Some i → job ≡ None
idle_job core None i h is = refl
idle_job core (Some job) i h is =
    let busy : may_start (state_at core).control ≡ false = rw h.matches.is_running refl in
    absurd (let fails = sym busy ∙ (cond_is (may_start (state_at core).control) (front (state_at core).control.work) i is).0 in cc)

-- what is known of a job that a start gave
pub record IsStarted (old new : Codec) (job : JobValue) : Type 0 where
  pub made : Makes old new (Entry.Start job.epoch job.number)
  pub matches : IsJobOf (state_at new) job
  pub epoch : job.epoch ≡ (state_at old).control.epoch
  pub item : option_map item_parts (start_item (state_at old).control) ≡ Some (job.number, job.work)
  pub coder : job.coder ≡ old.slot
  pub lacks : missing_id job ≡ missing_coder (state_at old).given job.work
  pub slot : new.slot ≡ None
  pub own : IsOwnJob new.out job

module _ (old new : Codec) (job0 : Option JobValue) (job : JobValue) (l : LenderValue) (h : IsJudged old job0 l) (is : IsStarted old new job) where
  started_out : JobIsOut new (Some job)
  started_out =
      let i = some_item (start_item (state_at old).control) job.number job.work is.item in
      record {
        matches = is.matches;
        own = is.own;
        lacks = is.lacks ∙ sym (rw (is.made.same_opening, is.made.longer) (lack_more old.opening old.history (Entry.Start job.epoch job.number) (state_at old) h.legal ∙ rw (i.1, i.3) refl));
        away = is.slot;
      }

  started_box : l.out ≡ id_in (box_held new.slot (Some job))
  started_box =
      let i = some_item (start_item (state_at old).control) job.number job.work is.item in
      rw (is.coder, h.box_out, idle_job old job0 i.0 h.job_out i.1) refl

  -- the start is the entry, or another
  pub started : (epoch item : ℕ) (b : Bool) → b ≡ ((job.epoch == epoch) && (job.number == item)) → Judges l old (Entry.Start epoch item) b new (Some job) l
  started epoch item true same =
      let both = and_parts (job.epoch == epoch) (job.number == item) (sym same) in
      let e : Entry.Start job.epoch job.number ≡ Entry.Start epoch item = rw (eqb-true job.epoch epoch both.0, eqb-true job.number item both.1) refl in
      made_entry l l old new (Entry.Start epoch item) (Some job) h.legal (subst (λ (x : Entry). Makes old new x) e is.made) refl started_out refl started_box
  started epoch item false same =
      let i = some_item (start_item (state_at old).control) job.number job.work is.item in
      let fails : ((epoch == (state_at old).control.epoch) && (item == i.0.number)) ≡ false = rw (← is.epoch, i.2, eqb_swap epoch job.epoch, eqb_swap item job.number) (sym same) in
      other_entry l l old new (Entry.Start epoch item) (Entry.Start job.epoch job.number) (Some job) is.made started_out refl started_box
      (illegal l.home old h.legal (Entry.Start epoch item) (other_start (state_at old) i.0 epoch item i.1 fails))

pub not_started : (l : LenderValue) (core : Codec) (job : Option JobValue) (epoch item : ℕ) → IsJudged core job l → start_item (state_at core).control ≡ None → Judges l core (Entry.Start epoch item) false core job l
not_started l core job epoch item h none = no_entry l l core (Entry.Start epoch item) job h refl (illegal l.home core h.legal (Entry.Start epoch item) (no_start (state_at core) epoch item none))

-- ---- turns and reclaims

pub not_turned : (l : LenderValue) (core : Codec) (job : Option JobValue) → IsJudged core job l → (state_at core).control.tasks ≡ [] → Judges l core Entry.Turn false core job l
not_turned l core job h none = no_entry l l core Entry.Turn job h refl (illegal l.home core h.legal Entry.Turn (rw none refl))

pub not_reclaimed : (l : LenderValue) (core : Codec) (job : Option JobValue) (moment : ℕ) → IsJudged core job l → may_reclaim moment (state_at core).control ≡ false → Judges l core (Entry.Reclaim moment) false core job l
not_reclaimed l core job moment h fails = no_entry l l core (Entry.Reclaim moment) job h refl (illegal l.home core h.legal (Entry.Reclaim moment) (rw fails refl))

pub not_called : (l : LenderValue) (core : Codec) (job : Option JobValue) (who : Who) (x : Call) → IsJudged core job l → may_call x (state_at core).control ≡ false → Judges l core (Entry.Call who x) false core job l
not_called l core job who x h fails = no_entry l l core (Entry.Call who x) job h refl (illegal l.home core h.legal (Entry.Call who x) (rw fails refl))

-- ---- ends

idle_done : (o : Option Running) (epoch item moment : ℕ) (x : Outcome) (s : State) → o ≡ None → done_step o epoch item moment x s ≡ None
idle_done o epoch item moment x s none = rw none refl

-- no item is at work
pub not_at_work : (l : LenderValue) (core : Codec) (epoch item moment : ℕ) (x : Outcome) → IsJudged core None l → Judges l core (Entry.Done epoch item moment x) false core None l
not_at_work l core epoch item moment x h =
    no_entry l l core (Entry.Done epoch item moment x) None h refl (illegal l.home core h.legal (Entry.Done epoch item moment x) (idle_done (state_at core).control.running epoch item moment x (state_at core) h.job_out))

-- another item is
pub other_at_work : (l : LenderValue) (core : Codec) (job : JobValue) (epoch item moment : ℕ) (x : Outcome) → IsJudged core (Some job) l → ((job.epoch == epoch) && (job.number == item)) ≡ false → Judges l core (Entry.Done epoch item moment x) false core (Some job) l
other_at_work l core job epoch item moment x h fails =
    let j = h.job_out.matches in
    let none : step (Entry.Done epoch item moment x) (state_at core) ≡ None = rw (j.is_running, j.same_epoch, j.same_number, fails) refl in
    no_entry l l core (Entry.Done epoch item moment x) (Some job) h refl (illegal l.home core h.legal (Entry.Done epoch item moment x) none)

-- this item is
pub same_at_work : (job : JobValue) (epoch item moment : ℕ) (x : Outcome) → (job.epoch ≡ epoch) → (job.number ≡ item) → Entry.Done job.epoch job.number moment x ≡ Entry.Done epoch item moment x
same_at_work job epoch item moment x e n = rw (e, n) refl

-- a job that lacks no box is not refused one
pub not_refused : (l : LenderValue) (core : Codec) (job : JobValue) (moment entry : ℕ) → IsJudged core (Some job) l → missing_id job ≡ None → Judges l core (Entry.Done job.epoch job.number moment (Outcome.NoSlot entry)) false core (Some job) l
not_refused l core job moment entry h none =
    let e = Entry.Done job.epoch job.number moment (Outcome.NoSlot entry) in
    let lack : lack_at core.opening core.history ≡ None = sym (sym none ∙ h.job_out.lacks) in
    no_entry l l core e (Some job) h refl (not_allowed l.home core h.legal e (rw lack refl))

-- a job for which there is no coder is not worked
pub no_coder : (made : List CoderId) (lack : Option CoderId) (id : CoderId) (x : Outcome) → lack ≡ Some id → has_coder id made ≡ false → is_worked x ≡ true → box_allows made lack x ≡ false
no_coder made lack id (Outcome.Ran units) is fails worked = rw (is, fails) refl
no_coder made lack id Outcome.Refused is fails worked = rw (is, fails) refl
no_coder made lack id (Outcome.NoSlot entry) is fails worked = absurd cc
no_coder made lack id Outcome.NoMemory is fails worked = absurd cc

-- an end in which the box is as it was is allowed
pub starved_allowed : (made : List CoderId) (lack : Option CoderId) → box_allows made lack Outcome.NoMemory ≡ true
starved_allowed made None = refl
starved_allowed made (Some id) = refl

pub refused_allowed : (made : List CoderId) (lack : Option CoderId) (id : CoderId) (entry : ℕ) → lack ≡ Some id → box_allows made lack (Outcome.NoSlot entry) ≡ true
refused_allowed made lack id entry is = rw is refl

pub worked_allowed : (made : List CoderId) (lack : Option CoderId) (x : Outcome) → is_worked x ≡ true → ((id : CoderId) → lack ≡ Some id → has_coder id made ≡ true) → box_allows made lack x ≡ true
worked_allowed made None (Outcome.Ran units) worked has = refl
worked_allowed made None Outcome.Refused worked has = refl
worked_allowed made (Some id) (Outcome.Ran units) worked has = has id refl
worked_allowed made (Some id) Outcome.Refused worked has = has id refl
worked_allowed made lack (Outcome.NoSlot entry) worked has = absurd cc
worked_allowed made lack Outcome.NoMemory worked has = absurd cc

-- work that was done ends by one outcome
one_outcome : (answer : Option (List media.Unit)) (e : Ended) (x : Outcome) → EndsBy answer e → is_worked (outcome_of e) ≡ true → is_worked x ≡ true → (x ≡ outcome_of e → ⊥) → (g : Given) (k : WorkKind) → answer_to k g ≡ answer → ended_of k g x ≡ None
one_outcome answer (Ended.Ran us) (Outcome.Ran n) ends w worked other g k is = rw (is, ends, ne_eqb n (length us) (λ same. other (ap (λ (m : ℕ). Outcome.Ran m) same))) refl
one_outcome answer (Ended.Ran us) Outcome.Refused ends w worked other g k is = rw (is, ends) refl
one_outcome answer Ended.Refused (Outcome.Ran n) ends w worked other g k is = rw (is, ends) refl
one_outcome answer Ended.Refused Outcome.Refused ends w worked other g k is = absurd (other refl)
one_outcome answer (Ended.NoSlot entry) x ends w worked other g k is = absurd ends
one_outcome answer Ended.NoMemory x ends w worked other g k is = absurd cc
one_outcome answer e (Outcome.NoSlot entry) ends w worked other g k is = absurd cc
one_outcome answer e Outcome.NoMemory ends w worked other g k is = absurd cc

-- another outcome than that of the work
pub other_end : (s : State) (job : JobValue) (e : Ended) (x : Outcome) (moment : ℕ) → IsJobOf s job → EndsBy (answer_to (kind_of job.work) s.running_given) e → is_worked (outcome_of e) ≡ true → is_worked x ≡ true → (x ≡ outcome_of e → ⊥) → step (Entry.Done job.epoch job.number moment x) s ≡ None
other_end s job e x moment j ends w worked other =
    let none = one_outcome (answer_to (kind_of job.work) s.running_given) e x ends w worked other s.running_given (kind_of job.work) refl in
    rw (j.is_running, j.same_epoch, j.same_number, eq-eqb job.epoch job.epoch refl, eq-eqb job.number job.number refl, j.same_kind, none) refl

-- ---- takes

none_by : (c : Control) (unit : ℕ) (b : Bool) → (unit == c.taken) ≡ b → false ≡ may_take c.taken c → false ≡ may_take unit c
none_by c unit true is h = subst (λ (n : ℕ). false ≡ may_take n c) (sym (eqb-true unit c.taken is)) h
none_by c unit false is h = let none : may_take unit c ≡ false = rw is refl in sym none

-- no output is left
pub none_taken : (c : Control) (unit : ℕ) → false ≡ may_take c.taken c → false ≡ may_take unit c
none_taken c unit h = none_by c unit (unit == c.taken) refl h

some_by : (c : Control) (unit : ℕ) (b : Bool) → (unit == c.taken) ≡ b → true ≡ may_take c.taken c → b ≡ may_take unit c
some_by c unit true is h = h ∙ ap (λ (n : ℕ). may_take n c) (sym (eqb-true unit c.taken is))
some_by c unit false is h = let none : may_take unit c ≡ false = rw is refl in sym none

-- the next output is the one that is left
pub some_taken : (c : Control) (unit : ℕ) → true ≡ may_take c.taken c → (unit == c.taken) ≡ may_take unit c
some_taken c unit h = some_by c unit (unit == c.taken) refl h
