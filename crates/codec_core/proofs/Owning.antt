-- Whose box a codec's box is, entry after entry.
use Rattle.std.proofs.Common.{ℕ, ◌≡◌, not, Bool, true, false, eqb, cond, List, [], ◌∷◌, ◌++◌, length, Option, Some, None, is_some, refl, ap, sym, subst, ◌∙◌}
use Rattle.std.specs.Prelude.{unwrap_or, option_map, IfSome}
use Rattle.wc_base.specs.declared.{who.By.By, who.Who.Who}
use Rattle.wc_config.specs.declared.codec.CoderId.{CoderId}
use Rattle.coder_api.specs.Lent.{Lent, with_token}
use Rattle.codec_model.specs.declared.entry.{Opening.Opening, Call.Call, Entry.Entry, Running.Running, Task.Task}
use Rattle.codec_model.specs.Control.{Control, start_item, turn_closes}
use Rattle.codec_model.specs.Replay.{State, opening_state, step, replay}
use Rattle.codec_model.specs.{ShownLaws.replay_more, Held.closes_codec, Held.is_removal}
use Rattle.codec_accounts.specs.Boxes.{Act, Ends, Other, Kept, stays, act_of, lacking, start_act, removal_act, acts_of}
use Rattle.codec_accounts.specs.{Codec.is_old, ActLaws.ActMakes, ActLaws.act_makes}
use Rattle.codec_accounts.specs.Asked.{Asked, asked_by, asked_in, asked_at}
use Rattle.codec_accounts.specs.AskedLaws.{IsAsked, step_of, asked_is, asked_more, lets_now, LetsGo}
use Rattle.codec_core.specs.Job.{JobValue, DoneValue, missing_id, stopped_box, named_box, IsEndOf, outcome_of}
use Rattle.codec_core.specs.declared.out.Out.{Out}
use Rattle.codec_core.specs.Codec.{Codec, state_at, Makes, KeepsRunning, IsBy, IsAskedAt, IsOutOf, IsBack, went_out, IsKept, IsCore, RemovedValue, kept_box, handed_back, removed_if}
use Rattle.codec_core.specs.Trace.{TraceValue}
use Rattle.codec_core.proofs.Steps.{Moved, kept_more, state_is, makes_more}
use Rattle.codec_core.specs.Owning.{asked_of, IsOwnJob, GoesBack}

abbrev nothing : Out
nothing = Out.With None

-- the history before an entry that was made replays to its state
legal_before : (old new : Codec) (e : Entry) → Makes old new e → replay old.opening old.history ≡ Some (state_at old)
legal_before old new e makes =
    let again : replay old.opening (old.history ++ e ∷ []) ≡ Some (state_at new) = subst (λ (o : Opening). replay o (old.history ++ e ∷ []) ≡ Some (state_at new)) makes.same_opening (subst (λ (h : List Entry). replay new.opening h ≡ Some (state_at new)) makes.longer makes.legal) in
    let before = step_of (step e) (replay old.opening old.history) (state_at new) (sym (replay_more old.history (opening_state old.opening) e) ∙ again) in
    before.1 ∙ ap (λ (o : Option State). Some (unwrap_or o (opening_state old.opening))) (sym before.1)

-- an entry that is neither the start nor the end of an item keeps the running item and what it was given
pub keeps_running : {old new : Codec} {e : Entry} (b : Bool) → Makes old new e → act_of e (state_at old) ≡ removal_act b → KeepsRunning (state_at old) (state_at new)
keeps_running {old = old} {new = new} {e = e} b makes act = by b (subst (λ (a : Act). ActMakes a (state_at old) (state_at new)) act (act_makes e (state_at old) (state_at new) makes.steps))
  where
    by : (b : Bool) → ActMakes (removal_act b) (state_at old) (state_at new) → KeepsRunning (state_at old) (state_at new)
    by true m = record { same_running = m.0.running; same_given = m.0.given }
    by false m = record { same_running = m.0.running; same_given = m.0.given }

-- no call ends or begins an item
pub keeps_called : {old new : Codec} {who : Who} {x : Call} → Makes old new (Entry.Call who x) → KeepsRunning (state_at old) (state_at new)
keeps_called {old = old} {who = who} {x = x} makes = keeps_running (is_removal (Entry.Call who x) (state_at old)) makes refl

-- ---- what entries are to the box

closes_is : (ts : List Task) (b : Bool) → turn_closes ts ≡ Some b → closes_codec ts ≡ not (not b)
closes_is [] b h = absurd cc
closes_is (x ∷ ts) true h = cc
closes_is (x ∷ ts) false h = cc

pub turn_act : (t : State) (b : Bool) → turn_closes t.control.tasks ≡ Some b → act_of Entry.Turn t ≡ removal_act (not (not b))
turn_act t b h = ap removal_act (closes_is t.control.tasks b h)

-- ---- one entry more

asked_next : (old new : Codec) (e : Entry) (a : Act) → Makes old new e → act_of e (state_at old) ≡ a → asked_of new ≡ (asked_by a (length old.history) (asked_in (acts_of old.opening old.history))).since
asked_next old new e a makes act = rw (makes.same_opening, makes.longer, asked_more old.opening old.history (state_at old) e (legal_before old new e makes), act) refl

known : (old new : Codec) (e : Entry) → Makes old new e → IsAsked 0 (length old.history) (state_at old) (asked_in (acts_of old.opening old.history)) (stays 0 0 false (acts_of old.opening old.history) Kept)
known old new e makes = asked_is 0 old.opening old.history (state_at old) (legal_before old new e makes)

removal_since : (b runs : Bool) (n : ℕ) (x : Asked) → runs ≡ true → x.runs ≡ runs → (asked_by (removal_act b) n x).since ≡ x.since
removal_since true runs n x r is = ap (λ (q : Bool). cond q x.since None) (is ∙ r)
removal_since false runs n x r is = refl

-- a removal or an entry that lets no box go leaves the box of the item at work
asked_stays : {old new : Codec} {e : Entry} (b : Bool) → Makes old new e → act_of e (state_at old) ≡ removal_act b → is_some (state_at old).control.running ≡ true → asked_of new ≡ asked_of old
asked_stays {old = old} {new = new} {e = e} b makes act = λ runs.
    asked_next old new e (removal_act b) makes act
    ∙ removal_since b (is_some (state_at old).control.running) (length old.history) (asked_in (acts_of old.opening old.history)) runs (known old new e makes).runs

-- the box at home after a removal, or an entry that lets no box go
own_removal : (old new : Codec) (e : Entry) (stays : Bool) → Makes old new e → act_of e (state_at old) ≡ removal_act (not stays) → IsAskedAt (asked_of old) old.slot → IsAskedAt (asked_of new) (kept_box stays old.slot)
own_removal old new e false makes act own = tt
own_removal old new e true makes act own = rw (asked_next old new e Other makes act) own

place_of : (c : By) (at : Option ℕ) → IsBy c at → (p : ℕ) × (at ≡ Some p) × IsBy c (Some p)
place_of (By.Codec codec place) at h = (place, h, refl)
place_of (By.Caller who) at h = elim h [ ]

-- an entry that lets a box go hands it back
back_by : (old new : Codec) (e : Entry) (lent : Lent) → Makes old new e → LetsGo (act_of e (state_at old)) (state_at old) → IsBy lent.by (asked_of old) → GoesBack new (length old.history) (Some lent)
back_by old new e lent makes goes own =
    let at = place_of lent.by (asked_of old) own in
    let back = lets_now old.opening old.history (state_at old) (state_at new) e at.0 (legal_before old new e makes) makes.steps at.1 goes in
    (at.0, at.2, rw (makes.same_opening, makes.longer) back)

none_idle : (slot : Option Lent) (o : Option Running) → ((r : Running) → o ≡ Some r → slot ≡ None) → is_some slot ≡ true → is_some o ≡ false
none_idle slot None home some = refl
none_idle slot (Some r) home some = absurd (let none = home r refl in cc)

-- a box that is stopped is asked for as before
stopped_own : (at : Option ℕ) (slot : Option Lent) → IsAskedAt at slot → IsAskedAt at (stopped_box slot)
stopped_own at None own = tt
stopped_own at (Some lent) own = own

own_stopped : (at : Option ℕ) (slot : Option Lent) → IsAskedAt at (stopped_box slot) → IsAskedAt at slot
own_stopped at None own = tt
own_stopped at (Some lent) own = own

-- and so is one of which is known which it is
named_own : (at : Option ℕ) (slot : Option Lent) → IsAskedAt at slot → IsAskedAt at (named_box slot)
named_own at None own = tt
named_own at (Some lent) own = own

own_named : (at : Option ℕ) (slot : Option Lent) → IsAskedAt at (named_box slot) → IsAskedAt at slot
own_named at None own = tt
own_named at (Some lent) own = own

named_is : (slot : Option Lent) → option_map (with_token None) (stopped_box slot) ≡ named_box slot
named_is None = refl
named_is (Some lent) = refl

pub job_same : (o : Out) (a b : Option Lent) → stopped_box b ≡ stopped_box a → IsBack o a → IsBack o b
job_same (Out.With box) a b is own = sym (named_is b) ∙ (ap (option_map (with_token None)) is ∙ (named_is a ∙ own))
job_same (Out.Asked place) a b is own = own_stopped (Some place) b (rw is (stopped_own (Some place) a own))

-- whose box a job has that has none where it lacks one
pub none_asked : (o : Out) (job : JobValue) → IsOwnJob o job → (is_some (missing_id job) ≡ true → job.coder ≡ None) → IsBack o job.coder
none_asked o job own none = by (missing_id job) refl
  where
    by : (m : Option CoderId) → missing_id job ≡ m → IsBack o job.coder
    by None is = own.has is
    by (Some id) is = let some = ap is_some is in rw (none some, own.asks some) tt

-- a box that comes back is asked for as what went out
pub back_asked : (o : Out) (at : Option ℕ) (coder : Option Lent) → IsOutOf o at → IsBack o coder → IsAskedAt at coder
back_asked (Out.With box) at coder lent back = own_named at coder (rw back lent)
back_asked (Out.Asked place) at coder lent back = rw lent back

back_box : (old new : Codec) (e : Entry) (slot : Option Lent) → Makes old new e → (is_some slot ≡ true → LetsGo (act_of e (state_at old)) (state_at old)) → IsAskedAt (asked_of old) slot → GoesBack new (length old.history) slot
back_box old new e None makes goes own = tt
back_box old new e (Some lent) makes goes own = back_by old new e lent makes (goes refl) own

back_stopped : (old new : Codec) (e : Entry) (slot : Option Lent) → Makes old new e → (is_some slot ≡ true → LetsGo (act_of e (state_at old)) (state_at old)) → IsAskedAt (asked_of old) slot → GoesBack new (length old.history) (stopped_box slot)
back_stopped old new e slot makes goes own = back_box old new e (stopped_box slot) makes (λ some. goes (stopped_some slot some)) (stopped_own (asked_of old) slot own)
  where
    stopped_some : (o : Option Lent) → is_some (stopped_box o) ≡ true → is_some o ≡ true
    stopped_some None some = some
    stopped_some (Some lent) some = refl

-- a codec's box is its own, and with an item at work it has none
pub record AtHome (c : Codec) : Type 0 where
  pub own : IsAskedAt (asked_of c) c.slot
  pub out : (r : Running) → (state_at c).control.running ≡ Some r → c.slot ≡ None

-- what a removal, or an entry that lets no box go, hands back
pub back_removal : (old new : Codec) (e : Entry) (stays : Bool) (at : ℕ) (coder : Option Lent) → Makes old new e → act_of e (state_at old) ≡ removal_act (not stays) → AtHome old → at ≡ length old.history → coder ≡ handed_back stays old.slot → GoesBack new at coder
back_removal old new e stays at coder makes act home is same = rw (is, same) (by stays act)
  where
    by : (stays : Bool) → act_of e (state_at old) ≡ removal_act (not stays) → GoesBack new (length old.history) (handed_back stays old.slot)
    by false act = back_stopped old new e old.slot makes (λ some. rw act (none_idle old.slot (state_at old).control.running home.out some)) home.own
    by true act = tt

back_if : (new : Codec) (b : Bool) (at : ℕ) (coder : Option Lent) (x : Option RemovedValue) → x ≡ removed_if b at coder → GoesBack new at coder → IfSome x (λ r. GoesBack new r.place r.coder)
back_if new true at coder x is back = rw is back
back_if new false at coder x is back = rw is tt

pub back_turn : (old new : Codec) (b : Bool) (at : ℕ) (coder : Option Lent) (x : Option RemovedValue) → Makes old new Entry.Turn → turn_closes (state_at old).control.tasks ≡ Some b → AtHome old → at ≡ length old.history
    → coder ≡ handed_back (not b) old.slot → x ≡ removed_if b at coder → IfSome x (λ r. GoesBack new r.place r.coder)
back_turn old new b at coder x makes closes home is same answer =
    back_if new b at coder x answer (back_removal old new Entry.Turn (not b) at coder makes (turn_act (state_at old) b closes) home is same)

-- ---- of what is kept

module _ {t : TraceValue} {slot : Option Lent} {out : Out} {k : Control} {spare : ℕ} (is : IsCore t slot out k spare) where
  abbrev pub seen : Codec
  seen = record { opening = k.opening; history = t.entries; spare = spare; slot = slot; out = out }

  -- the control state of the codec that is seen
  pub control_at : {v : Codec} → seen ≡ v → (state_at v).control ≡ k
  control_at same = rw (← same, state_is is.kept spare out) is.kept.is_control

  pub at_home : {v : Codec} → seen ≡ v → AtHome v
  at_home same = rw (← same) (record { own = is.own; out = λ r e. is.kept.home.out r (rw (state_is is.kept spare out) at e) })

-- the box at home after an entry that moves the history on
pub own_more : {h : List Entry} {slot next : Option Lent} {k k' : Control} {e : Entry} (kept : IsKept h slot k) (stays : Bool) → Moved next e kept.state k' → act_of e kept.state ≡ removal_act (not stays) → next ≡ kept_box stays slot
    → IsAskedAt (asked_at k.opening h) slot → IsAskedAt (asked_at k'.opening (h ++ e ∷ [])) next
own_more {h = h} {slot = slot} {next = next} {k = k} {k' = k'} {e = e} kept stays moved act is own =
    let old : Codec = record { opening = k.opening; history = h; spare = 0; slot = slot; out = nothing } in
    let new : Codec = record { opening = k'.opening; history = h ++ e ∷ []; spare = 0; slot = next; out = nothing } in
    let here = ap (act_of e) (state_is kept 0 nothing) ∙ act in
    rw is (own_removal old new e stays (makes_more kept moved 0 0 nothing nothing) here own)

-- ---- a start

-- what went out with the item at work stays as it was asked for
pub out_more : {h : List Entry} {slot next : Option Lent} {k k' : Control} {e : Entry} (out : Out) (kept : IsKept h slot k) (stays_home : Bool) → Moved next e kept.state k' → act_of e kept.state ≡ removal_act (not stays_home)
    → (is_some k.running ≡ true → IsOutOf out (asked_at k.opening h)) → is_some k'.running ≡ true → IsOutOf out (asked_at k'.opening (h ++ e ∷ []))
out_more {h = h} {slot = slot} {next = next} {k = k} {k' = k'} {e = e} out kept stays_home moved act lent runs =
    let old : Codec = record { opening = k.opening; history = h; spare = 0; slot = slot; out = nothing } in
    let new : Codec = record { opening = k'.opening; history = h ++ e ∷ []; spare = 0; slot = next; out = nothing } in
    let here = ap (act_of e) (state_is kept 0 nothing) ∙ act in
    let makes = makes_more kept moved 0 0 nothing nothing in
    let after = state_is (kept_more kept moved) 0 nothing in
    let same : (state_at new).control.running ≡ (state_at old).control.running = (keeps_running {old = old} {new = new} {e = e} (not stays_home) makes here).same_running in
    let ran : is_some (state_at old).control.running ≡ true = ap is_some (sym same) ∙ (ap (λ (s : State). is_some s.control.running) after ∙ (ap (λ (c : Control). is_some c.running) (kept_more kept moved).is_control ∙ runs)) in
    let before : is_some k.running ≡ true = ap (λ (c : Control). is_some c.running) (sym kept.is_control) ∙ (ap (λ (s : State). is_some s.control.running) (sym (state_is kept 0 nothing)) ∙ ran) in
    rw (asked_stays {old = old} {new = new} {e = e} (not stays_home) makes here ran) (lent before)

-- a start that lacks a box asks for one, and any other keeps the box
since_start : (o : Option CoderId) (n : ℕ) (x : Asked) (at : Option ℕ) → at ≡ (asked_by (start_act o) n x).since → (is_some o ≡ true → at ≡ Some n) × (o ≡ None → at ≡ x.since)
since_start None n x at is = (λ some. absurd cc, λ none. is)
since_start (Some id) n x at is = (λ some. is, λ none. absurd cc)

-- what went out with the item of a start is as its box was asked for
pub out_start : (old new : Codec) (job : JobValue) → Makes old new (Entry.Start job.epoch job.number) → missing_id job ≡ lacking (state_at old).given (start_item (state_at old).control)
    → job.place ≡ length old.history → job.coder ≡ old.slot → IsAskedAt (asked_of old) old.slot → IsOutOf (went_out (is_some (missing_id job)) job.place job.coder) (asked_of new)
out_start old new job makes lacks place coder own =
    let e = Entry.Start job.epoch job.number in
    let since = since_start (missing_id job) (length old.history) (asked_in (acts_of old.opening old.history)) (asked_of new) (asked_next old new e (start_act (missing_id job)) makes (ap start_act (sym lacks))) in
    by (missing_id job) refl since
  where
    by : (o : Option CoderId) → missing_id job ≡ o → (is_some o ≡ true → asked_of new ≡ Some (length old.history)) × (o ≡ None → asked_of new ≡ (asked_in (acts_of old.opening old.history)).since) → IsOutOf (went_out (is_some o) job.place job.coder) (asked_of new)
    by None is since = rw (since.1 refl, coder) (named_own (asked_of old) old.slot own)
    by (Some id) is since = rw place (since.0 refl)

-- the job of a start is its codec's own
pub own_job : (job : JobValue) (o : Out) → o ≡ went_out (is_some (missing_id job)) job.place job.coder → IsOwnJob o job
own_job job o is = rw is (record { asks = λ some. rw some refl; has = λ none. rw none refl })

goes_start : (o : Option CoderId) (t : State) (a : Act) → a ≡ start_act o → is_some o ≡ true → LetsGo a t
goes_start None t a is some = absurd cc
goes_start (Some id) t a is some = rw is tt

pub back_start : (old new : Codec) (job : JobValue) → Makes old new (Entry.Start job.epoch job.number) → missing_id job ≡ lacking (state_at old).given (start_item (state_at old).control)
    → job.place ≡ length old.history → job.coder ≡ old.slot → IsAskedAt (asked_of old) old.slot → is_some (missing_id job) ≡ true → GoesBack new job.place job.coder
back_start old new job makes lacks place coder own = λ some.
    let goes = goes_start (missing_id job) (state_at old) (act_of (Entry.Start job.epoch job.number) (state_at old)) (ap start_act (sym lacks)) some in
    rw (place, coder) (back_box old new (Entry.Start job.epoch job.number) old.slot makes (λ _. goes) own)

-- ---- an end

old_is : (s : State) (d : DoneValue) (b : Bool) → IsEndOf s d → eqb d.epoch s.control.epoch ≡ b → is_old s.control.running s.control.epoch ≡ not b
old_is s d b end is = rw (end.is_running, end.same_epoch, is) refl

pub back_done : (old new : Codec) (d : DoneValue) (moment : ℕ) (b : Bool) (at : ℕ) (coder : Option Lent) → Makes old new (Entry.Done d.epoch d.number moment (outcome_of d.ended)) → IsEndOf (state_at old) d → eqb d.epoch (state_at old).control.epoch ≡ b
    → IsAskedAt (asked_of old) d.coder → at ≡ length old.history → coder ≡ handed_back b d.coder → GoesBack new at coder
back_done old new d moment b at coder makes end is own place same = rw (place, same) (by b is)
  where
    by : (b : Bool) → eqb d.epoch (state_at old).control.epoch ≡ b → GoesBack new (length old.history) (handed_back b d.coder)
    by true is = tt
    by false is = back_stopped old new (Entry.Done d.epoch d.number moment (outcome_of d.ended)) d.coder makes (λ _. old_is (state_at old) d false end is) own

pub own_done : (old new : Codec) (d : DoneValue) (moment : ℕ) (b : Bool) → Makes old new (Entry.Done d.epoch d.number moment (outcome_of d.ended)) → IsEndOf (state_at old) d → eqb d.epoch (state_at old).control.epoch ≡ b
    → IsAskedAt (asked_of old) d.coder → IsAskedAt (asked_of new) (kept_box b d.coder)
own_done old new d moment false makes end is own = tt
own_done old new d moment true makes end is own =
    let e = Entry.Done d.epoch d.number moment (outcome_of d.ended) in
    let x = asked_in (acts_of old.opening old.history) in
    let fresh : x.old ≡ false = (known old new e makes).old ∙ old_is (state_at old) d true end is in
    rw (asked_next old new e Ends makes refl, fresh) own
