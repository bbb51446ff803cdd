-- Laws of items that run by a thread's own starts.
use Rattle.std.proofs.Common.{ℕ, zero, suc, ◌≡◌, Bool, true, false, List, [], ◌∷◌, Option, Some, None, ap, sym, subst, ◌∙◌, set}
use Rattle.std.specs.Prelude.{slice_get, Result, Ok, Err}
use Rattle.atomic_table.specs.declared.shared.Seat.{Seat}
use Rattle.wc_base.specs.Views.{Log}
use Rattle.wc_base.specs.declared.error.NoMemory.{NoMemory}
use Rattle.wc_base.specs.declared.seat.Passage.TheVariants.{Made, Look}
use Rattle.wc_base.specs.declared.seat.View.{View}
use Rattle.wc_base.specs.declared.who.Who.{Who}
use Rattle.coder_api.specs.declared.slot.SlotEntry.{SlotEntry}
use Rattle.codec_model.specs.declared.entry.{Opening.Opening, Entry.Entry, Call.Call, PromiseState.PromiseState}
use Rattle.codec_model.specs.declared.entry.Entry.TheVariants as entry
use Rattle.codec_model.specs.Held.{is_removal}
use Rattle.codec_core.specs.Job.{DoneValue}
use Rattle.codec_accounts.specs.Boxes.{Act, Asks, Begins, Ends, Removes, Other, act_of, removal_act}
use Rattle.seat_lock.specs.Logs.{IsNotIn, NoneBy, Continues}
use Rattle.seat_lock.specs.Seats.{Sitting}
use Rattle.codec_logs.specs.declared.event.Event.{Event}
use Rattle.codec_logs.specs.Logs.{Track, opening_track, act_in, entry_of, runner_by, track_made, track_from, track}
use Rattle.codec_logs.specs.LogLaws.{track_append}
use Rattle.work_moments.specs.Moments.{Telling}
use Rattle.shared_codec.specs.declared.settling.Answer.{Answer}
use Rattle.shared_codec.specs.Looks.{PromiseTells}
use Rattle.shared_codec.specs.Settled.{AnswerTells, TurnOnceTells, ReclaimOnceTells}
use Rattle.shared_codec.specs.Shared.{Shared, MadeIn, LookedIn, state_in}
use Rattle.shared_codec.specs.Workers.{FinishTells, WorkTells}
use Rattle.codec_desk.specs.Each.{Each, OneAt}
use Rattle.codec_desk.specs.Runs.{IsNoneOf, RunsNone, EachRunsNone}

-- ---- the seat whose item is at work

runner_other : (a : Act) (n : ℕ) (r : Option ℕ) (numbers : List ℕ) → IsNotIn n numbers → IsNoneOf r numbers → IsNoneOf (runner_by a n r) numbers
runner_other (Asks id) n r numbers out none = out
runner_other Begins n r numbers out none = out
runner_other Ends n r numbers out none = tt
runner_other Removes n r numbers out none = none
runner_other Other n r numbers out none = none

-- others start none of a seat's items
pub runner_others : (numbers : List ℕ) (x : Track) (l : Log Event) → NoneBy numbers l → IsNoneOf x.runner numbers → IsNoneOf (track_from x l).runner numbers
runner_others numbers x [] others none = none
runner_others numbers x ((n, Look) ∷ ps) others none = runner_others numbers x ps others.1 none
runner_others numbers x ((n, Made e) ∷ ps) others none = runner_others numbers (track_made n e x) ps others.1 (runner_other (act_in e x) n x.runner numbers others.0 none)

pub runner_continues : (numbers : List ℕ) (o : Opening) (a b : Log Event) → Continues numbers a b → IsNoneOf (track o a).runner numbers → IsNoneOf (track o b).runner numbers
runner_continues numbers o a b goes none =
    subst (λ (x : Track). IsNoneOf x.runner numbers) (sym (ap (track o) goes.is ∙ track_append (opening_track o) a goes.more))
    (runner_others numbers (track o a) goes.more goes.by_others none)

removal_leaves : (b : Bool) (n : ℕ) (r : Option ℕ) (numbers : List ℕ) → IsNoneOf r numbers → IsNoneOf (runner_by (removal_act b) n r) numbers
removal_leaves true n r numbers none = none
removal_leaves false n r numbers none = none

-- ---- one passage

module _ {S : Type 0} where
  -- a look
  pub none_looked : (s : Shared) (a b : Seat (Option S) (View Event)) → LookedIn s a b → RunsNone s a → RunsNone s b
  none_looked s a b x none =
      let p = x.passes in
      let l : Log Event = (a.me.0.number, Look) ∷ [] in
      subst (λ (m : Sitting S Event). IsNoneOf (track s.opening m.0.log).runner m.0.numbers) (sym p.view)
      (subst (λ (x : Track). IsNoneOf x.runner a.me.0.numbers) (sym (track_append (opening_track s.opening) p.log l))
      (runner_continues a.me.0.numbers s.opening a.me.0.log p.log p.continues none))

  -- an entry, by what it makes of the runner
  pub none_made : (s : Shared) (e : Entry) (acquires : List SlotEntry) (a b : Seat (Option S) (View Event)) (m : MadeIn s e acquires a b)
      → (IsNoneOf (track s.opening m.passes.log).runner a.me.0.numbers → IsNoneOf (runner_by (act_of e (state_in s m.passes.log)) a.me.0.number (track s.opening m.passes.log).runner) a.me.0.numbers)
      → RunsNone s a → RunsNone s b
  none_made s e acquires a b m step none =
      let p = m.passes in
      let x : Track = track s.opening p.log in
      let l : Log Event = (a.me.0.number, Made m.event) ∷ [] in
      let before : IsNoneOf x.runner a.me.0.numbers = runner_continues a.me.0.numbers s.opening a.me.0.log p.log p.continues none in
      let after : IsNoneOf (runner_by (act_of (entry_of m.event) x.state) a.me.0.number x.runner) a.me.0.numbers =
      subst (λ (e : Entry). IsNoneOf (runner_by (act_of e x.state) a.me.0.number x.runner) a.me.0.numbers) (sym m.entry_is) (step before) in
      subst (λ (m : Sitting S Event). IsNoneOf (track s.opening m.0.log).runner m.0.numbers) (sym p.view)
      (subst (λ (x : Track). IsNoneOf x.runner a.me.0.numbers) (sym (track_append (opening_track s.opening) p.log l)) after)

  -- ---- steps of threads

  -- the end of an item
  pub none_finished : (s : Shared) (d : DoneValue) (acquires : List SlotEntry) (moment place : ℕ) (a b : Seat (Option S) (View Event)) → FinishTells s d acquires moment place a b → RunsNone s b
  none_finished s d acquires moment place a b told =
      let m = told.2.made in
      let p = m.passes in
      let x : Track = track s.opening p.log in
      let l : Log Event = (a.me.0.number, Made m.event) ∷ [] in
      let after : IsNoneOf (runner_by (act_of (entry_of m.event) x.state) a.me.0.number x.runner) a.me.0.numbers =
      subst (λ (e : Entry). IsNoneOf (runner_by (act_of e x.state) a.me.0.number x.runner) a.me.0.numbers) (sym m.entry_is) tt in
      subst (λ (m : Sitting S Event). IsNoneOf (track s.opening m.0.log).runner m.0.numbers) (sym p.view)
      (subst (λ (x : Track). IsNoneOf x.runner a.me.0.numbers) (sym (track_append (opening_track s.opening) p.log l)) after)

  -- an item, from its start to its end, or a look
  pub none_worked : (s : Shared) (result : Option ℕ) (old now : Telling) (a b : Seat (Option S) (View Event)) → WorkTells s result old now a b → RunsNone s a → RunsNone s b
  none_worked s None old now a b told none = none_looked s a b told.0.looked none
  none_worked s (Some place) old now a b told none = none_finished s told.done told.acquires told.moment place told.middle b told.finish

  pub none_answered : (s : Shared) (who : Who) (call : Call) (result : Result Answer NoMemory) (a b : Seat (Option S) (View Event)) → AnswerTells s who call result a b → RunsNone s a → RunsNone s b
  none_answered s who call (Ok answer) a b told none =
      let m = told.2.gave.made in
      none_made s (entry.Call who call) [] a b m (λ h. removal_leaves (is_removal (entry.Call who call) (state_in s m.passes.log)) a.me.0.number (track s.opening m.passes.log).runner a.me.0.numbers h) none
  none_answered s who call (Err e) a b told none = none_looked s a b told.looked none

  pub none_turned : (s : Shared) (result : Option ℕ) (a b : Seat (Option S) (View Event)) → TurnOnceTells s result a b → RunsNone s a → RunsNone s b
  none_turned s (Some place) a b told none =
      let m = told.2.gave.made in
      none_made s entry.Turn [] a b m (λ h. removal_leaves (is_removal entry.Turn (state_in s m.passes.log)) a.me.0.number (track s.opening m.passes.log).runner a.me.0.numbers h) none
  none_turned s None a b told none = none_looked s a b told.looked none

  pub none_seen : (s : Shared) (promise : ℕ) (seen : ℕ × PromiseState) (a b : Seat (Option S) (View Event)) → PromiseTells s promise seen a b → RunsNone s a → RunsNone s b
  none_seen s promise seen a b told none = none_looked s a b told.looked none

  pub none_reclaimed : (s : Shared) (now : ℕ) (result : Option ℕ) (a b : Seat (Option S) (View Event)) → ReclaimOnceTells s now result a b → RunsNone s a → RunsNone s b
  none_reclaimed s now (Some place) a b told none =
      let m = told.2.made in
      none_made s (entry.Reclaim now) [] a b m (λ h. removal_leaves (is_removal (entry.Reclaim now) (state_in s m.passes.log)) a.me.0.number (track s.opening m.passes.log).runner a.me.0.numbers h) none
  none_reclaimed s now None a b told none = none_looked s a b told.looked none

  pub none_each : (xs : List Shared) (us vs : List (Seat (Option S) (View Event))) → Each (λ s u v. RunsNone s u → RunsNone s v) xs us vs → EachRunsNone xs us → EachRunsNone xs vs
  none_each [] [] [] h none = tt
  none_each [] [] (v ∷ vs) h none = absurd h
  none_each [] (u ∷ us) vs h none = absurd h
  none_each (x ∷ xs) [] vs h none = absurd h
  none_each (x ∷ xs) (u ∷ us) [] h none = absurd h
  none_each (x ∷ xs) (u ∷ us) (v ∷ vs) h none = (h.0 none.0, none_each xs us vs h.1 none.1)

  none_set : (i : ℕ) (xs : List Shared) (us : List (Seat (Option S) (View Event))) (x : Shared) (u v : Seat (Option S) (View Event)) → slice_get xs i ≡ Some x → slice_get us i ≡ Some u → (RunsNone x u → RunsNone x v) → EachRunsNone xs us → EachRunsNone xs (set us i v)
  none_set i [] us x u v at there step none = absurd cc
  none_set i (y ∷ xs) [] x u v at there step none = absurd none
  none_set zero (y ∷ xs) (w ∷ us) x u v at there step none =
      let e : x ≡ y = cc in
      let f : u ≡ w = cc in
      (subst (λ (z : Shared × Seat (Option S) (View Event)). RunsNone z.0 z.1 → RunsNone z.0 v) (λ i. (e i, f i)) step none.0, none.1)
  none_set (suc i) (y ∷ xs) (w ∷ us) x u v at there step none = (none.0, none_set i xs us x u v at there step none.1)

  -- a step at one codec of a desk
  pub none_at : (P : Shared → Seat (Option S) (View Event) → Seat (Option S) (View Event) → Type 0) → ((s : Shared) (a b : Seat (Option S) (View Event)) → P s a b → RunsNone s a → RunsNone s b) → (place : ℕ) (xs : List Shared) (us vs : List (Seat (Option S) (View Event))) → OneAt place P xs us vs → EachRunsNone xs us → EachRunsNone xs vs
  none_at P step place xs us vs one none =
      subst (λ (l : List (Seat (Option S) (View Event))). EachRunsNone xs l) (sym one.after_is)
      (none_set place xs us one.partner one.before one.after one.partner_is one.before_is (step one.partner one.before one.after one.so) none)
