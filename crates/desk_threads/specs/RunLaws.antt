-- Laws of items that run by a thread's own starts, and of quiet codecs.
use Rattle.std.proofs.Common.{ℕ, ◌≡◌, Bool, true, false, cond, List, [], ◌∷◌, ◌++◌, Option, Some, None, refl, ap, sym, subst, ◌∙◌, ⊎_elim}
use Rattle.std.specs.Prelude.{is_some}
use Rattle.atomic_table.specs.declared.shared.Seat.{Seat}
use Rattle.wc_base.specs.Views.{Log}
use Rattle.wc_base.specs.declared.seat.Passage.TheVariants.{Made, Look}
use Rattle.wc_base.specs.declared.seat.View.{View}
use Rattle.codec_model.specs.Control.{start_item}
use Rattle.codec_accounts.specs.Boxes.{Act, Asks, Begins, Ends, Removes, Other}
use Rattle.seat_lock.specs.Logs.{Has, IsNotIn, AllBy}
use Rattle.seat_lock.specs.Own.{is_in}
use Rattle.seat_lock.specs.Seats.{Sitting}
use Rattle.seat_lock.specs.Since.{entries_by}
use Rattle.codec_logs.specs.declared.event.Event.{Event}
use Rattle.codec_logs.specs.Logs.{Track, opening_track, act_in, runner_by, track_made, track_from, track}
use Rattle.codec_logs.specs.LogLaws.{track_append, legal_log}
use Rattle.shared_codec.specs.DueLaws.{has_in}
use Rattle.shared_codec.specs.Shared.{Shared}
use Rattle.codec_desk.specs.declared.desk.Desk.{Desk}
use Rattle.codec_desk.specs.declared.desk.Seats.{Seats}
use Rattle.codec_desk.specs.Desks.{SeesMore}
use Rattle.codec_desk.specs.Each.{Each}
use Rattle.codec_desk.specs.Rests.{Rested, NoItem, NoTask}
use Rattle.codec_desk.specs.Runs.{IsNoneOf, RunsNone, EachRunsNone}
use Rattle.codec_desk.specs.RunLaws.{runner_others, runner_continues}
use Rattle.desk_threads.specs.Accounts.{EachByAll, AreAll}
use Rattle.desk_threads.specs.Parts.{EachOfThree, IsSplit, IsJoin}
use Rattle.desk_threads.specs.Rested.{CameToRest}
use Rattle.desk_threads.specs.Runs.{IsQuiet, EachIsQuiet}

-- ---- the seat whose item is at work

both_none : (n : ℕ) (a b : List ℕ) → IsNotIn n a → IsNotIn n b → IsNotIn n (a ++ b)
both_none n [] b h k = k
both_none n (m ∷ ms) b h k = (h.0, both_none n ms b h.1 k)

runner_both : (r : Option ℕ) (a b : List ℕ) → IsNoneOf r a → IsNoneOf r b → IsNoneOf r (a ++ b)
runner_both None a b h k = tt
runner_both (Some n) a b h k = both_none n a b h k

-- where all passages are of these numbers, so is the start of the item at work
abbrev IsOneOf : Option ℕ → List ℕ → Type 0
IsOneOf None numbers = Unit {0}
IsOneOf (Some n) numbers = Has n numbers

runner_one : (a : Act) (n : ℕ) (r : Option ℕ) (numbers : List ℕ) → Has n numbers → IsOneOf r numbers → IsOneOf (runner_by a n r) numbers
runner_one (Asks id) n r numbers has one = has
runner_one Begins n r numbers has one = has
runner_one Ends n r numbers has one = tt
runner_one Removes n r numbers has one = one
runner_one Other n r numbers has one = one

runner_all : (numbers : List ℕ) (x : Track) (l : Log Event) → AllBy numbers l → IsOneOf x.runner numbers → IsOneOf (track_from x l).runner numbers
runner_all numbers x [] all one = one
runner_all numbers x ((n, Look) ∷ ps) all one = runner_all numbers x ps all.1 one
runner_all numbers x ((n, Made e) ∷ ps) all one = runner_all numbers (track_made n e x) ps all.1 (runner_one (act_in e x) n x.runner numbers all.0 one)

in_and_out : (n : ℕ) (l : List ℕ) → Has n l → IsNotIn n l → ⊥
in_and_out n [] h k = h
in_and_out n (m ∷ ms) h k = ⊎_elim (λ e. k.0 e) (λ i. in_and_out n ms i k.1) h

no_runner : (r : Option ℕ) (numbers : List ℕ) → IsOneOf r numbers → IsNoneOf r numbers → r ≡ None
no_runner None numbers one none = refl
no_runner (Some n) numbers one none = absurd (in_and_out n numbers one none)

module _ {S : Type 0} where
  -- ---- seats that are split off and joined

  none_left : (s : Shared) (a b n : Seat (Option S) (View Event)) → IsSplit s.id a b n → RunsNone s a → RunsNone s b
  none_left s a b n split none = subst (λ (m : Sitting S Event). IsNoneOf (track s.opening m.0.log).runner m.0.numbers) (sym split.left.1) none

  none_new : (s : Shared) (a b n : Seat (Option S) (View Event)) → IsSplit s.id a b n → RunsNone s n
  none_new s a b n split =
      subst (λ (m : Sitting S Event). IsNoneOf (track s.opening m.0.log).runner m.0.numbers) (sym split.new.view)
      (runner_others (split.new.number ∷ []) (opening_track s.opening) a.me.0.log split.new.made_none tt)

  none_joined : (s : Shared) (a o b : Seat (Option S) (View Event)) → IsJoin a o b → RunsNone s a → RunsNone s o → RunsNone s b
  none_joined s a o b join none other =
      let r = (track s.opening b.me.0.log).runner in
      subst (IsNoneOf r) (sym (ap (λ (m : Sitting S Event). m.0.numbers) join.both.view))
      (runner_both r a.me.0.numbers o.me.0.numbers (runner_continues a.me.0.numbers s.opening a.me.0.log b.me.0.log join.both.continues_one none) (runner_continues o.me.0.numbers s.opening o.me.0.log b.me.0.log join.both.continues_other other))

  pub each_none_left : (xs : List Shared) (us vs ws : List (Seat (Option S) (View Event))) → EachOfThree (λ s u v w. IsSplit s.id u v w) xs us vs ws → EachRunsNone xs us → EachRunsNone xs vs
  each_none_left [] [] [] [] h none = tt
  each_none_left [] [] [] (w ∷ ws) h none = absurd h
  each_none_left [] [] (v ∷ vs) ws h none = absurd h
  each_none_left [] (u ∷ us) vs ws h none = absurd h
  each_none_left (x ∷ xs) [] vs ws h none = absurd h
  each_none_left (x ∷ xs) (u ∷ us) [] ws h none = absurd h
  each_none_left (x ∷ xs) (u ∷ us) (v ∷ vs) [] h none = absurd h
  each_none_left (x ∷ xs) (u ∷ us) (v ∷ vs) (w ∷ ws) h none = (none_left x u v w h.0 none.0, each_none_left xs us vs ws h.1 none.1)

  pub each_none_new : (xs : List Shared) (us vs ws : List (Seat (Option S) (View Event))) → EachOfThree (λ s u v w. IsSplit s.id u v w) xs us vs ws → EachRunsNone xs ws
  each_none_new [] [] [] [] h = tt
  each_none_new [] [] [] (w ∷ ws) h = absurd h
  each_none_new [] [] (v ∷ vs) ws h = absurd h
  each_none_new [] (u ∷ us) vs ws h = absurd h
  each_none_new (x ∷ xs) [] vs ws h = absurd h
  each_none_new (x ∷ xs) (u ∷ us) [] ws h = absurd h
  each_none_new (x ∷ xs) (u ∷ us) (v ∷ vs) [] h = absurd h
  each_none_new (x ∷ xs) (u ∷ us) (v ∷ vs) (w ∷ ws) h = (none_new x u v w h.0, each_none_new xs us vs ws h.1)

  pub each_none_joined : (xs : List Shared) (us vs ws : List (Seat (Option S) (View Event))) → EachOfThree (λ s u v w. IsJoin u v w) xs us vs ws → EachRunsNone xs us → EachRunsNone xs vs → EachRunsNone xs ws
  each_none_joined [] [] [] [] h none other = tt
  each_none_joined [] [] [] (w ∷ ws) h none other = absurd h
  each_none_joined [] [] (v ∷ vs) ws h none other = absurd h
  each_none_joined [] (u ∷ us) vs ws h none other = absurd h
  each_none_joined (x ∷ xs) [] vs ws h none other = absurd h
  each_none_joined (x ∷ xs) (u ∷ us) [] ws h none other = absurd h
  each_none_joined (x ∷ xs) (u ∷ us) (v ∷ vs) [] h none other = absurd h
  each_none_joined (x ∷ xs) (u ∷ us) (v ∷ vs) (w ∷ ws) h none other = (none_joined x u v w h.0 none.0 other.0, each_none_joined xs us vs ws h.1 none.1 other.1)

-- ---- all passages, and no entry since a look

module _ {E : Type 0} where
  all_rest : (numbers : List ℕ) (a b : Log E) → AllBy numbers (a ++ b) → AllBy numbers b
  all_rest numbers [] b all = all
  all_rest numbers (p ∷ ps) b all = all_rest numbers ps b all.1

  no_entry : (b : Bool) (l : List E) → cond b l l ≡ [] → l ≡ []
  no_entry true l none = none
  no_entry false l none = none

-- looks change nothing
only_looks : (numbers : List ℕ) (l : Log Event) → AllBy numbers l → entries_by numbers l ≡ [] → (x : Track) → track_from x l ≡ x
only_looks numbers [] all none x = refl
only_looks numbers ((n, Look) ∷ ps) all none x = only_looks numbers ps all.1 (no_entry (is_in n numbers) (entries_by numbers ps) none) x
only_looks numbers ((n, Made e) ∷ ps) all none x =
    let made : e ∷ entries_by numbers ps ≡ [] = subst (λ (b : Bool). cond b (e ∷ entries_by numbers ps) (entries_by numbers ps) ≡ []) (has_in n numbers all.0) none in
    absurd cc

is_none : {X : Type 0} (o : Option X) → is_some o ≡ false → o ≡ None
is_none None h = refl
is_none (Some x) h = absurd cc

module _ {S : Type 0} where
  -- with all passages, and no entry since it looked, a seat has seen what it looked at
  rested_track : (P : Shared → Log Event → Type 0) (s : Shared) (a b : Seat (Option S) (View Event)) → AllBy b.me.0.numbers b.me.0.log → b.me.0.numbers ≡ a.me.0.numbers → (r : Rested P s a b) → track s.opening b.me.0.log ≡ track s.opening (a.me.0.log ++ r.looked.before)
  rested_track P s a b all numbers r =
      let x = r.looked in
      let seen : Log Event = a.me.0.log ++ x.before in
      let look : Log Event = (a.me.0.number, Look) ∷ x.after in
      let mine : AllBy a.me.0.numbers (seen ++ look) = subst (λ (z : List ℕ × Log Event). AllBy z.0 z.1) (λ i. (numbers i, x.seen i)) all in
      ap (track s.opening) x.seen
      ∙ (track_append (opening_track s.opening) seen look
      ∙ only_looks a.me.0.numbers x.after ((all_rest a.me.0.numbers seen look mine).1) r.none_after (track s.opening seen))

  pub quiet_one : (s : Shared) (a b : Seat (Option S) (View Event)) → AllBy b.me.0.numbers b.me.0.log → b.me.0.numbers ≡ a.me.0.numbers → RunsNone s b → Rested NoItem s a b → Rested NoTask s a b → IsQuiet s b.me.0.log
  quiet_one s a b all numbers none items tasks =
      let one = rested_track NoItem s a b all numbers items in
      let two = rested_track NoTask s a b all numbers tasks in
      let legal = legal_log s.codec s.opening (a.me.0.log ++ items.looked.before) items.looked.legal in
      let runner : (track s.opening b.me.0.log).runner ≡ None = no_runner (track s.opening b.me.0.log).runner b.me.0.numbers (runner_all b.me.0.numbers (opening_track s.opening) b.me.0.log all tt) none in
      let rests : is_some (track s.opening b.me.0.log).state.control.running ≡ false =
      subst (λ (x : Track). is_some x.state.control.running ≡ is_some x.runner) (sym one) (sym legal.runs ∙ sym legal.runner) ∙ ap is_some runner in
      record {
        running = is_none (track s.opening b.me.0.log).state.control.running rests;
        item = subst (λ (x : Track). start_item x.state.control ≡ None) (sym one) items.looked.so;
        task = subst (λ (x : Track). x.state.control.tasks ≡ []) (sym two) tasks.looked.so;
      }

  each_quiet : (xs : List Shared) (us vs : List (Seat (Option S) (View Event))) → EachByAll vs → Each SeesMore xs us vs → EachRunsNone xs vs → Each (Rested NoItem) xs us vs → Each (Rested NoTask) xs us vs → EachIsQuiet xs vs
  each_quiet [] [] [] all sees none items tasks = tt
  each_quiet [] [] (v ∷ vs) all sees none items tasks = absurd sees
  each_quiet [] (u ∷ us) vs all sees none items tasks = absurd sees
  each_quiet (x ∷ xs) [] vs all sees none items tasks = absurd sees
  each_quiet (x ∷ xs) (u ∷ us) [] all sees none items tasks = absurd sees
  each_quiet (x ∷ xs) (u ∷ us) (v ∷ vs) all sees none items tasks =
      (quiet_one x u v all.0 sees.0.kept.numbers none.0 items.0 tasks.0, each_quiet xs us vs all.1 sees.1 none.1 items.1 tasks.1)

module _ {C : Type 0} where
  pub quiet_rest : (desk : Desk C) (a b : Seats C) → AreAll b → EachRunsNone desk.codecs.items b.codecs.items → CameToRest desk a b → EachIsQuiet desk.codecs.items b.codecs.items
  quiet_rest desk a b all none rest = each_quiet desk.codecs.items rest.middle.codecs.items b.codecs.items all.codecs rest.after.seats none rest.items rest.tasks
