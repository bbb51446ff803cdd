-- What the threads of a run made fits the script.
use Rattle.std.proofs.Common.{ℕ, zero, suc, ◌≡◌, ◌+◌, ◌<◌, inl, inr, List, [], ◌∷◌, length, map, take, Option, Some, refl, ap, sym, subst, ◌∙◌, arith}
use Rattle.std.specs.Prelude.{slice_get, IfSome}
use Rattle.std.proofs.lemmas.List.{length-take-le}
use Rattle.std.proofs.lemmas.Option.{slice_get_within}
use Rattle.wc_base.specs.Options.{some_same}
use Rattle.wc_base.specs.Views.{Log}
use Rattle.wc_base.specs.declared.who.Who.{Who}
use Rattle.wc_config.specs.declared.codec.CoderId.{CoderId}
use Rattle.wc_chunk.specs.declared.chunk.Chunk.{Chunk}
use Rattle.wc_pool.specs.declared.entry.PoolEntry.{PoolEntry}
use Rattle.codec_model.specs.declared.entry.Call.{Call}
use Rattle.codec_model.specs.declared.entry.Entry.{Entry}
use Rattle.codec_model.specs.declared.entry.Entry.TheVariants as entry
use Rattle.codec_model.specs.Replay.{State, opening_state, replay}
use Rattle.codec_accounts.specs.Bags.{SameBag}
use Rattle.codec_accounts.specs.Calls.{Climbs}
use Rattle.codec_accounts.specs.ListLaws.{there}
use Rattle.codec_accounts.specs.Owed.{at}
use Rattle.codec_logs.specs.declared.event.Event.{Event}
use Rattle.codec_logs.specs.Logs.{history_of, IsLog}
use Rattle.codec_logs.specs.LogLaws.{legal_log}
use Rattle.script_types.specs.declared.script.ScriptData.{ScriptData}
use Rattle.script_types.specs.declared.steps.Step.{Step}
use Rattle.report_text.specs.declared.result.StepResult.{StepResult}
use Rattle.media_variables.specs.Variables.{Medium, Came}
use Rattle.media_accounts.specs.Accounts.{step_by, own_in, own_of, came_in}
use Rattle.run_model.specs.Recorded.{Recorded, opening_at, steps_of}
use Rattle.run_model.specs.Fits.{result_in, entry_in, step_in, mark_of, marks_of, variables_at, came_at, brought_to, made_steps, HasArguments, IsLocalAnswer, IsResultOf, LookShows, LooksAreIn, LocalsAreIn}
use Rattle.run_model.specs.FitsLaws.{made_at}
use Rattle.run_model.specs.declared.run.CallerTrace.{CallerTrace}
use Rattle.run_model.specs.declared.run.Run.{Run}
use Rattle.call_laws.specs.Callers.{all_named, all_told, StandsGiven, CallersAnswer}
use Rattle.run_laws.specs.Fits.{ThreadsMade}
use Rattle.run_laws.specs.Paid.{histories_of}
use Rattle.run_laws.specs.PoolPaid.{PoolIsPaid}
use Rattle.desk_callers.specs.Deeds.{Deed, StandsAs, AreDeeds, came_of, owns_of, results_of, variables_after}
use Rattle.desk_callers.specs.PortDeeds.{received_in}
use Rattle.port_laws.specs.PortAccounts.{CallersMade}
use Rattle.wc_run.specs.Acted.{HaveActed}
use Rattle.wc_run.specs.Made.{IsMade, recorded_by}
use Rattle.wc_run.proofs.Acts.{IsDeedIn, MadeAt, deed_in, made_there}
use Rattle.wc_run.proofs.CallsTold.{AllTell, TellCalls, calls_told}
use Rattle.wc_run.proofs.Going.{ReplaysTo}
use Rattle.wc_run.proofs.Known.{AllReplay}
use Rattle.wc_run.proofs.Media.{came_deed, own_called, variables_same}
use Rattle.wc_run.proofs.PoolEntries.{done_by_entry}

-- ---- each codec

history_here : (k : ℕ) (logs : List (Log Event)) → at k (histories_of logs) ≡ history_of (at k logs)
history_here k [] = refl
history_here zero (l ∷ logs) = refl
history_here (suc k) (l ∷ logs) = history_here k logs

pub all_replay : (s : ScriptData) (logs : List (Log Event)) → ((k : ℕ) → k < length logs → IsLog k (opening_at s k) (at k logs)) → AllReplay s (histories_of logs)
all_replay s logs legal k =
    let o = opening_at s k in
    subst (λ (h : List Entry). (t : State) × ReplaysTo o h t) (sym (history_here k logs))
    (elim (there k logs) [
      | inl lt ↦ (_, (legal_log k o (at k logs) (legal k lt)).replays)
      | inr none ↦ (opening_state o, ap (λ (l : Log Event). replay o (history_of l)) none)
    ])

-- ---- each caller

-- the results of a caller are those of its deeds
pub record Acts (s : ScriptData) (media : List (List Chunk)) (hs : List (List Entry)) (c : ℕ) (rs : List StepResult) (ds : List Deed) : Type 0 where
  pub results : rs ≡ results_of ds
  pub are : AreDeeds s media c hs ds

abbrev results_in : List CallerTrace → List (List StepResult)
results_in ts = map (λ t. t.results) ts

acts_at : (s : ScriptData) (media : List (List Chunk)) (hs : List (List Entry)) (first i : ℕ) (ts : List CallerTrace) (all : List (List Deed)) → HaveActed s media hs first ts all → Acts s media hs (first + i) (at i (results_in ts)) (at i all)
acts_at s media hs first i [] [] x = record { results = refl; are = record { each = λ j d is. absurd cc; climbs = λ k. omega arith; rise = λ i j d e lt is. absurd cc } }
acts_at s media hs first i [] (ds ∷ all) x = absurd x
acts_at s media hs first i (t ∷ ts) [] x = absurd x
acts_at s media hs first zero (t ∷ ts) (ds ∷ all) x =
    let e : first ≡ first + 0 = omega arith in
    subst (λ (c : ℕ). Acts s media hs c t.results ds) e (record { results = x.0.results; are = x.0.are })
acts_at s media hs first (suc i) (t ∷ ts) (ds ∷ all) x =
    let e : suc first + i ≡ first + suc i = omega arith in
    subst (λ (c : ℕ). Acts s media hs c (at i (results_in ts)) (at i all)) e (acts_at s media hs (suc first) i ts all x.1)

tells : (s : ScriptData) (media : List (List Chunk)) (hs : List (List Entry)) (c : ℕ) (ds : List Deed) → AreDeeds s media c hs ds → TellCalls c 0 ds
tells s media hs c ds are i d is =
    let x = are.each i d is in
    let lt = slice_get_within ds i d is in
    let zero_more : i ≡ 0 + i = omega arith in
    let long : length (take i ds) ≡ 0 + i = length-take-le i ds (omega (arith, lt)) ∙ zero_more in
    (x.who ∙ ap (step_by c) long, λ place made. (let y = subst (StandsAs x.known d.who d.call) made x.is.stands in (y.0, y.1)))

all_tell : (s : ScriptData) (media : List (List Chunk)) (hs : List (List Entry)) (c : ℕ) (ts : List CallerTrace) (all : List (List Deed)) → HaveActed s media hs c ts all → AllTell c (results_in ts) all
all_tell s media hs c [] [] x = tt
all_tell s media hs c [] (ds ∷ all) x = absurd x
all_tell s media hs c (t ∷ ts) [] x = absurd x
all_tell s media hs c (t ∷ ts) (ds ∷ all) x = (x.0.results, tells s media hs c ds x.0.are, all_tell s media hs (suc c) ts all x.1)

module _ (s : ScriptData) (media : List (List Chunk)) (w : Recorded) (legal : AllReplay s w.codecs) (deeds : List (List Deed)) (acts : (c : ℕ) → Acts s media w.codecs c (at c w.callers) (at c deeds)) (received : (c j : ℕ) → w.received c j ≡ received_in deeds c j) (own : (c : ℕ) → own_in c w.pool ≡ owns_of s media (at c deeds)) where
  -- the variables before a deed
  abbrev before : ℕ → ℕ → List (Option Medium)
  before c j = variables_after s media (take j (at c deeds))

  deed_here : (c j : ℕ) (d : Deed) → slice_get (at c deeds) j ≡ Some d → IsDeedIn s media w c (before c j) j d
  deed_here c j d is = deed_in s media w c (at c deeds) legal (acts c).results (acts c).are j d is

  made_here : (c j : ℕ) (r : StepResult) → result_in w c j ≡ Some r → MadeAt (at c deeds) j r
  made_here c j r is = made_there (at c deeds) j r (ap (λ (l : List StepResult). slice_get l j) (sym (acts c).results) ∙ is)

  variables_here : (c j : ℕ) (d : Deed) → slice_get (at c deeds) j ≡ Some d → variables_at s media w c j ≡ before c j
  variables_here c j d is =
      let lt = slice_get_within (at c deeds) j d is in
      variables_same s media w c (at c deeds) (acts c).results (received c) (own c) (deed_here c) j (omega (arith, lt))

  -- ---- its calls

  pub each_made : (c j : ℕ) (r : StepResult) → result_in w c j ≡ Some r → (x : Step) × (step_in s c j ≡ Some x) × IsResultOf s w (record { caller = c; step = j }) x r
  each_made c j r is =
      let m = made_here c j r is in
      let x = deed_here c j m.deed m.there in
      (m.deed.step, x.step, subst (λ (z : Who × StepResult). IsResultOf s w z.0 m.deed.step z.1) (λ i. (x.who i, m.result i)) x.result)

  given_call : (c j k p : ℕ) (d : Deed) (vs : List (Option Medium)) → d.who ≡ step_by c j → step_in s c j ≡ Some d.step → StandsAs w.codecs d.who d.call (Some (k, p)) → IfSome d.call (λ x. HasArguments s media vs c x d.step) → vs ≡ variables_at s media w c j → StandsGiven s media w c j k p
  given_call c j k p d vs who step stands arguments same =
      let has : HasArguments s media vs c stands.0 d.step = subst (λ (o : Option Call). IfSome o (λ x. HasArguments s media vs c x d.step)) stands.1 arguments in
      record {
        call = stands.0;
        stands = subst (λ (y : Who). entry_in w k p ≡ Some (entry.Call y stands.0)) who stands.2;
        step = d.step;
        step_is = step;
        given = subst (λ (l : List (Option Medium)). HasArguments s media l c stands.0 d.step) same has;
      }

  pub each_given : (c j k p : ℕ) (r : StepResult) → result_in w c j ≡ Some r → made_at r ≡ Some (k, p) → StandsGiven s media w c j k p
  each_given c j k p r is made =
      let m = made_here c j r is in
      let d : Deed = m.deed in
      let x = deed_here c j d m.there in
      let stands = subst (StandsAs w.codecs d.who d.call) (ap made_at m.result ∙ made) x.stands in
      given_call c j k p d (before c j) x.who x.step stands x.arguments (sym (variables_here c j d m.there))

  -- ---- its looks

  pub looks_in : LooksAreIn s w
  looks_in = record {
    climbs = λ c k. subst (λ (l : List StepResult). Climbs k 0 (map mark_of l) (length (at k w.codecs))) (sym (acts c).results) ((acts c).are.climbs k);
    shows = λ c j x r step is. (
        let m = made_here c j r is in
        let y = deed_here c j m.deed m.there in
        let same : m.deed.step ≡ x = some_same m.deed.step x (sym y.step ∙ step) in
        subst (λ (z : Step × StepResult). LookShows s w c z.0 z.1) (λ i. (same i, m.result i)) y.shows
        );
  }

  -- ---- its other steps

  pub locals_in : LocalsAreIn s media w
  locals_in c j x r step is =
      let m = made_here c j r is in
      let d : Deed = m.deed in
      let y = deed_here c j d m.there in
      let same : d.step ≡ x = some_same d.step x (sym y.step ∙ step) in
      let came : came_at s media w c j ≡ came_of s media d (before c j) = came_deed s media w c (at c deeds) (acts c).results (received c) (own c) (deed_here c) j d m.there in
      let variables = variables_here c j d m.there in
      subst (λ (z : (List (Option Medium) × Option Came) × (Step × StepResult)). IsLocalAnswer s media z.0.0 z.0.1 c z.1.0 z.1.1) (λ i. ((sym variables i, sym came i), (same i, m.result i))) y.answers

  -- ---- ports

  pub callers_made : CallersMade s media w.codecs deeds w
  callers_made = record { are = λ c. (acts c).are; results = λ c. (acts c).results; received = received; variables = λ c j d is. variables_here c j d is }

-- ---- the whole run

-- what callers did, by all that was recorded
record AllDid (s : ScriptData) (media : List (List Chunk)) (deeds : List (List Deed)) (w : Recorded) : Type 0 where
  pub callers : CallersAnswer s media w
  pub looks : LooksAreIn s w
  pub locals : LocalsAreIn s media w
  pub made : CallersMade s media w.codecs deeds w
  pub own : (c : ℕ) → own_in c w.pool ≡ own_of (came_in (steps_of s) (brought_to s media w) w.pool c) (made_steps w c)

-- the pool has of each caller what its deeds did to it, in order
abbrev pub OwnsAre : ScriptData → List (List Chunk) → List (List Deed) → List PoolEntry → Type 0
OwnsAre s media deeds pool = (c : ℕ) → own_in c pool ≡ owns_of s media (at c deeds)

module _ (s : ScriptData) (media : List (List Chunk)) (made : List CoderId) (run : Run) (x : IsMade s media made run) where
  all_did : OwnsAre s media x.deeds run.pool → AllDid s media x.deeds (recorded_by x.deeds run)
  all_did own =
      let w : Recorded = recorded_by x.deeds run in
      let received : (c j : ℕ) → w.received c j ≡ received_in x.deeds c j = λ c j. refl in
      let legal : AllReplay s w.codecs = subst (AllReplay s) (sym x.codecs) (all_replay s x.logs x.logs_are) in
      let acts : (c : ℕ) → Acts s media w.codecs c (at c w.callers) (at c x.deeds) = λ c. (let z : 0 + c ≡ c = omega arith in subst (λ (n : ℕ). Acts s media w.codecs n (at c w.callers) (at c x.deeds)) z (acts_at s media w.codecs 0 c run.callers x.deeds x.acted)) in
      let calls = calls_told (opening_at s) x.logs w.callers x.deeds (all_tell s media w.codecs 0 run.callers x.deeds x.acted) x.calls in
      record {
        callers = record {
          made = each_made s media w legal x.deeds acts received own;
          given = each_given s media w legal x.deeds acts received own;
          calls = subst (λ (hs : List (List Entry)). SameBag (all_named 0 hs) (all_told 0 (marks_of w))) (sym x.codecs) calls;
        };
        looks = looks_in s media w legal x.deeds acts received own;
        locals = locals_in s media w legal x.deeds acts received own;
        made = callers_made s media w legal x.deeds acts received own;
        own = λ c. own_called s media w c (at c x.deeds) (acts c).results (received c) (own c) (deed_in s media w c (at c x.deeds) legal (acts c).results (acts c).are);
      }

  pub delivers : CallersMade s media (recorded_by x.deeds run).codecs x.deeds (recorded_by x.deeds run)
  delivers = (all_did x.own).made

  pool_paid : PoolIsPaid (opening_at s) x.logs run.pool
  pool_paid = record { logs_are = x.logs_are; causes = λ k place. (x.media_causes k place ∙ done_by_entry k place run.pool) }

  pub threads_made : ThreadsMade s media made x.logs (recorded_by x.deeds run)
  threads_made =
      let all = all_did x.own in
      record {
        codecs = x.codecs;
        registry = record { legal = x.slots_are_legal; logs_are = x.logs_are; called = x.slots_called; causes = x.slot_causes; told = x.told };
        pool_is_legal = x.pool_is_legal;
        pool = pool_paid;
        own = all.own;
        callers = all.callers;
        looks = all.looks;
        locals = all.locals;
      }
