-- What callers did: each step that was made, as a deed. A caller is as a codec: its deeds are its history, its variables of media the
-- state, and what it did to the pool and which calls it made are what its deeds call for.
use Rattle.std.specs.Prelude.{ℕ, zero, suc, ◌≡◌, ◌<◌, ◌≤◌, List, [], ◌∷◌, ◌++◌, map, take, length, slice_get, Option, Some, None, IfSome, option_map, option_and_then}
use Rattle.wc_base.specs.declared.who.Who.{Who}
use Rattle.wc_chunk.specs.declared.chunk.Chunk.{Chunk}
use Rattle.codec_definitions.specs.declared.unit.Unit as output
use Rattle.codec_model.specs.declared.entry.Call.{Call}
use Rattle.codec_model.specs.declared.entry.PromiseState.TheVariants as promise
use Rattle.codec_model.specs.declared.entry.Entry.{Entry}
use Rattle.codec_model.specs.declared.entry.Entry.TheVariants as entry
use Rattle.codec_accounts.specs.Owed.{state_on, owed, at}
use Rattle.codec_accounts.specs.Calls.{Climbs}
use Rattle.script_types.specs.declared.script.ScriptData.{ScriptData}
use Rattle.shared_codec.specs.Dues.{Called}
use Rattle.script_types.specs.declared.steps.Step.{Step}
use Rattle.script_types.specs.declared.steps.Step.TheVariants as step
use Rattle.script_types.specs.declared.steps.MediaStep.{MediaStep}
use Rattle.report_text.specs.declared.result.StepResult.{StepResult}
use Rattle.report_text.specs.declared.result.StepResult.TheVariants as result
use Rattle.media_variables.specs.Variables.{Medium, Numbers, Came, Taken, Received, Brought, media_came}
use Rattle.media_accounts.specs.Accounts.{StepOp, step_by, step_op, done_by, media_of, variables_by}
use Rattle.run_model.specs.Recorded.{Recorded, copied_chunk, none_received, steps_of}
use Rattle.run_model.specs.Fits.{step_in, mark_of, taken_by, received_by, port_received, IsResultOf, LookShows, HasArguments, IsLocalAnswer}
use Rattle.run_model.specs.FitsLaws.{made_at, look_of}

-- A step that a caller made, and its result. With it the call that it made of a codec, if it made one; the numbers in its own entry
-- of the pool, which are of no account where it has none; the output that it took, if it took one; what it received from a port; and
-- its time, by which posts come before their receives.
pub record Deed : Type 0 where
  pub who : Who
  pub step : Step
  pub result : StepResult
  pub call : Option Call
  pub numbers : Numbers
  pub taken : Option output.Unit
  pub received : Option Received
  pub time : ℕ

-- the call of a caller's step, at the codec and the place that a result names, if it names one
abbrev pub called_as : Who → Option Call → Option (ℕ × ℕ) → List Called
called_as who (Some x) (Some there) = record { codec = there.0; place = there.1; who = who; call = x } ∷ []
called_as who _ _ = []

-- the calls that a deed made: one, or none
abbrev pub calls_by : Deed → List Called
calls_by d = called_as d.who d.call (made_at d.result)

-- ---- a caller's variables

-- this output is taken, by a step that answers so
abbrev pub taken_as : StepResult → output.Unit → Taken
taken_as answer u = record { unit = u; answer = answer }

-- `s` is the script, and `media` has the chunks of its chunk files
module _ (s : ScriptData) (media : List (List Chunk)) where
  -- what was given to the deed from elsewhere
  abbrev pub brought_by : Deed → MediaStep → Brought
  brought_by d x = record { chunk = copied_chunk media (steps_of s d.who.caller) x; taken = option_map (taken_as d.result) d.taken; received = received_by x d.received }

  -- what a step on media came to, after these variables; none of any other step
  abbrev pub came_of : Deed → List (Option Medium) → Option Came
  came_of d vs = option_and_then (λ x. media_came d.numbers d.who (brought_by d x) x vs) (media_of d.step)

  -- the variables after a deed
  abbrev pub after_deed : Deed → List (Option Medium) → List (Option Medium)
  after_deed d vs = variables_by (came_of d vs) vs

  -- what a deed did to the pool itself: one thing, or nothing
  abbrev pub own_due : ℕ → Deed → List (Option Medium) → List StepOp
  own_due j d vs = map (step_op d.who.step) (done_by (came_of d vs))

  -- the variables after some deeds, and what these did to the pool, in order
  abbrev pub variables_after : List Deed → List (Option Medium)
  variables_after ds = state_on after_deed [] ds

  abbrev pub owns_of : List Deed → List StepOp
  owns_of ds = owed after_deed own_due 0 [] ds

-- the calls that deeds made, in order
abbrev pub calls_of : List Deed → List Called
calls_of [] = []
calls_of (d ∷ ds) = calls_by d ++ calls_of ds

abbrev pub results_of : List Deed → List StepResult
results_of ds = map (λ d. d.result) ds

-- ---- what deeds say

-- the results of the caller with this number, and of no other
abbrev pub results_alone : ℕ → List StepResult → List (List StepResult)
results_alone zero rs = rs ∷ []
results_alone (suc c) rs = [] ∷ results_alone c rs

-- what a caller knows alone: its results so far, and the codecs' histories as far as it has seen them
abbrev pub known_by : ℕ → List StepResult → List (List Entry) → Recorded
known_by c rs hs = record { callers = results_alone c rs; codecs = hs; pool = []; slots = []; received = none_received }

-- each history goes on
abbrev pub GoOn : List (List Entry) → List (List Entry) → Type 0
GoOn hs later = (k : ℕ) → (more : List Entry) × (at k later ≡ at k hs ++ more)

-- where a result names an entry, it is that of the deed's call
abbrev pub StandsAs : List (List Entry) → Who → Option Call → Option (ℕ × ℕ) → Type 0
StandsAs hs who made None = made ≡ None
StandsAs hs who made (Some there) = (x : Call) × (made ≡ Some x) × (slice_get (at there.0 hs) there.1 ≡ Some (entry.Call who x))

-- a look at a promise saw it ended
abbrev pub HasEnded : StepResult → Type 0
HasEnded (result.Look k n promise.Pending) = ⊥
HasEnded r = Unit {0}

-- a wait for a promise goes on until it has ended
abbrev pub HasWaited : Step → StepResult → Type 0
HasWaited (step.Await promise) r = HasEnded r
HasWaited x r = Unit {0}

-- A deed is what its step asks for, after these variables and these results of its caller, by the codecs' histories so far: its
-- result is that of its own rule, its call stands where that says, with what the step gives, an output that it took is that of its codec,
-- and only a step that receives received something.
pub record IsDeed (s : ScriptData) (media : List (List Chunk)) (hs : List (List Entry)) (rs : List StepResult) (vs : List (Option Medium)) (d : Deed) : Type 0 where
  pub result : IsResultOf s (known_by d.who.caller rs hs) d.who d.step d.result
  pub shows : LookShows s (known_by d.who.caller rs hs) d.who.caller d.step d.result
  pub answers : IsLocalAnswer s media vs (came_of s media d vs) d.who.caller d.step d.result
  pub waited : HasWaited d.step d.result
  pub stands : StandsAs hs d.who d.call (made_at d.result)
  pub arguments : IfSome d.call (λ x. HasArguments s media vs d.who.caller x d.step)
  pub taken : option_map (taken_as d.result) d.taken ≡ taken_by s (known_by d.who.caller rs hs) (Some d.result)
  pub received : port_received d.step ≡ None → d.received ≡ None

-- A deed of a caller with some deeds before it: the script's next step, and as histories were that have gone on since. A look saw no
-- more than these.
pub record IsDeedAfter (s : ScriptData) (media : List (List Chunk)) (c : ℕ) (hs : List (List Entry)) (before : List Deed) (d : Deed) : Type 0 where
  pub who : d.who ≡ step_by c (length before)
  pub step : step_in s c (length before) ≡ Some d.step
  pub known : List (List Entry)
  pub goes_on : GoOn known hs
  pub sees : (k n : ℕ) → look_of d.result ≡ Some (k, n) → n ≤ length (at k known)
  pub is : IsDeed s media known (results_of before) (variables_after s media before) d

-- These are the deeds of the first steps of a caller, by the codecs' histories so far; the places of its calls rise, each look saw
-- what its caller did before, and their times rise.
pub record AreDeeds (s : ScriptData) (media : List (List Chunk)) (c : ℕ) (hs : List (List Entry)) (ds : List Deed) : Type 0 where
  pub each : (j : ℕ) (d : Deed) → slice_get ds j ≡ Some d → IsDeedAfter s media c hs (take j ds) d
  pub climbs : (k : ℕ) → Climbs k 0 (map mark_of (results_of ds)) (length (at k hs))
  pub rise : (i j : ℕ) (d e : Deed) → i < j → slice_get ds i ≡ Some d → slice_get ds j ≡ Some e → d.time < e.time
