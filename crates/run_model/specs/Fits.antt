-- When a run is legal, and when it fits its script.
use Rattle.std.specs.Prelude.{ℕ, ◌≡◌, ◌<◌, List, [], ◌∷◌, length, map, take, slice_get, Option, Some, None, option_map, option_and_then, Bool}
use Rattle.wc_base.specs.declared.error.DomError.{DomError}
use Rattle.wc_base.specs.declared.who.Who.{Who}
use Rattle.wc_config.specs.declared.codec.CoderId.{CoderId}
use Rattle.codec_model.specs.declared.entry.Opening.{Opening}
use Rattle.codec_model.specs.declared.entry.Call.{Call}
use Rattle.codec_model.specs.declared.entry.Call.TheVariants as call
use Rattle.codec_model.specs.declared.entry.Entry.{Entry}
use Rattle.codec_model.specs.declared.entry.Entry.TheVariants as entry
use Rattle.codec_model.specs.Replay.{IsLegal}
use Rattle.codec_model.specs.Shown.{each_shown}
use Rattle.wc_chunk.specs.declared.chunk.Chunk.{Chunk}
use Rattle.script_types.specs.declared.script.ScriptData.{ScriptData}
use Rattle.script_types.specs.declared.script.CodecItem.{CodecItem}
use Rattle.script_types.specs.declared.steps.Step.{Step}
use Rattle.script_types.specs.declared.steps.MediaStep.{MediaStep}
use Rattle.script_types.specs.declared.steps.MediaStep.TheVariants as on_media
use Rattle.script_types.specs.declared.steps.Step.TheVariants as step
use Rattle.script_types.specs.Names.{called, taken_from}
use Rattle.run_model.specs.declared.run.Run.{Run}
use Rattle.run_model.specs.declared.run.CodecTrace.{CodecTrace}
use Rattle.report_text.specs.declared.result.StepResult.{StepResult}
use Rattle.report_text.specs.declared.result.StepResult.TheVariants as result
use Rattle.codec_model.specs.declared.entry.Event.{Event}
use Rattle.codec_model.specs.declared.entry.Event.TheVariants as event
use Rattle.codec_accounts.specs.Owed.{at}
use Rattle.codec_accounts.specs.Registry.{BoxesAccounted}
use Rattle.codec_accounts.specs.Codec.{state_after}
use Rattle.codec_accounts.specs.Calls.{Mark, Climbs}
use Rattle.codec_accounts.specs.Calls as mark
use Rattle.wc_pool.specs.Bag.{held_in}
use Rattle.wc_pool.specs.declared.entry.PoolOp.{PoolOp}
use Rattle.media_variables.specs.Variables.{Medium, Came, Taken, Received, Brought, posted_by, Lendable, lendable_at, handed_of}
use Rattle.media_accounts.specs.Accounts.{came_in, variables_in, lent_at, MediaAreIn}
use Rattle.run_model.specs.Recorded.{Recorded, none_received, opening_of, opening_at, steps_of, chunk_for, copied_chunk, output_at, source_error, promise_after, take_entry}
use Rattle.run_model.specs.Follow.{Course, record_of, order_items, Follows, nothing_yet}

-- what a run recorded, without what its entries showed, where its steps received this
abbrev pub recorded_of : (ℕ → ℕ → Option Received) → Run → Recorded
recorded_of received run = record { callers = map (λ c. c.results) run.callers; codecs = map (λ c. c.entries) run.codecs; pool = run.pool; slots = run.slots; received = received }

-- the result of a caller's step, if it was made
abbrev pub result_in : Recorded → ℕ → ℕ → Option StepResult
result_in w c j = slice_get (at c w.callers) j

-- a codec's entry at a place
abbrev pub entry_in : Recorded → ℕ → ℕ → Option Entry
entry_in w k p = slice_get (at k w.codecs) p

-- a caller's step
abbrev pub step_in : ScriptData → ℕ → ℕ → Option Step
step_in s c j = slice_get (steps_of s c) j

-- the exception with which a call was refused, by what it showed: a refusal stands first
abbrev pub refusal_in : List Event → Option DomError
refusal_in (event.Refusal error ∷ events) = Some error
refusal_in _ = None

-- the exception that an entry shows, if it shows one
abbrev pub exception_at : Opening → List Entry → ℕ → Option DomError
exception_at o h p = option_and_then (λ x. refusal_in x.events) (slice_get (each_shown o h) p)

-- what the result of a step says of a codec's history
abbrev pub mark_of : StepResult → Mark
mark_of (result.Call k place error) = mark.Call k place
mark_of (result.Look k length end) = mark.Look k length
mark_of (result.State k length state size) = mark.Look k length
mark_of (result.Local error) = mark.Local
mark_of (result.Unit k place n) = mark.Call k place
mark_of (result.NoUnit k length) = mark.Look k length
mark_of (result.Copied n bytes) = mark.Local
mark_of (result.CopiedFrame n layouts bytes) = mark.Local
mark_of (result.Size n) = mark.Local
mark_of result.Absent = mark.Local
mark_of (result.From who) = mark.Local
mark_of result.Nothing = mark.Local

-- what the results of all callers say
abbrev pub marks_of : Recorded → List (List Mark)
marks_of w = map (λ rs. map mark_of rs) w.callers

-- The result of a step that calls a codec: a call of that codec, with the exception that its entry shows, unless the step's
-- variable is absent.
abbrev pub IsCallResult : ScriptData → Recorded → ℕ → StepResult → Type 0
IsCallResult s w k (result.Call other p error) = (other ≡ k) × (error ≡ exception_at (opening_at s k) (at k w.codecs) p)
IsCallResult s w k result.Absent = Unit {0}
IsCallResult s w k _ = ⊥

-- the port that a step receives from, and the one that it posts to
abbrev pub port_received : Step → Option ℕ
port_received (step.Media (on_media.Receive from bind kind)) = Some from
port_received _ = None

abbrev pub port_posted : Step → Option ℕ
port_posted (step.Media (on_media.Post to content)) = Some to
port_posted _ = None

-- what a step posts after these variables of its caller
abbrev pub medium_posted : Step → List (Option Medium) → Option Medium
medium_posted (step.Media x) vs = posted_by x vs
medium_posted _ vs = None

-- a step calls a codec by a call result, and no other step has one
abbrev pub IsAnswerOf : ScriptData → Recorded → Option ℕ → StepResult → Type 0
IsAnswerOf s w (Some k) r = IsCallResult s w k r
IsAnswerOf s w None (result.Call k p error) = ⊥
IsAnswerOf s w None (result.Unit k p n) = ⊥
IsAnswerOf s w None (result.NoUnit k n) = ⊥
IsAnswerOf s w None r = Unit {0}

-- the result of a step that takes an output of a codec: its entry there, of the output with this number; or that there was none
abbrev pub IsTakeResult : Recorded → Who → ℕ → StepResult → Type 0
IsTakeResult w who k (result.Unit other p n) = (other ≡ k) × (entry_in w k p ≡ Some (take_entry who n))
IsTakeResult w who k (result.NoUnit other n) = other ≡ k
IsTakeResult w who k _ = ⊥

-- by the codec that a step takes an output of, if it takes one, and by the codec that it calls
abbrev pub IsResultBy : ScriptData → Recorded → Who → Option ℕ → Option ℕ → StepResult → Type 0
IsResultBy s w who (Some k) calls r = IsTakeResult w who k r
IsResultBy s w who None calls r = IsAnswerOf s w calls r

abbrev pub IsResultOf : ScriptData → Recorded → Who → Step → StepResult → Type 0
IsResultOf s w who x r = IsResultBy s w who (taken_from x) (called x) r

-- Each call of a caller's steps stands once, in its codec's history, at the place that its result names, and no other entry
-- names a caller's step.
pub record CallsAreIn (s : ScriptData) (w : Recorded) : Type 0 where
  -- each step made is a step of the script, with a result of its kind
  pub made : (c j : ℕ) (r : StepResult) → result_in w c j ≡ Some r → (x : Step) × (step_in s c j ≡ Some x) × IsResultOf s w (record { caller = c; step = j }) x r
  -- the entries that name a caller's step are those of the calls in the results
  pub once : (k : ℕ) → mark.CallsAreIn k (at k w.codecs) (marks_of w)

abbrev pub CallsStandOnce : ScriptData → (ℕ → ℕ → Option Received) → Run → Type 0
CallsStandOnce s received run = CallsAreIn s (recorded_of received run)

-- what a look shows is read from the history up to it
abbrev pub LookShows : ScriptData → Recorded → ℕ → Step → StepResult → Type 0
LookShows s w c (step.Await promise) (result.Look k n end) =
    (p : ℕ) × (error : Option DomError) × (result_in w c promise.step ≡ Some (result.Call k p error)) × (end ≡ promise_after (opening_at s k) (take n (at k w.codecs)) p)
LookShows s w c (step.Poll promise) (result.Look k n end) =
    (p : ℕ) × (error : Option DomError) × (result_in w c promise.step ≡ Some (result.Call k p error)) × (end ≡ promise_after (opening_at s k) (take n (at k w.codecs)) p)
LookShows s w c (step.State on) (result.State k n state size) =
    (on ≡ k) × (state ≡ (state_after (opening_at s k) (take n (at k w.codecs))).control.phase) × (size ≡ (state_after (opening_at s k) (take n (at k w.codecs))).control.size)
LookShows s w c x (result.Look k n end) = ⊥
LookShows s w c x (result.State k n state size) = ⊥
LookShows s w c x (result.NoUnit k n) =
    let h = take n (at k w.codecs) in (taken_from x ≡ Some k) × (output_at (opening_at s k) h (state_after (opening_at s k) h).control.taken ≡ None)
LookShows s w c x r = Unit {0}

-- what each caller's results say of a codec rises with its steps, up to the length of the codec's history
abbrev pub MarksClimb : Recorded → Type 0
MarksClimb w = (c k : ℕ) → Climbs k 0 (map mark_of (at c w.callers)) (length (at k w.codecs))

-- The places of a caller's calls on a codec rise with its steps; a look saw at most the whole history, all that its caller
-- did on the codec before, as much as an earlier look, and nothing that its caller did afterwards.
pub record LooksAreIn (s : ScriptData) (w : Recorded) : Type 0 where
  pub climbs : MarksClimb w
  pub shows : (c j : ℕ) (x : Step) (r : StepResult) → step_in s c j ≡ Some x → result_in w c j ≡ Some r → LookShows s w c x r

abbrev pub LooksAreBetween : ScriptData → (ℕ → ℕ → Option Received) → Run → Type 0
LooksAreBetween s received run = LooksAreIn s (recorded_of received run)

-- the output that a caller's step took, by its result, if it took one
abbrev pub taken_by : ScriptData → Recorded → Option StepResult → Option Taken
taken_by s w (Some (result.Unit k p n)) =
    option_map (λ u. record { unit = u; answer = result.Unit k p n }) (output_at (opening_at s k) (at k w.codecs) n)
taken_by s w _ = None

-- what a step receives from a port, if it is one that does
abbrev pub received_by : MediaStep → Option Received → Option Received
received_by (on_media.Receive from bind kind) p = p
received_by _ p = None

-- what is given from elsewhere to a caller's step on media: the chunk that it copies, if that was made or is of a chunk file, the
-- output that it takes, and what it receives
abbrev pub brought_to : ScriptData → List (List Chunk) → Recorded → ℕ → ℕ → MediaStep → Brought
brought_to s media w c j x = record { chunk = copied_chunk media (steps_of s c) x; taken = taken_by s w (result_in w c j); received = received_by x (w.received c j) }

-- the variables of a caller's media before its step with this number
abbrev pub variables_at : ScriptData → List (List Chunk) → Recorded → ℕ → ℕ → List (Option Medium)
variables_at s media w c j = variables_in (steps_of s) (brought_to s media w) w.pool c j

-- A call has what its step gives, where its caller's variables hold this. Of an encode the variable says the samples and the
-- resource; the number of the clone the pool's history says, and whether it is accepted the codec's. Of a take the codec's
-- history says which output it takes.
abbrev pub HasArguments : ScriptData → List (List Chunk) → List (Option Medium) → ℕ → Call → Step → Type 0
HasArguments s media vs c x (step.Configure on config) = x ≡ call.Configure config
HasArguments s media vs c x (step.Decode on chunk) = (value : Chunk) × (chunk_for media (steps_of s c) vs chunk.step ≡ Some value) × (x ≡ call.Decode value)
HasArguments s media vs c x (step.Flush on bind) = x ≡ call.Flush
HasArguments s media vs c x (step.Reset on) = x ≡ call.Reset
HasArguments s media vs c x (step.Close on) = x ≡ call.Close
HasArguments s media vs c x (step.Ground on to) = x ≡ call.Ground to
HasArguments s media vs c x (step.Media (on_media.Encode on content)) =
    (y : Lendable) × (number : ℕ) × (accepts : Bool) × (lendable_at vs content.step ≡ Some y) × (x ≡ call.Encode (handed_of number accepts y))
HasArguments s media vs c x (step.Media (on_media.Take on bind kind)) = (n : ℕ) × (x ≡ call.Take n)
HasArguments s media vs c x _ = ⊥

abbrev pub ArgumentsAreIn : ScriptData → List (List Chunk) → Recorded → Type 0
ArgumentsAreIn s media w = (k p : ℕ) (who : Who) (x : Call) → entry_in w k p ≡ Some (entry.Call who x) →
    (y : Step) × (step_in s who.caller who.step ≡ Some y) × HasArguments s media (variables_at s media w who.caller who.step) who.caller x y

-- The config, chunk, medium or ground of a call are what the script, its chunk files and the caller's earlier steps give.
abbrev pub ArgumentsAreTheScripts : ScriptData → List (List Chunk) → (ℕ → ℕ → Option Received) → Run → Type 0
ArgumentsAreTheScripts s media received run = ArgumentsAreIn s media (recorded_of received run)

-- how many steps a caller made
abbrev pub made_steps : Recorded → ℕ → ℕ
made_steps w c = length (at c w.callers)

-- what a caller's step on media comes to, after its earlier steps; none of any other step
abbrev pub came_at : ScriptData → List (List Chunk) → Recorded → ℕ → ℕ → Option Came
came_at s media w c j = came_in (steps_of s) (brought_to s media w) w.pool c j

-- a step on media that is the callers' own has the answer that it comes to
abbrev pub IsOwnAnswer : Option Came → StepResult → Type 0
IsOwnAnswer None r = ⊥
IsOwnAnswer (Some y) r = r ≡ y.answer

-- absent is only an encode whose variable is absent
abbrev pub IsEncodeAnswer : List (Option Medium) → MediaStep → StepResult → Type 0
IsEncodeAnswer vs (on_media.Encode on content) result.Absent = lendable_at vs content.step ≡ None
IsEncodeAnswer vs x r = Unit {0}

-- by the codec that a step on media takes an output of, if it takes one, and by the codec that it calls
abbrev pub IsMediaAnswer : List (Option Medium) → Option Came → Option ℕ → Option ℕ → MediaStep → StepResult → Type 0
IsMediaAnswer vs came (Some k) calls x r = Unit {0}
IsMediaAnswer vs came None (Some k) x r = IsEncodeAnswer vs x r
IsMediaAnswer vs came None None x r = IsOwnAnswer came r

-- The answer of a step that calls no codec and looks at none, where its caller's variables hold this and a step on media comes
-- to this; absent is only what lacks its variable.
abbrev pub IsLocalAnswer : ScriptData → List (List Chunk) → List (Option Medium) → Option Came → ℕ → Step → StepResult → Type 0
IsLocalAnswer s media vs came c (step.Chunk bind source) r = r ≡ result.Local (source_error source)
IsLocalAnswer s media vs came c (step.Media x) r = IsMediaAnswer vs came (taken_from (step.Media x)) (called (step.Media x)) x r
IsLocalAnswer s media vs came c (step.Decode on chunk) result.Absent = chunk_for media (steps_of s c) vs chunk.step ≡ None
IsLocalAnswer s media vs came c x result.Absent = ⊥
IsLocalAnswer s media vs came c x (result.Local error) = ⊥
IsLocalAnswer s media vs came c x (result.Copied n bytes) = ⊥
IsLocalAnswer s media vs came c x (result.CopiedFrame n layouts bytes) = ⊥
IsLocalAnswer s media vs came c x (result.Size n) = ⊥
IsLocalAnswer s media vs came c x (result.From who) = ⊥
IsLocalAnswer s media vs came c x result.Nothing = ⊥
IsLocalAnswer s media vs came c x r = Unit {0}

abbrev pub LocalsAreIn : ScriptData → List (List Chunk) → Recorded → Type 0
LocalsAreIn s media w = (c j : ℕ) (x : Step) (r : StepResult) → step_in s c j ≡ Some x → result_in w c j ≡ Some r →
    IsLocalAnswer s media (variables_at s media w c j) (came_at s media w c j) c x r

-- Every other step has the answer of its own rule.
abbrev pub LocalStepsAnswer : ScriptData → List (List Chunk) → (ℕ → ℕ → Option Received) → Run → Type 0
LocalStepsAnswer s media received run = LocalsAreIn s media (recorded_of received run)

-- Each box that went out was asked for, and went back by the entry that let it go. `made` has the ids of the coders that
-- were handed in.
abbrev pub BoxesAreAccounted : ScriptData → List CoderId → (ℕ → ℕ → Option Received) → Run → Type 0
BoxesAreAccounted s made received run = let w = recorded_of received run in BoxesAccounted made (opening_at s) w.codecs w.slots

-- what the entries of codecs call for in the pool's history
abbrev pub lends_in : ScriptData → Recorded → ℕ → ℕ → List PoolOp
lends_in s w k place = lent_at (opening_at s k) (at k w.codecs) place

-- The pool's history has what the callers' steps and the codecs' entries call for, each once and in the order of their caller,
-- and nothing else.
abbrev pub MediaAreAccounted : ScriptData → List (List Chunk) → (ℕ → ℕ → Option Received) → Run → Type 0
MediaAreAccounted s media received run = let w = recorded_of received run in MediaAreIn (steps_of s) (brought_to s media w) (lends_in s w) (made_steps w) w.pool

-- ---- ports

-- the port that a caller's step receives from, and the one that it posts to
abbrev pub received_from : ScriptData → ℕ → ℕ → Option ℕ
received_from s c j = option_and_then port_received (step_in s c j)

abbrev pub posted_to : ScriptData → ℕ → ℕ → Option ℕ
posted_to s c j = option_and_then port_posted (step_in s c j)

-- what a caller's step posts, after these variables
abbrev pub medium_of : ScriptData → ℕ → ℕ → List (Option Medium) → Option Medium
medium_of s c j vs = option_and_then (λ x. medium_posted x vs) (step_in s c j)

-- a step received this from the port with this number
abbrev pub Gets : ScriptData → Recorded → ℕ → ℕ → ℕ → Received → Type 0
Gets s w port c j p = (w.received c j ≡ Some p) × (received_from s c j ≡ Some port)

-- a step posted something into the port with this number
abbrev pub Posts : ScriptData → Recorded → ℕ → ℕ → ℕ → Type 0
Posts s w port c j = (result_in w c j ≡ Some (result.Local None)) × (posted_to s c j ≡ Some port)

-- this was posted into the port with this number, by the step that it names
abbrev pub IsPosted : ScriptData → List (List Chunk) → Recorded → ℕ → Received → Type 0
IsPosted s media w port p = Posts s w port p.poster.caller p.poster.step
    × (medium_of s p.poster.caller p.poster.step (variables_at s media w p.poster.caller p.poster.step) ≡ Some p.medium)

-- what this step posted into the port was received by some step
abbrev pub WasGot : ScriptData → Recorded → ℕ → ℕ → ℕ → Type 0
WasGot s w port c j = (d : ℕ) × ((k : ℕ) × ((q : Received) × (Gets s w port d k q × (q.poster ≡ record { caller = c; step = j }))))

-- What receives got (our choice: ports of callers): the media of posts into the same port, each once; of each caller's posts into a
-- port the first ones; and one caller's posts to one receiver in their order. A receive that got nothing came where every earlier post
-- of its own caller into the port had been received. Nothing is said of when a post is received.
pub record PortsDeliver (s : ScriptData) (media : List (List Chunk)) (w : Recorded) : Type 0 where
  pub gave : (port c j : ℕ) (p : Received) → Gets s w port c j p → IsPosted s media w port p
  pub once : (c j d i : ℕ) (p q : Received) → w.received c j ≡ Some p → w.received d i ≡ Some q → p.poster ≡ q.poster → (c ≡ d) × (j ≡ i)
  pub first : (port c j i : ℕ) (p : Received) → Gets s w port c j p → i < p.poster.step → Posts s w port p.poster.caller i → WasGot s w port p.poster.caller i
  pub rise : (port c j i : ℕ) (p q : Received) → j < i → Gets s w port c j p → Gets s w port c i q → p.poster.caller ≡ q.poster.caller → p.poster.step < q.poster.step
  pub none : (port c j i : ℕ) → result_in w c j ≡ Some result.Nothing → received_from s c j ≡ Some port → i < j → Posts s w port c i → WasGot s w port c i

-- `media` has the chunks of each of the script's chunk files. Nothing is said of when each entry was made: a run of threads may
-- fit as a replay does.
pub record Fits (s : ScriptData) (media : List (List Chunk)) (made : List CoderId) (run : Run) : Type 0 where
  -- what the steps of callers received
  pub received : ℕ → ℕ → Option Received
  pub calls : CallsStandOnce s received run
  pub looks : LooksAreBetween s received run
  pub arguments : ArgumentsAreTheScripts s media received run
  pub locals : LocalStepsAnswer s media received run
  pub accounted : MediaAreAccounted s media received run
  pub boxes : BoxesAreAccounted s made received run
  pub ports : PortsDeliver s media (recorded_of received run)

-- All entries, results, pool entries and slot entries are those that following the script's order makes, item after item: so it is of a
-- replay. `made` has the ids of the coders that were handed in.
pub record FollowsTheOrder (s : ScriptData) (media : List (List Chunk)) (made : List CoderId) (run : Run) : Type 0 where
  -- how the callers, the codecs, the media and the registry stand in the end
  pub course : Course
  pub follows : Follows s media (order_items s) (nothing_yet s made) course
  pub is_recorded : recorded_of none_received run ≡ record_of none_received course

-- a replay fits its script and follows its order
pub record FitsInOrder (s : ScriptData) (media : List (List Chunk)) (made : List CoderId) (run : Run) : Type 0 where
  pub fits : Fits s media made run
  pub follows : FollowsTheOrder s media made run

-- A codec's history is legal for the script's opening, and shows what was recorded.
pub record IsLegalTrace (c : CodecItem) (t : CodecTrace) : Type 0 where
  pub opening : t.opening ≡ opening_of c
  pub legal : IsLegal t.opening t.entries
  pub shown : t.shown ≡ each_shown t.opening t.entries

abbrev pub AreLegalTraces : List CodecItem → List CodecTrace → Type 0
AreLegalTraces [] [] = Unit {0}
AreLegalTraces (c ∷ cs) (t ∷ ts) = IsLegalTrace c t × AreLegalTraces cs ts
AreLegalTraces _ _ = ⊥

-- The run has the script's callers and codecs, each codec's history is legal, and `held` counts the media resources that have
-- a live reference.
pub record IsLegalRun (s : ScriptData) (run : Run) : Type 0 where
  pub callers : length run.callers ≡ length s.callers
  pub codecs : AreLegalTraces s.codecs run.codecs
  pub held : run.held ≡ held_in run.pool
