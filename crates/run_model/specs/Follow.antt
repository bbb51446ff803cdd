-- What a script's order makes, item after item (our choice: the order of a script is the interleaving of its callers, of the
-- work items and of the event tasks).
use Rattle.std.specs.Prelude.{ℕ, ◌≡◌, ◌==◌, ◌&&◌, Bool, true, false, List, [], ◌∷◌, length, map, drop, slice_get, slice_set, Option, Some, None, option_map, unwrap_or, if◌then◌else◌}
use Rattle.wc_base.specs.declared.who.Who.{Who}
use Rattle.wc_config.specs.declared.codec.CoderId.{CoderId}
use Rattle.wc_chunk.specs.declared.chunk.Chunk.{Chunk}
use Rattle.codec_definitions.specs.declared.unit.Unit as media
use Rattle.slot_registry.specs.Slots.{SlotsValue}
use Rattle.codec_model.specs.declared.entry.Call.{Call}
use Rattle.codec_model.specs.declared.entry.Call.TheVariants as call
use Rattle.codec_model.specs.declared.entry.Outcome.{Outcome}
use Rattle.codec_model.specs.declared.entry.Outcome.TheVariants as outcome
use Rattle.codec_model.specs.declared.entry.Running.{Running}
use Rattle.codec_model.specs.declared.entry.Task.{Task}
use Rattle.codec_model.specs.declared.entry.Entry.{Entry}
use Rattle.codec_model.specs.declared.entry.Entry.TheVariants as entry
use Rattle.codec_model.specs.Control.{start_item, may_reclaim}
use Rattle.codec_model.specs.Replay.{Given, call_error, answer_to, is_configured}
use Rattle.codec_model.specs.Shown.{exception_of}
use Rattle.codec_accounts.specs.Owed.{at, append_at}
use Rattle.codec_accounts.specs.Codec.{CodecValue, new_codec, state_of, codecs_after, slots_by, codec_at, histories}
use Rattle.script_types.specs.declared.script.ScriptData.{ScriptData}
use Rattle.script_types.specs.declared.steps.Step.{Step}
use Rattle.script_types.specs.declared.steps.MediaStep.{MediaStep}
use Rattle.script_types.specs.declared.steps.MediaStep.TheVariants as on_media
use Rattle.script_types.specs.declared.steps.Step.TheVariants as step
use Rattle.script_types.specs.declared.script.OrderItem.{OrderItem}
use Rattle.script_types.specs.declared.script.OrderItem.TheVariants as item
use Rattle.report_text.specs.declared.result.StepResult.{StepResult}
use Rattle.report_text.specs.declared.result.StepResult.TheVariants as result
use Rattle.wc_pool.specs.declared.entry.PoolEntry.{PoolEntry}
use Rattle.wc_pool.specs.Bag.{references_made}
use Rattle.media_variables.specs.Variables.{Medium, Media, Came, Taken, Received, Brought, posted_by, Lendable, lendable_at, handed_of, next_numbers, media_came, after_came, variables_of}
use Rattle.media_accounts.specs.Accounts.{after_entry_of}
use Rattle.run_model.specs.Recorded.{Recorded, chunk_for, copied_chunk, opening_of, output_at, promise_after, source_error, steps_of, take_entry}

-- how far an order was followed: each caller's results, each codec, the callers' media with their pool, the registry, and what waits in
-- each port, the oldest first
pub record Course : Type 0 where
  pub callers : List (List StepResult)
  pub codecs : List CodecValue
  pub media : Media
  pub slots : SlotsValue
  pub ports : List (List Received)

-- what it recorded, where steps received this
abbrev pub record_of : (ℕ → ℕ → Option Received) → Course → Recorded
record_of received v = record { callers = v.callers; codecs = histories v.codecs; pool = v.media.pool; slots = v.slots.history; received = received }

-- ---- moves

-- What an item of the order, or the step of a caller, makes: nothing; a result of a caller alone, as that of a look; the
-- next entry of a codec; both, where a caller's step calls a codec; what a step on media comes to; that beside the next
-- entry of a codec, of which the step takes the output with this number; or that beside a medium which goes into a port, or
-- beside the oldest that waits in one.
pub data Move : Type 0 where
  Idle : Move
  Answer : ℕ → StepResult → Move
  Advance : ℕ → Entry → Move
  Ask : Who → ℕ → Call → Move
  Handle : Who → Came → Move
  Receive : Who → ℕ → ℕ → Came → Move
  Post : Who → ℕ → Option Medium → Came → Move
  Get : Who → ℕ → Came → Move

-- one result more of the caller with this number
abbrev pub with_result : ℕ → StepResult → Course → Course
with_result c r v = record v { callers = append_at c r v.callers }

-- what an entry of a codec does to the pool of media: an encode that is accepted clones, and what is let go ends
abbrev pub media_by : ℕ → Entry → CodecValue → Media → Media
media_by k e d m = after_entry_of k (length d.history) e (state_of d) m

-- one entry more of the codec with this number, whose box stays, goes back or is renewed
abbrev pub with_entry : ℕ → Entry → Course → Course
with_entry k e v = record v {
  codecs = codecs_after k e v.slots v.codecs;
  media = media_by k e (codec_at k v.codecs) v.media;
  slots = slots_by k e v.slots (codec_at k v.codecs);
}

-- the callers' media, after what a step of a caller came to
abbrev pub with_media : Who → Came → Course → Course
with_media who y v = record v { media = after_came who y v.media }

-- the result of a call that is the next entry of a codec: its place, and its exception, if it has one
abbrev pub result_of : ℕ → Call → CodecValue → StepResult
result_of k x d = result.Call k (length d.history) (exception_of x (call_error x (state_of d).control))

-- a medium goes into the port with this number, behind those that wait there
abbrev pub posted_as : Who → ℕ → Option Medium → List (List Received) → List (List Received)
posted_as who port None ports = ports
posted_as who port (Some m) ports = append_at port (record { poster = who; medium = m }) ports

abbrev pub with_posted : Who → ℕ → Option Medium → Course → Course
with_posted who port m v = record v { ports = posted_as who port m v.ports }

-- the oldest that waits in a port, if one does
abbrev pub front_of : List Received → Option Received
front_of [] = None
front_of (p ∷ ps) = Some p

abbrev pub waiting_at : ℕ → Course → Option Received
waiting_at port v = front_of (at port v.ports)

-- it goes out
abbrev pub without_front : ℕ → Course → Course
without_front port v = record v { ports = slice_set v.ports port (drop 1 (at port v.ports)) }

abbrev pub after_move : Move → Course → Course
after_move Idle v = v
after_move (Answer c r) v = with_result c r v
after_move (Advance k e) v = with_entry k e v
after_move (Ask who k x) v = with_result who.caller (result_of k x (codec_at k v.codecs)) (with_entry k (entry.Call who x) v)
after_move (Handle who y) v = with_result who.caller y.answer (with_media who y v)
after_move (Receive who k n y) v = with_result who.caller y.answer (with_media who y (with_entry k (take_entry who n) v))
after_move (Post who port m y) v = with_result who.caller y.answer (with_media who y (with_posted who port m v))
after_move (Get who port y) v = with_result who.caller y.answer (with_media who y (without_front port v))

-- ---- the next entry of one codec

-- a start, where there is an item to take
abbrev pub start_entry : CodecValue → Option Entry
start_entry d = let c = (state_of d).control in option_map (λ i. entry.Start c.epoch i.number) (start_item c)

abbrev pub outcome_by : Option (List media.Unit) → Outcome
outcome_by None = outcome.Refused
outcome_by (Some units) = outcome.Ran (length units)

-- the outcome of an item: want of memory; or that no box was free; or the codec's definition
abbrev pub outcome_for : Bool → Option ℕ → Option (List media.Unit) → Outcome
outcome_for true refusal answer = outcome.NoMemory
outcome_for false (Some e) answer = outcome.NoSlot e
outcome_for false None answer = outcome_by answer

-- the end of the running item, if one is; `wants` says that memory was wanted
abbrev pub end_of : Bool → ℕ → Option ℕ → Given → Running → Entry
end_of wants moment refusal g r = entry.Done r.epoch r.number moment (outcome_for wants refusal (answer_to r.kind g))

abbrev pub done_entry : Bool → ℕ → CodecValue → Option Entry
done_entry wants moment d = let t = state_of d in option_map (end_of wants moment d.holding.refusal t.running_given) t.control.running

-- the front task runs, if there is one
abbrev pub turn_on : List Task → Option Entry
turn_on [] = None
turn_on (t ∷ ts) = Some entry.Turn

abbrev pub turn_entry : CodecValue → Option Entry
turn_entry d = turn_on (state_of d).control.tasks

-- a reclaim, where it is lawful
abbrev pub reclaim_entry : ℕ → CodecValue → Option Entry
reclaim_entry moment d = if may_reclaim moment (state_of d).control then Some (entry.Reclaim moment) else None

-- the entry of an item of the order that names a codec, where it finds something to do
abbrev pub item_entry : Bool → OrderItem → CodecValue → Option Entry
item_entry wants (item.Caller c) d = None
item_entry wants (item.Start k) d = start_entry d
item_entry wants (item.Done k moment) d = done_entry wants moment d
item_entry wants (item.Turn k) d = turn_entry d
item_entry wants (item.Reclaim k moment) d = reclaim_entry moment d

abbrev pub advance : ℕ → Option Entry → Move
advance k None = Idle
advance k (Some e) = Advance k e

-- ---- the steps of callers

-- a caller's call of a codec, unless the variable is absent that it takes its data from
abbrev pub call_move : Who → ℕ → Option Call → Move
call_move who k None = Answer who.caller result.Absent
call_move who k (Some x) = Ask who k x

-- an encode of a medium, of which the codec makes a clone where it is configured; its reference has the next number
abbrev pub encode_of : List PoolEntry → CodecValue → Lendable → Call
encode_of pool d x = call.Encode (handed_of (references_made pool) (is_configured (state_of d).control) x)

-- what a look shows at the promise of the flush that came to this result
abbrev pub look_of_flush : List CodecValue → Option StepResult → StepResult
look_of_flush ds (Some (result.Call k place error)) = let d = codec_at k ds in result.Look k (length d.history) (promise_after d.opening d.history place)
look_of_flush ds _ = result.Absent

-- what a look shows of a codec's state and of the number of its queued chunks
abbrev pub look_of_state : ℕ → CodecValue → StepResult
look_of_state k d = let c = (state_of d).control in result.State k (length d.history) c.phase c.size

-- a step on media that is the callers' own
abbrev pub handle_move : Who → Option Came → Move
handle_move who None = Idle
handle_move who (Some y) = Handle who y

-- what a take finds: the first output that was shown and not taken yet, if there is one, and its answer
abbrev pub found_at : ℕ → CodecValue → Option Taken
found_at k d =
    let n = (state_of d).control.taken in
    option_map (λ u. record { unit = u; answer = result.Unit k (length d.history) n }) (output_at d.opening d.history n)

-- a take of a codec, by what it comes to; a look where it found nothing
abbrev pub take_move : Who → ℕ → CodecValue → Option Came → Move
take_move who k d None = Answer who.caller (result.NoUnit k (length d.history))
take_move who k d (Some y) = Receive who k (state_of d).control.taken y

-- a post, and a receive, by what each comes to
abbrev pub post_move : Who → ℕ → Option Medium → Option Came → Move
post_move who port m None = Idle
post_move who port m (Some y) = Post who port m y

abbrev pub get_move : Who → ℕ → Option Came → Move
get_move who port None = Idle
get_move who port (Some y) = Get who port y

abbrev pub media_move : ScriptData → List (List Chunk) → Who → MediaStep → Course → Move
media_move s media who (on_media.Take on bind kind) v =
    let b : Brought = record { chunk = None; taken = found_at on (codec_at on v.codecs); received = None } in
    take_move who on (codec_at on v.codecs) (media_came (next_numbers v.media.pool) who b (on_media.Take on bind kind) (variables_of who.caller v.media.variables))
media_move s media who (on_media.Encode on content) v =
    call_move who on (option_map (encode_of v.media.pool (codec_at on v.codecs)) (lendable_at (variables_of who.caller v.media.variables) content.step))
media_move s media who (on_media.Post to content) v =
    let b : Brought = record { chunk = None; taken = None; received = None } in
    let vs = variables_of who.caller v.media.variables in
    post_move who to (posted_by (on_media.Post to content) vs) (media_came (next_numbers v.media.pool) who b (on_media.Post to content) vs)
media_move s media who (on_media.Receive from bind kind) v =
    let b : Brought = record { chunk = None; taken = None; received = waiting_at from v } in
    get_move who from (media_came (next_numbers v.media.pool) who b (on_media.Receive from bind kind) (variables_of who.caller v.media.variables))
media_move s media who x v =
    let b : Brought = record { chunk = copied_chunk media (steps_of s who.caller) x; taken = None; received = None } in
    handle_move who (media_came (next_numbers v.media.pool) who b x (variables_of who.caller v.media.variables))

-- the step of a caller
abbrev pub step_move : ScriptData → List (List Chunk) → Who → Step → Course → Move
step_move s media who (step.Configure on config) v = Ask who on (call.Configure config)
step_move s media who (step.Chunk bind source) v = Answer who.caller (result.Local (source_error source))
step_move s media who (step.Decode on chunk) v =
    call_move who on (option_map call.Decode (chunk_for media (steps_of s who.caller) (variables_of who.caller v.media.variables) chunk.step))
step_move s media who (step.Flush on bind) v = Ask who on call.Flush
step_move s media who (step.Poll promise) v = Answer who.caller (look_of_flush v.codecs (slice_get (at who.caller v.callers) promise.step))
step_move s media who (step.Await promise) v = Answer who.caller (look_of_flush v.codecs (slice_get (at who.caller v.callers) promise.step))
step_move s media who (step.Reset on) v = Ask who on call.Reset
step_move s media who (step.Close on) v = Ask who on call.Close
step_move s media who (step.State on) v = Answer who.caller (look_of_state on (codec_at on v.codecs))
step_move s media who (step.Ground on to) v = Ask who on (call.Ground to)
step_move s media who (step.Media x) v = media_move s media who x v

abbrev pub next_move : ScriptData → List (List Chunk) → Who → Option Step → Course → Move
next_move s media who None v = Idle
next_move s media who (Some x) v = step_move s media who x v

-- ---- the order

-- One item of the order; one that finds nothing to do makes nothing. `media` has the chunks of each chunk file, and `wants`
-- says that an end wants memory.
abbrev pub item_move : ScriptData → List (List Chunk) → Bool → OrderItem → Course → Move
item_move s media wants (item.Caller c) v =
    let j = length (at c v.callers) in next_move s media (record { caller = c; step = j }) (slice_get (steps_of s c) j) v
item_move s media wants (item.Start k) v = advance k (item_entry wants (item.Start k) (codec_at k v.codecs))
item_move s media wants (item.Done k moment) v = advance k (item_entry wants (item.Done k moment) (codec_at k v.codecs))
item_move s media wants (item.Turn k) v = advance k (item_entry wants (item.Turn k) (codec_at k v.codecs))
item_move s media wants (item.Reclaim k moment) v = advance k (item_entry wants (item.Reclaim k moment) (codec_at k v.codecs))

-- what steps have received after a move
abbrev pub received_after : Move → Course → (ℕ → ℕ → Option Received) → ℕ → ℕ → Option Received
received_after (Get who port y) v received c j = if (c == who.caller) && (j == who.step) then waiting_at port v else received c j
received_after move v received c j = received c j

abbrev pub follow_item : ScriptData → List (List Chunk) → Bool → OrderItem → Course → Course
follow_item s media wants x v = after_move (item_move s media wants x v) v

-- The order leads from one course to another, item after item; each end may want memory or not.
abbrev pub Follows : ScriptData → List (List Chunk) → List OrderItem → Course → Course → Type 0
Follows s media [] v u = u ≡ v
Follows s media (x ∷ xs) v u = (wants : Bool) × Follows s media xs (follow_item s media wants x v) u

-- the items of a script's order; none where there is no order
abbrev pub order_items : ScriptData → List OrderItem
order_items s = unwrap_or s.order []

-- Nothing is recorded yet, no caller has media, nothing waits in a port, and no codec has anything of the registry, which was
-- opened with coders of these ids.
abbrev pub nothing_yet : ScriptData → List CoderId → Course
nothing_yet s made = record {
  callers = map (λ c. []) s.callers;
  codecs = map (λ c. new_codec (opening_of c)) s.codecs;
  media = record { variables = map (λ c. []) s.callers; pool = [] };
  slots = record { made = made; history = [] };
  ports = map (λ p. []) s.ports;
}
