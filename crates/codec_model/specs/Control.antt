-- The control state of a codec, and the steps of its algorithms on it (W3C WebCodecs, sections 2.2 'Control Messaging
-- Model', 2.3 'Codec Work Parallel Queue', and the algorithms of AudioDecoder; saturation and what a removal does to
-- epochs and tasks are our choice).
use Rattle.std.specs.Prelude.{ℕ, ◌+◌, ◌-◌, ◌*◌, ◌==◌, max, Bool, true, false, not, ◌&&◌, ◌||◌, List, [], ◌∷◌, ◌++◌, length, count_by, sum_by, filter, nat_le, nat_lt, bytes_eq, Option, Some, None, is_some, is_none, if◌then◌else◌, unwrap_or}
use Rattle.wc_config.specs.declared.config.Config.{Config}
use Rattle.wc_chunk.specs.declared.chunk.Chunk.{Chunk}
use Rattle.wc_base.specs.declared.error.DomError.{DomError}
use Rattle.wc_base.specs.declared.error.DomError.TheVariants as dom
use Rattle.wc_base.specs.declared.ground.Ground.{Ground}
use Rattle.wc_base.specs.declared.ground.Ground.TheVariants as grounds
use Rattle.wc_base.specs.Grounds.{is_background}
use Rattle.codec_definitions.specs.declared.unit.Unit as media
use Rattle.codec_definitions.specs.declared.unit.Unit.TheVariants as unit_of
use Rattle.wc_config.specs.declared.config.AudioDecoderConfig.{AudioDecoderConfig}
use Rattle.wc_config.specs.declared.kind.Kind.{Kind}
use Rattle.wc_config.specs.declared.kind.Kind.TheVariants as kinds
use Rattle.codec_model.specs.declared.entry.Opening.{Opening}
use Rattle.codec_model.specs.declared.entry.CodecState.{CodecState}
use Rattle.codec_model.specs.declared.entry.CodecState.TheVariants.{Unconfigured, Configured, Closed}
use Rattle.codec_model.specs.declared.entry.Pair.{Pair}
use Rattle.codec_model.specs.declared.entry.HeldMedium.{HeldMedium}
use Rattle.codec_model.specs.declared.entry.Coded.TheVariants as coded
use Rattle.codec_model.specs.declared.entry.Work.{Work}
use Rattle.codec_model.specs.declared.entry.Work.TheVariants as work
use Rattle.codec_model.specs.declared.entry.WorkKind.{WorkKind}
use Rattle.codec_model.specs.declared.entry.WorkKind.TheVariants as kind
use Rattle.codec_model.specs.declared.entry.Message.{Message}
use Rattle.codec_model.specs.declared.entry.Item.{Item}
use Rattle.codec_model.specs.declared.entry.Running.{Running}
use Rattle.codec_model.specs.declared.entry.Task.{Task}
use Rattle.codec_model.specs.declared.entry.Task.TheVariants as task
use Rattle.codec_model.specs.declared.entry.Ended.{Ended}
use Rattle.codec_model.specs.declared.entry.Ended.TheVariants as ended

pub record Control : Type 0 where
  -- the place of the next entry
  pub place : ℕ
  pub opening : Opening
  pub phase : CodecState
  pub epoch : ℕ
  pub key_required : Bool
  -- the control message queue
  pub messages : List Message
  pub blocked : Bool
  pub saturated : Bool
  pub halted : Bool
  -- coded messages in the queue
  pub size : ℕ
  -- the places of the flush calls whose promises are pending
  pub pending : List ℕ
  -- the codec work queue
  pub work : List Item
  -- the number of the next item of this epoch
  pub next_item : ℕ
  pub running : Option Running
  pub tasks : List Task
  pub scheduled : Bool
  -- how many outputs were shown
  pub shown : ℕ
  -- how many of them were taken
  pub taken : ℕ
  -- the decoder config of the last encoded output that was shown
  pub active : Option AudioDecoderConfig
  -- the moment of the last item of this epoch that ended
  pub progress : Option ℕ
  -- where it is at work
  pub own_ground : Ground

-- An entry took its place.
abbrev pub at_next_place : Control → Control
at_next_place s = record s { place = s.place + 1 }

abbrev pub is_coded : Work → Bool
is_coded (work.Configure config) = false
is_coded (work.Coded input) = true
is_coded work.Flush = false

abbrev pub kind_of : Work → WorkKind
kind_of (work.Configure config) = kind.Configure
kind_of (work.Coded input) = kind.Coded
kind_of work.Flush = kind.Flush

-- the reference that a message or an item holds, if it holds one
abbrev pub held_of : Work → Option Pair
held_of (work.Configure config) = None
held_of (work.Coded (coded.Chunk chunk)) = None
held_of (work.Coded (coded.Medium medium)) = Some medium.pair
held_of work.Flush = None

-- the coded items of this epoch that are queued or running
abbrev pub coded_running : ℕ → Option Running → ℕ
coded_running epoch None = 0
coded_running epoch (Some r) = elim (r.kind) [ kind.Configure ↦ 0 | kind.Coded ↦ (if r.epoch == epoch then 1 else 0) | kind.Flush ↦ 0 ]

abbrev pub coded_out : Control → ℕ
coded_out s = count_by (λ i. is_coded i.work) s.work + coded_running s.epoch s.running

-- schedules a dequeue event, if none is scheduled
abbrev pub with_dequeue_if : Bool → Control → Control
with_dequeue_if wanted s = record s { scheduled = wanted || s.scheduled; tasks = if wanted && not s.scheduled then s.tasks ++ task.Dequeue ∷ [] else s.tasks }

abbrev pub with_dequeue : Control → Control
with_dequeue s = with_dequeue_if true s

abbrev pub with_item : Message → Control → Control
with_item m s = record s { work = s.work ++ record { number = s.next_item; place = m.place; work = m.work } ∷ []; next_item = s.next_item + 1 }

-- the steps of a message that is processed
abbrev pub after_message : Message → Control → Control
after_message m s = elim (m.work) [
  | work.Configure config ↦ with_item m (record s { blocked = true })
  | work.Coded input ↦ with_item m (with_dequeue (record s { saturated = coded_out s + 1 == s.opening.saturation; size = s.size - 1 }))
  | work.Flush ↦ with_item m s
]

-- whether the front message is processed now
abbrev pub is_taken : Message → Control → Bool
is_taken m s = not s.blocked && not (s.saturated && is_coded m.work)

abbrev pub takes_front : List Message → Control → Bool
takes_front [] s = false
takes_front (m ∷ ms) s = is_taken m s

-- the front message is processed and leaves the queue
abbrev pub process_front : List Message → Control → Control
process_front [] s = s
process_front (m ∷ ms) s = record (after_message m s) { messages = ms }

-- processes messages from the front while they can be; the list is the queue
abbrev pub process_queue : List Message → Control → Control
process_queue [] s = s
process_queue (m ∷ ms) s = if is_taken m s then process_queue ms (record (after_message m s) { messages = ms }) else s

abbrev pub process : Control → Control
process s = process_queue s.messages s

-- a decoder, of either medium
abbrev pub is_decoder : Kind → Bool
is_decoder kinds.AudioDecoder = true
is_decoder kinds.AudioEncoder = false
is_decoder kinds.VideoDecoder = true
is_decoder kinds.VideoEncoder = false

-- bytes of video that say that they are added to the picture before them (our choice: those that begin with 1)
abbrev pub adds_to_picture : List ℕ → Bool
adds_to_picture [] = false
adds_to_picture (b ∷ bs) = b == 1

-- A chunk with which a decoder can begin: a video decoder looks at the bytes too (W3C WebCodecs, 3.5 'Methods' of
-- VideoDecoder, decode).
abbrev pub is_key_chunk : Kind → Chunk → Bool
is_key_chunk kinds.AudioDecoder chunk = chunk.key
is_key_chunk kinds.AudioEncoder chunk = chunk.key
is_key_chunk kinds.VideoDecoder chunk = chunk.key && not (adds_to_picture chunk.bytes)
is_key_chunk kinds.VideoEncoder chunk = chunk.key

-- A call that was not refused queues its message and processes.
abbrev pub with_message : ℕ → Work → Control → Control
with_message place w s = process (record s { messages = s.messages ++ record { place = place; work = w } ∷ [] })

abbrev pub after_configure : ℕ → Config → Control → Control
after_configure place config s = with_message place (work.Configure config) (record s { phase = Configured; key_required = is_decoder s.opening.kind || s.key_required })

abbrev pub after_decode : ℕ → Chunk → Control → Control
after_decode place chunk s = with_message place (work.Coded (coded.Chunk chunk)) (record s { key_required = false; size = s.size + 1 })

abbrev pub after_encode : ℕ → HeldMedium → Control → Control
after_encode place medium s = with_message place (work.Coded (coded.Medium medium)) (record s { size = s.size + 1 })

abbrev pub after_flush : ℕ → Control → Control
after_flush place s = with_message place work.Flush (record s { key_required = is_decoder s.opening.kind || s.key_required; pending = s.pending ++ place ∷ [] })

-- The front item becomes running.
abbrev pub start_first : List Item → Control → Control
start_first [] s = s
start_first (i ∷ is) s = record s { work = is; running = Some (record { epoch = s.epoch; number = i.number; place = i.place; kind = kind_of i.work }) }

abbrev pub start_front : Control → Control
start_front s = start_first s.work s

abbrev pub may_start : Control → Bool
may_start s = is_none s.running && not s.halted

abbrev pub front : {X : Type 0} → List X → Option X
front [] = None
front (x ∷ xs) = Some x

-- the item that a start takes, if it takes one
abbrev pub start_item : Control → Option Item
start_item s = if may_start s then front s.work else None

-- a start, where there is an item to take
abbrev pub after_start : Control → Control
after_start s = if is_some (start_item s) then start_front (at_next_place s) else s

abbrev pub is_dequeue : Task → Bool
is_dequeue task.Dequeue = true
is_dequeue _ = false

abbrev pub is_desaturate : Task → Bool
is_desaturate task.Desaturate = true
is_desaturate _ = false

-- a codec that works on fewer items than it can says so, where it does not say so already
abbrev pub with_desaturate : Bool → List Task → List Task
with_desaturate saturated ts = if saturated && (count_by is_desaturate ts == 0) then ts ++ task.Desaturate ∷ [] else ts

-- outputs are delivered where there are some
abbrev pub with_output : List media.Unit → List Task → List Task
with_output units ts = if length units == 0 then ts else ts ++ task.Output units ∷ []

-- what an item of this epoch queues that ran
abbrev pub with_ran : Running → List media.Unit → Bool → List Task → List Task
with_ran r units saturated ts = elim (r.kind) [
  | kind.Configure ↦ ts ++ task.Unblock ∷ []
  | kind.Coded ↦ with_output units (with_desaturate saturated ts)
  | kind.Flush ↦ ts ++ task.Flushed r.place units ∷ []
]

abbrev pub refusal_of : WorkKind → DomError
refusal_of kind.Configure = dom.NotSupported
refusal_of kind.Coded = dom.Encoding
refusal_of kind.Flush = dom.Encoding

-- what the end of an item of this epoch queues: an item that did not run closes the codec
abbrev pub with_end : Running → Ended → Bool → List Task → List Task
with_end r (ended.Ran units) saturated ts = with_ran r units saturated ts
with_end r ended.Refused saturated ts = ts ++ task.Close (refusal_of r.kind) ∷ []
with_end r (ended.NoSlot entry) saturated ts = ts ++ task.Close dom.QuotaExceeded ∷ []
with_end r ended.NoMemory saturated ts = ts ++ task.Close dom.OutOfMemory ∷ []

-- such an end halts the codec until it closes
abbrev pub halts : Ended → Bool
halts (ended.Ran units) = false
halts ended.Refused = true
halts (ended.NoSlot entry) = true
halts ended.NoMemory = true

abbrev pub after_end : Running → Ended → Control → Control
after_end r e s = record s { tasks = with_end r e s.saturated s.tasks; halted = halts e || s.halted }

-- The running item ends.
abbrev pub done_running : Running → Ended → ℕ → Control → Control
done_running r e moment s =
    let idle = record s { running = None } in
    if r.epoch == s.epoch then after_end r e (record idle { progress = Some (max moment (unwrap_or s.progress moment)) }) else idle

abbrev pub done_on : Option Running → Ended → ℕ → Control → Control
done_on None e moment s = s
done_on (Some r) e moment s = done_running r e moment s

-- the end of the running item
abbrev pub after_done : Ended → ℕ → Control → Control
after_done e moment s = done_on s.running e moment (at_next_place s)

-- Reset: everything but the running item and a scheduled dequeue event is removed, and a new epoch begins.
abbrev pub after_reset : Control → Control
after_reset s = with_dequeue_if (not (s.size == 0)) (record s {
  phase = Unconfigured;
  epoch = s.epoch + 1;
  blocked = false;
  saturated = false;
  halted = false;
  active = None;
  progress = None;
  messages = [];
  work = [];
  next_item = 0;
  size = 0;
  pending = [];
  tasks = filter is_dequeue s.tasks;
})

-- Close: a reset, and then the codec is closed.
abbrev pub after_close : Control → Control
after_close s = record (after_reset s) { phase = Closed }

-- The codec is told where it is at work; nothing else changes it (our choice).
abbrev pub after_ground : Ground → Control → Control
after_ground to s = record s { own_ground = to }

-- how long a codec counts as active after its last item ended, in microseconds (our choice)
abbrev pub activity : ℕ
activity = 10000000

abbrev pub is_background_decoder : Kind → Ground → Bool
is_background_decoder k at = is_decoder k && is_background at

-- an item ended, and so long ago that the codec is not active, or also an active one may be reclaimed
abbrev pub is_reclaimable : ℕ → Bool → Option ℕ → Bool
is_reclaimable now active_too None = false
is_reclaimable now active_too (Some moment) = nat_le (moment + activity) now || active_too

-- A configured codec may be reclaimed where it is not active; a decoder in the background, whose page has no encoder at work,
-- where it is active too (W3C WebCodecs, 'Resource Reclamation'; that it does not matter whether its page plays sound, and
-- that a codec is spared until its first item ended, is our choice).
abbrev pub may_reclaim : ℕ → Control → Bool
may_reclaim now s = elim (s.phase) [
  | Unconfigured ↦ false
  | Configured ↦ is_reclaimable now (is_background_decoder s.opening.kind s.own_ground) s.progress
  | Closed ↦ false
]

-- an opening where none is given, so that definitions have a value (our choice: the kind and the saturation that a script has by default)
abbrev pub no_opening : Opening
no_opening = record { kind = kinds.AudioDecoder; saturation = 4 }

abbrev pub opening_control : Opening → Control
opening_control o = record {
  place = 0;
  opening = o;
  phase = Unconfigured;
  epoch = 0;
  key_required = true;
  messages = [];
  blocked = false;
  saturated = false;
  halted = false;
  size = 0;
  pending = [];
  work = [];
  next_item = 0;
  running = None;
  tasks = [];
  scheduled = false;
  shown = 0;
  taken = 0;
  active = None;
  progress = None;
  own_ground = grounds.Foreground;
}

-- the same description, or none of both
abbrev pub same_description : Option (List ℕ) → Option (List ℕ) → Bool
same_description None None = true
same_description (Some a) (Some b) = bytes_eq a b
same_description _ _ = false

-- The config is the one of the last encoded output that was shown: the same codec, rate, channels and description (W3C
-- WebCodecs, 'Output EncodedAudioChunks' of AudioEncoder).
abbrev pub is_active : Option AudioDecoderConfig → AudioDecoderConfig → Bool
is_active None c = false
is_active (Some a) c = bytes_eq a.codec c.codec && (a.rate == c.rate) && (a.channels == c.channels) && same_description a.description c.description

-- Outputs as they are shown: of one item the first alone can carry a config, and it keeps it exactly where it is not the
-- active one (W3C WebCodecs, EncodedAudioChunkMetadata).
abbrev pub carried : Option AudioDecoderConfig → List media.Unit → List media.Unit
carried active (unit_of.Coded chunk (Some c) ∷ us) = unit_of.Coded chunk (if is_active active c then None else Some c) ∷ us
carried active us = us

-- the config that is active then
abbrev pub active_after : Option AudioDecoderConfig → List media.Unit → Option AudioDecoderConfig
active_after active (unit_of.Coded chunk (Some c) ∷ us) = if is_active active c then active else Some c
active_after active us = active

abbrev pub with_units : List media.Unit → Control → Control
with_units units s = record s { shown = s.shown + length units; active = active_after s.active units }

-- The first output that was shown and not taken yet is taken (our choice).
abbrev pub after_take : Control → Control
after_take s = record s { taken = s.taken + 1 }

abbrev pub may_take : ℕ → Control → Bool
may_take unit s = (unit == s.taken) && nat_lt unit s.shown

-- Outputs are delivered, and then the promise is resolved.
abbrev pub with_flushed : ℕ → List media.Unit → Control → Control
with_flushed promise units s = with_units units (record s { pending = filter (λ p. not (p == promise)) s.pending })

-- The front task, which has left the queue, runs.
abbrev pub run_task : Task → Control → Control
run_task task.Unblock s = record s { blocked = false; tasks = s.tasks ++ task.Process ∷ [] }
run_task task.Process s = process s
run_task task.Desaturate s = process (record s { saturated = false })
run_task (task.Output units) s = with_units units s
run_task (task.Flushed promise units) s = with_flushed promise units s
run_task task.Dequeue s = record s { scheduled = false }
run_task (task.Close x) s = after_close s

abbrev pub run_first : List Task → Control → Control
run_first [] s = s
run_first (t ∷ ts) s = run_task t (record s { tasks = ts })

abbrev pub run_front : Control → Control
run_front s = run_first s.tasks s

abbrev pub is_close : Task → Bool
is_close (task.Close x) = true
is_close _ = false

-- whether the task that a turn takes closes the codec, if it takes one
abbrev pub turn_closes : List Task → Option Bool
turn_closes [] = None
turn_closes (t ∷ ts) = Some (is_close t)

abbrev pub after_turn_on : List Task → Control → Control
after_turn_on [] s = s
after_turn_on (t ∷ ts) s = run_front (at_next_place s)

abbrev pub after_turn : Control → Control
after_turn s = after_turn_on s.tasks s

-- How many starts, ends and turns are left at most.
abbrev pub task_weight : Task → ℕ
task_weight task.Unblock = 2
task_weight _ = 1

abbrev pub running_weight : Option Running → ℕ
running_weight None = 0
running_weight (Some r) = 3

abbrev pub left : Control → ℕ
left s = 7 * length s.messages + 4 * length s.work + running_weight s.running + sum_by task_weight s.tasks
