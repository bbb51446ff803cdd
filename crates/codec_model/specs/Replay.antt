-- The state of a codec, one entry after another.
use Rattle.std.specs.Prelude.{ℕ, ◌≡◌, ◌==◌, ◌&&◌, not, Bool, true, false, List, [], ◌∷◌, ◌++◌, length, Option, Some, None, is_some, option_and_then, if◌then◌else◌}
use Rattle.wc_base.specs.declared.error.DomError.{DomError}
use Rattle.wc_base.specs.declared.error.DomError.TheVariants as dom
use Rattle.wc_config.specs.declared.codec.CoderId.{CoderId}
use Rattle.wc_config.specs.declared.config.Config.{Config}
use Rattle.wc_config.specs.declared.config.Config.TheVariants.{Bad}
use Rattle.wc_config.specs.Configs.{is_valid, is_supported, coder_id_of}
use Rattle.wc_chunk.specs.declared.chunk.Chunk.{Chunk}
use Rattle.codec_definitions.specs.declared.unit.Unit as media
use Rattle.codec_definitions.specs.declared.command.Command.{Command}
use Rattle.codec_definitions.specs.declared.command.Command.TheVariants as command
use Rattle.codec_definitions.specs.Answers.{answers, last_answer}
use Rattle.codec_definitions.specs.declared.unit.Unit.TheVariants as unit_of
use Rattle.wc_config.specs.declared.config.AudioDecoderConfig.{AudioDecoderConfig}
use Rattle.coder_api.specs.Meaning.{Configured as Serving, new_state, serves, setup_of}
use Rattle.codec_model.specs.declared.entry.Opening.{Opening}
use Rattle.codec_model.specs.declared.entry.CodecState.TheVariants.{Unconfigured, Configured, Closed}
use Rattle.codec_model.specs.declared.entry.Pair.{Pair}
use Rattle.codec_model.specs.declared.entry.MediaShape.{MediaShape}
use Rattle.codec_model.specs.declared.entry.MediaShape.TheVariants as medium_shape
use Rattle.codec_model.specs.declared.entry.Handed.{Handed}
use Rattle.codec_model.specs.declared.entry.Handed.TheVariants as handed
use Rattle.codec_model.specs.declared.entry.Coded.{Coded}
use Rattle.codec_model.specs.declared.entry.Coded.TheVariants as coded
use Rattle.codec_model.specs.declared.entry.Work.{Work}
use Rattle.codec_model.specs.declared.entry.Work.TheVariants as work
use Rattle.codec_model.specs.declared.entry.WorkKind.{WorkKind}
use Rattle.codec_model.specs.declared.entry.WorkKind.TheVariants as kind
use Rattle.codec_model.specs.declared.entry.Item.{Item}
use Rattle.codec_model.specs.declared.entry.Running.{Running}
use Rattle.codec_model.specs.declared.entry.Task.{Task}
use Rattle.codec_model.specs.declared.entry.Task.TheVariants as task
use Rattle.codec_model.specs.declared.entry.Ended.{Ended}
use Rattle.codec_model.specs.declared.entry.Ended.TheVariants as ended
use Rattle.codec_model.specs.declared.entry.Outcome.{Outcome}
use Rattle.codec_model.specs.declared.entry.Outcome.TheVariants as outcome
use Rattle.codec_model.specs.declared.entry.Call.{Call}
use Rattle.codec_model.specs.declared.entry.Call.TheVariants as call
use Rattle.codec_model.specs.declared.entry.Entry.{Entry}
use Rattle.codec_model.specs.declared.entry.Entry.TheVariants as entry
use Rattle.codec_model.specs.Control.{Control, opening_control, is_key_chunk, may_start, after_configure, after_decode, after_flush, start_front, done_running, at_next_place, after_reset, after_close, may_reclaim, run_front, held_of, after_encode, after_take, may_take, after_ground}

-- what the coder was given in one epoch: its last configuration, and the commands since
pub record Given : Type 0 where
  pub config : Config
  pub commands : List Command

abbrev pub nothing_given : Given
nothing_given = record { config = Bad; commands = [] }

-- the input that a medium is to a coder
abbrev pub medium_command : MediaShape → List ℕ → Command
medium_command (medium_shape.Sound shape) bytes = command.Sound (record { shape = shape; bytes = bytes })
medium_command (medium_shape.Image shape) bytes = command.Image (record { shape = shape; bytes = bytes })

-- what a coder is asked with an input
abbrev pub command_of : Coded → Command
command_of (coded.Chunk chunk) = command.Chunk chunk
command_of (coded.Medium medium) = medium_command medium.shape medium.bytes

abbrev pub given_more : Work → Given → Given
given_more (work.Configure config) g = record { config = config; commands = [] }
given_more (work.Coded input) g = record g { commands = g.commands ++ command_of input ∷ [] }
given_more work.Flush g = record g { commands = g.commands ++ command.Drain ∷ [] }

-- the coder that a config asks for serves another config too
abbrev pub serves_too : Option CoderId → Config → Bool
serves_too None config = false
serves_too (Some id) config = serves id config

-- the config that a message or an item brings, if it brings one
abbrev pub config_asked : Work → Option Config
config_asked (work.Configure config) = Some config
config_asked (work.Coded input) = None
config_asked work.Flush = None

-- the coder that a supported config asks for, where what is there does not serve it
abbrev pub coder_wanted : (Config → Bool) → Config → Option CoderId
coder_wanted serves_it config = if is_supported config && not (serves_it config) then coder_id_of config else None

-- The coder of which an item needs a box that its codec does not hold: a configure item whose config is supported needs
-- one, unless the coder that was given commands before serves it.
abbrev pub missing_coder : Given → Work → Option CoderId
missing_coder g w = option_and_then (coder_wanted (serves_too (coder_id_of g.config))) (config_asked w)

pub record State : Type 0 where
  pub control : Control
  -- what was given in this epoch by the items that started
  pub given : Given
  -- what the running item's epoch was given, up to it
  pub running_given : Given
  -- the reference that it holds, if it holds one
  pub running_held : Option Pair

abbrev pub opening_state : Opening → State
opening_state o = record { control = opening_control o; given = nothing_given; running_given = nothing_given; running_held = None }

-- The codec's definition over the whole list of what was given since the configuration.
abbrev pub answers_by : Option CoderId → Given → List (Option (List media.Unit))
answers_by None g = []
answers_by (Some id) g = answers id g.config g.commands

abbrev pub answers_to : Given → List (Option (List media.Unit))
answers_to g = answers_by (coder_id_of g.config) g

-- The decoder's config for what is coded by a config; a decoder's outputs have none.
abbrev pub decoder_config : Config → Option AudioDecoderConfig
decoder_config c = setup_of (Serving c new_state)

-- the first of an item's encoded outputs carries this config
abbrev pub with_config : AudioDecoderConfig → List media.Unit → List media.Unit
with_config c (unit_of.Coded chunk config ∷ us) = unit_of.Coded chunk (Some c) ∷ us
with_config c us = us

abbrev pub labelled : Option AudioDecoderConfig → List media.Unit → List media.Unit
labelled None us = us
labelled (Some c) us = with_config c us

abbrev pub labelled_answer : Option AudioDecoderConfig → Option (List media.Unit) → Option (List media.Unit)
labelled_answer c None = None
labelled_answer c (Some us) = Some (labelled c us)

-- what the last of what was given gives: no units for a config that is supported, or a refusal
abbrev pub answer_to : WorkKind → Given → Option (List media.Unit)
answer_to kind.Configure g = if is_supported g.config then Some [] else None
answer_to kind.Coded g = labelled_answer (decoder_config g.config) (last_answer (answers_to g))
answer_to kind.Flush g = labelled_answer (decoder_config g.config) (last_answer (answers_to g))

abbrev pub ended_run : ℕ → Option (List media.Unit) → Option Ended
ended_run units None = None
ended_run units (Some us) = if units == length us then Some (ended.Ran us) else None

abbrev pub ended_refused : Option (List media.Unit) → Option Ended
ended_refused None = Some ended.Refused
ended_refused (Some us) = None

-- how an item of this kind ends with this outcome; none where that is not legal
abbrev pub ended_of : WorkKind → Given → Outcome → Option Ended
ended_of k g (outcome.Ran units) = ended_run units (answer_to k g)
ended_of k g outcome.Refused = ended_refused (answer_to k g)
ended_of k g (outcome.NoSlot e) = elim k [ kind.Configure ↦ (if is_supported g.config then Some (ended.NoSlot e) else None) | kind.Coded ↦ None | kind.Flush ↦ None ]
ended_of k g outcome.NoMemory = Some ended.NoMemory

abbrev pub with_control : Control → State → State
with_control c s = record s { control = c }

-- the error with which a call is refused
abbrev pub configure_error : Config → Control → Option DomError
configure_error config c =
    if is_valid config then elim (c.phase) [ Unconfigured ↦ None | Configured ↦ None | Closed ↦ Some dom.InvalidState ]
    else Some dom.TypeErr

abbrev pub decode_error : Chunk → Control → Option DomError
decode_error chunk c = elim (c.phase) [
  | Unconfigured ↦ Some dom.InvalidState
  | Configured ↦ (if c.key_required && not (is_key_chunk c.opening.kind chunk) then Some dom.Data else None)
  | Closed ↦ Some dom.InvalidState
]

abbrev pub flush_error : Control → Option DomError
flush_error c = elim (c.phase) [ Unconfigured ↦ Some dom.InvalidState | Configured ↦ None | Closed ↦ Some dom.InvalidState ]

abbrev pub removal_error : Control → Option DomError
removal_error c = elim (c.phase) [ Unconfigured ↦ None | Configured ↦ None | Closed ↦ Some dom.InvalidState ]

abbrev pub is_configured : Control → Bool
is_configured c = elim (c.phase) [ Unconfigured ↦ false | Configured ↦ true | Closed ↦ false ]

-- The error with which an encode is refused: of a detached medium first (W3C WebCodecs, 'Methods' of AudioEncoder and
-- VideoEncoder, encode).
abbrev pub encode_error : Bool → Control → Option DomError
encode_error detached c = if detached then Some dom.TypeErr else (if is_configured c then None else Some dom.InvalidState)

-- what became of an encode's medium tells its error, if it has one
abbrev pub handed_error : Handed → Option DomError
handed_error handed.Gone = Some dom.TypeErr
handed_error handed.Kept = Some dom.InvalidState
handed_error (handed.Cloned medium) = None

-- what became of the medium of an encode that is refused, which was detached or not
abbrev pub refused_as : Bool → Handed
refused_as detached = if detached then handed.Gone else handed.Kept

abbrev pub is_cloned : Handed → Bool
is_cloned handed.Gone = false
is_cloned handed.Kept = false
is_cloned (handed.Cloned medium) = true

-- what a call asks for by its message, where it is not refused; the others send none
abbrev pub message_of : Call → Option Work
message_of (call.Configure config) = Some (work.Configure config)
message_of (call.Decode chunk) = Some (work.Coded (coded.Chunk chunk))
message_of (call.Encode handed.Gone) = None
message_of (call.Encode handed.Kept) = None
message_of (call.Encode (handed.Cloned medium)) = Some (work.Coded (coded.Medium medium))
message_of call.Flush = Some work.Flush
message_of call.Reset = None
message_of call.Close = None
message_of (call.Take unit) = None
message_of (call.Ground to) = None

abbrev pub sends : Call → Bool
sends x = is_some (message_of x)

-- the error with which a call is refused
abbrev pub call_error : Call → Control → Option DomError
call_error (call.Configure config) c = configure_error config c
call_error (call.Decode chunk) c = decode_error chunk c
call_error (call.Encode handed) c = handed_error handed
call_error call.Flush c = flush_error c
call_error call.Reset c = removal_error c
call_error call.Close c = removal_error c
call_error (call.Take unit) c = None
call_error (call.Ground to) c = None

-- of a medium that is not detached, the codec makes a clone exactly where it is configured
abbrev pub may_hand : Handed → Control → Bool
may_hand handed.Gone c = true
may_hand handed.Kept c = not (is_configured c)
may_hand (handed.Cloned medium) c = is_configured c

-- whether this call can be made: an encode is told what becomes of its medium, and a take which output is the next
abbrev pub may_call : Call → Control → Bool
may_call (call.Encode handed) c = may_hand handed c
may_call (call.Take unit) c = may_take unit c
may_call _ c = true

abbrev pub after_handed : Handed → Control → Control
after_handed handed.Gone c = at_next_place c
after_handed handed.Kept c = at_next_place c
after_handed (handed.Cloned medium) c = after_encode c.place medium (at_next_place c)

-- a call that is not refused
abbrev pub accepted : Call → Control → Control
accepted (call.Configure config) c = after_configure c.place config (at_next_place c)
accepted (call.Decode chunk) c = after_decode c.place chunk (at_next_place c)
accepted (call.Encode handed) c = after_handed handed c
accepted call.Flush c = after_flush c.place (at_next_place c)
accepted call.Reset c = after_reset (at_next_place c)
accepted call.Close c = after_close (at_next_place c)
accepted (call.Take unit) c = after_take (at_next_place c)
accepted (call.Ground to) c = after_ground to (at_next_place c)

-- a call at its place: refused with this error it has its entry and does nothing else
abbrev pub after_call : Option DomError → Call → Control → Control
after_call None x c = accepted x c
after_call (Some error) x c = at_next_place c

-- a call that removes all that is queued
abbrev pub removes : Call → Bool
removes call.Reset = true
removes call.Close = true
removes _ = false

-- a call that takes an output
abbrev pub takes : Call → Bool
takes (call.Take unit) = true
takes _ = false

-- a removal begins a new epoch, to which nothing was given
abbrev pub removed : Control → State → State
removed c s = record s { control = c; given = nothing_given }

-- a call, refused with this error or made
abbrev pub called : Option DomError → Call → State → State
called None x s = if removes x then removed (accepted x s.control) s else with_control (accepted x s.control) s
called (Some error) x s = with_control (at_next_place s.control) s

abbrev pub call_step : Call → State → State
call_step x s = called (call_error x s.control) x s

abbrev pub start_step : List Item → ℕ → ℕ → State → Option State
start_step [] epoch item s = None
start_step (i ∷ is) epoch item s =
    if may_start s.control && (epoch == s.control.epoch) && (item == i.number)
    then (let g = given_more i.work s.given in Some (record { control = start_front (at_next_place s.control); given = g; running_given = g; running_held = held_of i.work }))
    else None

abbrev pub done_ended : Running → Option Ended → ℕ → State → Option State
done_ended r None moment s = None
done_ended r (Some e) moment s = Some (with_control (done_running r e moment (at_next_place s.control)) s)

abbrev pub done_step : Option Running → ℕ → ℕ → ℕ → Outcome → State → Option State
done_step None epoch item moment o s = None
done_step (Some r) epoch item moment o s =
    if (r.epoch == epoch) && (r.number == item) then done_ended r (ended_of r.kind s.running_given o) moment s else None

abbrev pub turn_step : List Task → State → Option State
turn_step [] s = None
turn_step (task.Close x ∷ ts) s = Some (removed (run_front (at_next_place s.control)) s)
turn_step (t ∷ ts) s = Some (with_control (run_front (at_next_place s.control)) s)

-- One entry after a state; none where it is not legal there.
abbrev pub step : Entry → State → Option State
step (entry.Call who x) s = if may_call x s.control then Some (call_step x s) else None
step (entry.Start epoch item) s = start_step s.control.work epoch item s
step (entry.Done epoch item moment o) s = done_step s.control.running epoch item moment o s
step entry.Turn s = turn_step s.control.tasks s
step (entry.Reclaim moment) s = if may_reclaim moment s.control then Some (removed (after_close (at_next_place s.control)) s) else None

abbrev pub replay_from : List Entry → State → Option State
replay_from [] s = Some s
replay_from (e ∷ es) s = option_and_then (replay_from es) (step e s)

-- The state after a history; none where some entry is not legal at its place.
abbrev pub replay : Opening → List Entry → Option State
replay o history = replay_from history (opening_state o)

abbrev pub IsLegal : Opening → List Entry → Type 0
IsLegal o history = is_some (replay o history) ≡ true
