-- The steps of an audio decoder or encoder that C drives.
use Rattle.std.specs.Prelude.{ℕ, ◌≡◌, ◌==◌, ◌||◌, ◌+◌, ◌^◌, ◌≤◌, ◌⊎◌, Bool, true, false, not}
use Rattle.std.specs.Prelude.{List, [], ◌∷◌, ◌++◌, length, slice_get, if◌then◌else◌}
use Rattle.std.specs.Prelude.{Option, Some, None, IfSome, IfNone, IsSomeAnd}
use Rattle.std.specs.Str.{IsUtf8}
use Rattle.wc_base.specs.declared.who.Who.{Who}
use Rattle.wc_base.specs.declared.media.Samples.{Samples}
use Rattle.wc_config.specs.declared.kind.Kind.{Kind}
use Rattle.wc_config.specs.declared.kind.Kind.TheVariants as kind
use Rattle.wc_config.specs.declared.config.AudioDecoderConfig.{AudioDecoderConfig}
use Rattle.wc_config.specs.declared.config.Config.{Config}
use Rattle.wc_config.specs.declared.config.Config.TheVariants as config
use Rattle.wc_chunk.specs.declared.chunk.Chunk.{Chunk}
use Rattle.codec_model.specs.declared.entry.Call.{Call}
use Rattle.codec_model.specs.declared.entry.Call.TheVariants as call
use Rattle.codec_model.specs.declared.entry.Entry.{Entry}
use Rattle.codec_model.specs.declared.entry.Entry.TheVariants as entry
use Rattle.codec_model.specs.declared.entry.Handed.{Handed}
use Rattle.codec_model.specs.declared.entry.Handed.TheVariants as handed
use Rattle.codec_model.specs.declared.entry.HeldMedium.{HeldMedium}
use Rattle.codec_model.specs.declared.entry.MediaShape.TheVariants as medium_shape
use Rattle.codec_model.specs.declared.entry.Outcome.{Outcome}
use Rattle.codec_model.specs.declared.entry.Outcome.TheVariants as outcomes
use Rattle.codec_model.specs.declared.entry.Showing.{Showing}
use Rattle.codec_model.specs.declared.entry.Showing.TheVariants as showings
use Rattle.codec_model.specs.Control.{Control, start_item, opening_control, after_done}
use Rattle.codec_model.specs.Replay.{State, call_error, sends, is_configured, refused_as}
use Rattle.codec_model.specs.Shown.{shown_of, exception_of, ends_of}
use Rattle.codec_live.specs.Job.{JobValue, DoneValue, IsJobOf, IsEndOf, outcome_of}
use Rattle.codec_live.specs.Live.{Live, StandsAfter, GoesFrom, GoesOn, state_after}
use Rattle.codec_live.specs.Live.{nothing_shown, is_at_work, kept_box}
use Rattle.engine.specs.declared.codec.AudioCodec.{AudioCodec as Codec}
use Rattle.engine.specs.declared.work.WorkItem.{WorkItem as Work}
use Rattle.engine.specs.declared.answers.ChunkHead.{ChunkHead}
use Rattle.engine.specs.declared.answers.EncoderNumbers.{EncoderNumbers}
use Rattle.engine.specs.declared.answers.SamplesHead.{SamplesHead}
use Rattle.engine.specs.declared.answers.ChunkOutput.{ChunkOutput}
use Rattle.engine.specs.declared.answers.ConfigOutput.{ConfigOutput}
use Rattle.engine.specs.declared.answers.Reply.{Reply}
use Rattle.engine.specs.declared.answers.Turn.{Turn}
use Rattle.engine.specs.declared.answers.Look.{Look}
use Rattle.engine.specs.declared.answers.Output.{Output}
use Rattle.engine.specs.declared.answers.Settled.{Settled}
use Rattle.engine.specs.Sounds.{samples_of}
use Rattle.engine.specs.Told.{Told, OutputTold, ChunkTold, ConfigTold, settled_of}
use Rattle.engine.specs.Told.{no_reply, no_turn, no_output, no_chunk, no_config, unsettled, no_look}
use Rattle.engine.specs.Codes.{done, refused, no_memory, invalid, idle, not_open, used_up}
use Rattle.engine.specs.Codes.{exception_code, status_of, phase_code}

-- the entry's place is the last one that an entry can have
abbrev pub IsUsedUp : Live → Type 0
IsUsedUp l = 2 ^ 64 ≤ l.control.place + 2

-- ---- calls

-- the call is an entry, with its exception if it has one; what it shows is kept
pub record MadeCall (x : Call) (old new : Live) (kept : Showing) (r : Reply) : Type 0 where
  pub goes : (who : Who) → GoesOn old new (entry.Call who x) (shown_of kept)
  pub status_is : r.status ≡ status_of (exception_of x (call_error x old.control))
  pub error_is : r.error ≡ exception_code (exception_of x (call_error x old.control))
  pub place_is : r.place ≡ old.control.place
  pub settled_are : r.settled ≡ length (ends_of (shown_of kept).events)

-- A call of a codec that is open. Only one that sends a message may want memory.
pub record Called (x : Call) (old new : Live) (before kept : Showing) (r : Reply) : Type 0 where
  pub made : r.status ≤ refused → MadeCall x old new kept r
  pub stays : no_memory ≤ r.status → (new ≡ old) × (kept ≡ before) × (r ≡ no_reply r.status)
  pub memory : r.status ≡ no_memory → sends x ≡ true
  pub ended : r.status ≡ used_up → IsUsedUp old
  pub status : (r.status ≤ refused) ⊎ ((r.status ≡ no_memory) ⊎ (r.status ≡ used_up))

-- of a codec that has queues, or says why it has none
abbrev pub CallsIt : Call → Option Live → Option Live → Showing → Showing → ℕ → Reply → Type 0
CallsIt x (Some old) (Some new) before kept status r = Called x old new before kept r
CallsIt x None None before kept status r = (r ≡ no_reply status) × (kept ≡ before)
CallsIt x _ _ before kept status r = ⊥

-- the words that tell an open decoder, or encoder, from other bytes: "decoders" and "encoders" in
-- ASCII
abbrev pub decoder_word : ℕ
decoder_word = 0x6465_636f_6465_7273

abbrev pub encoder_word : ℕ
encoder_word = 0x656e_636f_6465_7273

abbrev pub is_decoder : Codec → Bool
is_decoder d = d.word == decoder_word

abbrev pub is_encoder : Codec → Bool
is_encoder d = d.word == encoder_word

abbrev pub is_open : Codec → Bool
is_open d = is_decoder d || is_encoder d

-- one where it holds, and else the other
abbrev pub Where : Bool → Type 0 → Type 0 → Type 0
Where b P Q = (b ≡ true → P) × (b ≡ false → Q)

-- one of an open codec, and the other of bytes that are none
abbrev pub IfOpen : Codec → Type 0 → Type 0 → Type 0
IfOpen d P Q = Where (is_open d) P Q

-- a call of a codec that is open
abbrev pub CallsOpen : Call → Codec → Codec → Reply → Type 0
CallsOpen x old new r =
    CallsIt x old.core new.core old.showing new.showing old.status r
    × (new.word ≡ old.word)

-- a call where one is open that it may be made of: else it is told so, and does nothing
abbrev pub CallsWhere : Bool → Call → Codec → Codec → Reply → Type 0
CallsWhere b x old new r =
    Where b (CallsOpen x old new r) ((r ≡ no_reply not_open) × (new ≡ old))

-- a call that decoders and encoders have
abbrev pub Calls : Call → Codec → Codec → Reply → Type 0
Calls x old new r = CallsWhere (is_open old) x old new r

-- the config of these parts; a codec string that is no UTF-8 breaks a rule of WebIDL
abbrev pub IsDecoderConfig : (rate channels : ℕ) → List ℕ → Option (List ℕ) → Config → Type 0
IsDecoderConfig rate channels codec description (config.AudioDecoder c) =
    c ≡ record { codec = codec; rate = rate; channels = channels; description = description }
IsDecoderConfig rate channels codec description config.Bad = IsUtf8 codec → ⊥
IsDecoderConfig rate channels codec description _ = ⊥

abbrev pub IsEncoderConfig : EncoderNumbers → List ℕ → Config → Type 0
IsEncoderConfig n codec (config.AudioEncoder c) =
    c
    ≡ record {
      codec = codec;
      rate = n.rate;
      channels = n.channels;
      block_size = n.block_size;
      level = n.level;
      depth = n.depth;
    }
IsEncoderConfig n codec config.Bad = IsUtf8 codec → ⊥
IsEncoderConfig n codec _ = ⊥

-- memory was wanted for the argument of a call, and nothing has changed
abbrev pub WantsMemory : Codec → Codec → Reply → Type 0
WantsMemory old new r = (r ≡ no_reply no_memory) × (new ≡ old)

-- a configure with such a config, where one is open that takes it
abbrev pub ConfiguresBy : (Config → Type 0) → Bool → Codec → Codec → Reply → Type 0
ConfiguresBy is b old new r =
    WantsMemory old new r
    ⊎ ((c : Config) × is c × CallsWhere b (call.Configure c) old new r)

-- a decoder's configure with the config of these parts: rate, channels, codec string, description
abbrev pub ConfiguresDecoder :
    (rate channels : ℕ) → List ℕ → Option (List ℕ) → Codec → Codec → Reply → Type 0
ConfiguresDecoder rate channels codec description old new r =
    ConfiguresBy (IsDecoderConfig rate channels codec description) (is_decoder old) old new r

-- an encoder's configure with the config of these numbers and this codec string
abbrev pub ConfiguresEncoder : EncoderNumbers → List ℕ → Codec → Codec → Reply → Type 0
ConfiguresEncoder n codec old new r =
    ConfiguresBy (IsEncoderConfig n codec) (is_encoder old) old new r

abbrev pub if_given : {X : Type 0} → ℕ → X → Option X
if_given flag x = if flag == 0 then None else Some x

-- the chunk of these parts
abbrev pub chunk_of : ChunkHead → List ℕ → Chunk
chunk_of head bytes = record {
  key = not (head.key == 0);
  timestamp = head.timestamp;
  duration = if_given head.has_duration head.duration;
  bytes = bytes;
}

-- a decode of the chunk of these parts
abbrev pub Decodes : ChunkHead → List ℕ → Codec → Codec → Reply → Type 0
Decodes head bytes old new r =
    WantsMemory old new r
    ⊎ CallsWhere (is_decoder old) (call.Decode (chunk_of head bytes)) old new r

-- ---- encodes

-- samples as an encoder's queues have them: a medium of no pool
abbrev pub medium_of : Samples → HeldMedium
medium_of s = record {
  shape = medium_shape.Sound s.shape;
  bytes = s.bytes;
  pair = record { resource = 0; reference = 0 };
}

-- What becomes of samples that an encode is given, which are not detached: a configured encoder
-- keeps a copy of them, which is the clone of the standard (W3C WebCodecs, AudioEncoder, encode).
abbrev pub handed_of : Samples → Control → Handed
handed_of s c = if is_configured c then handed.Cloned (medium_of s) else refused_as false

-- an encode of an encoder that has queues, or says why it has none
abbrev pub EncodesIt :
    Samples → Option Live → Option Live → Showing → Showing → ℕ → Reply → Type 0
EncodesIt s (Some old) (Some new) before kept status r =
    Called (call.Encode (handed_of s old.control)) old new before kept r
EncodesIt s None None before kept status r = (r ≡ no_reply status) × (kept ≡ before)
EncodesIt s _ _ before kept status r = ⊥

-- an encode of samples, or of what are none
abbrev pub EncodesOpen : Option Samples → Codec → Codec → Reply → Type 0
EncodesOpen None old new r = (r ≡ no_reply invalid) × (new ≡ old)
EncodesOpen (Some s) old new r =
    EncodesIt s old.core new.core old.showing new.showing old.status r × (new.word ≡ old.word)

-- an encode, where an encoder is open
abbrev pub EncodesWhere : Option Samples → Codec → Codec → Reply → Type 0
EncodesWhere samples old new r =
    Where (is_encoder old) (EncodesOpen samples old new r) ((r ≡ no_reply not_open) × (new ≡ old))

-- an encode of the samples of these parts
abbrev pub Encodes : SamplesHead → List ℕ → Codec → Codec → Reply → Type 0
Encodes head bytes old new r =
    WantsMemory old new r ⊎ EncodesWhere (samples_of head bytes) old new r

-- ---- turns

-- the front event task ran; what it shows is kept
pub record MadeTurn (old new : Live) (kept : Showing) (t : Turn) : Type 0 where
  pub goes : GoesOn old new entry.Turn (shown_of kept)
  pub told : Told (shown_of kept) t
  pub place_is : t.place ≡ old.control.place

pub record Turned (old new : Live) (before kept : Showing) (t : Turn) : Type 0 where
  pub made : t.status ≡ done → MadeTurn old new kept t
  pub stays : idle ≤ t.status → (new ≡ old) × (kept ≡ before) × (t ≡ no_turn t.status)
  pub rests : t.status ≡ idle → old.control.tasks ≡ []
  pub ended : t.status ≡ used_up → IsUsedUp old
  pub status : (t.status ≡ done) ⊎ ((t.status ≡ idle) ⊎ (t.status ≡ used_up))

abbrev pub TurnsIt : Option Live → Option Live → Showing → Showing → ℕ → Turn → Type 0
TurnsIt (Some old) (Some new) before kept status t = Turned old new before kept t
TurnsIt None None before kept status t = (t ≡ no_turn status) × (kept ≡ before)
TurnsIt _ _ before kept status t = ⊥

abbrev pub TurnsOpen : Codec → Codec → Turn → Type 0
TurnsOpen old new t =
    TurnsIt old.core new.core old.showing new.showing old.status t × (new.word ≡ old.word)

abbrev pub Turns : Codec → Codec → Turn → Type 0
Turns old new t = IfOpen old (TurnsOpen old new t) ((t ≡ no_turn not_open) × (new ≡ old))

-- ---- work

-- the end is not want of a coder: a codec makes the coders that its items need
abbrev pub IsServed : Outcome → Type 0
IsServed (outcomes.NoSlot entry) = ⊥
IsServed _ = Unit {0}

-- the front item began, and ended at this moment as the codec's definition says
pub record WorkedFrom (history : List Entry) (moment : ℕ) (new : Live) : Type 0 where
  pub epoch : ℕ
  pub number : ℕ
  pub outcome : Outcome
  pub stands : StandsAfter
      ((history ++ entry.Start epoch number ∷ []) ++ entry.Done epoch number moment outcome ∷ [])
      new
  pub served : IsServed outcome

pub record Worked (moment : ℕ) (old new : Live) (answer : ℕ) : Type 0 where
  pub made : answer ≡ done → (history : List Entry) → StandsAfter history old
      → WorkedFrom history moment new
  pub stays : idle ≤ answer → new ≡ old
  pub rests : answer ≡ idle → start_item old.control ≡ None
  pub ended : answer ≡ used_up → IsUsedUp old
  pub status : (answer ≡ done) ⊎ ((answer ≡ idle) ⊎ (answer ≡ used_up))

abbrev pub WorksIt : ℕ → Option Live → Option Live → ℕ → ℕ → Type 0
WorksIt moment (Some old) (Some new) status answer = Worked moment old new answer
WorksIt moment None None status answer = answer ≡ status
WorksIt moment _ _ status answer = ⊥

-- beside its queues nothing of the codec changed
abbrev pub KeepsRest : Codec → Codec → Type 0
KeepsRest old new = (new.word ≡ old.word) × (new.showing ≡ old.showing)

abbrev pub WorksOpen : ℕ → Codec → Codec → ℕ → Type 0
WorksOpen moment old new answer =
    WorksIt moment old.core new.core old.status answer × KeepsRest old new

abbrev pub Works : ℕ → Codec → Codec → ℕ → Type 0
Works moment old new answer =
    IfOpen old (WorksOpen moment old new answer) ((answer ≡ not_open) × (new ≡ old))

-- ---- work that leaves its codec

-- after this history the entry of the start is legal, and this is the job of the running item
abbrev pub IsStarted : List Entry → Live → JobValue → Type 0
IsStarted h new j = IsJobOf (state_after new (h ++ entry.Start j.epoch j.number ∷ [])) j

-- the front item began, and this is its job; or none can begin
pub record Started (old new : Live) (job : Option JobValue) : Type 0 where
  pub goes : IfSome job (λ j. GoesOn old new (entry.Start j.epoch j.number) nothing_shown)
  pub is_job : IfSome job (λ j. (h : List Entry) → StandsAfter h old → IsStarted h new j)
  pub stays : IfNone job (new ≡ old)
  pub rests : IfNone job ((start_item old.control ≡ None) ⊎ IsUsedUp old)

abbrev pub StartsIt : Option Live → Option Live → Option JobValue → Type 0
StartsIt (Some old) (Some new) job = Started old new job
StartsIt None None job = job ≡ None
StartsIt _ _ job = ⊥

abbrev pub StartsOpen : Codec → Codec → Option JobValue → Type 0
StartsOpen old new job = StartsIt old.core new.core job × KeepsRest old new

abbrev pub StartsJob : Codec → Codec → Option JobValue → Type 0
StartsJob old new job = IfOpen old (StartsOpen old new job) ((job ≡ None) × (new ≡ old))

abbrev pub Starts : Codec → Codec → Work → Type 0
Starts old new w = StartsJob old new w.job × (w.done ≡ None)

-- the end of a job is that of whichever running item the job is of
pub record IsEndOfJob (j : JobValue) (d : DoneValue) : Type 0 where
  pub end : (s : State) → IsJobOf s j → IsEndOf s d
  pub served : (s : State) → IsJobOf s j → IsServed (outcome_of d.ended)
  pub epoch : d.epoch ≡ j.epoch
  pub number : d.number ≡ j.number

-- a job that is there is done
abbrev pub PerformsJob : Option JobValue → Work → Work → Type 0
PerformsJob None old new = new ≡ old
PerformsJob (Some j) old new = (new.job ≡ None) × IsSomeAnd new.done (IsEndOfJob j)

abbrev pub Performs : Work → Work → Type 0
Performs old new = PerformsJob old.job old new

-- the entry of an end
abbrev pub done_entry : ℕ → DoneValue → Entry
done_entry moment d = entry.Done d.epoch d.number moment (outcome_of d.ended)

-- for each history of whose running item this is the end, the entry is legal
abbrev pub EndsFrom : ℕ → DoneValue → Live → Live → Type 0
EndsFrom moment d old new = (h : List Entry) → StandsAfter h old → IsEndOf (state_after old h) d
    → GoesFrom h old new (done_entry moment d) nothing_shown

-- The item at work ended, where the end has its numbers; the end of another is told, and nothing
-- has changed.
pub record Returned (moment : ℕ) (d : DoneValue) (old new : Live) (answer : ℕ) : Type 0 where
  pub own : answer ≡ done → is_at_work old.control.running d.epoch d.number ≡ true
  pub control_is : answer ≡ done → new.control ≡ after_done d.ended moment old.control
  pub slot_is : answer ≡ done → new.slot ≡ kept_box (d.epoch == old.control.epoch) d.coder
  pub made : answer ≡ done → EndsFrom moment d old new
  pub stays : refused ≤ answer → new ≡ old
  pub other : answer ≡ refused → is_at_work old.control.running d.epoch d.number ≡ false
  pub ended : answer ≡ used_up → IsUsedUp old
  pub status : (answer ≡ done) ⊎ ((answer ≡ refused) ⊎ (answer ≡ used_up))

abbrev pub ReturnsIt : ℕ → DoneValue → Option Live → Option Live → ℕ → ℕ → Type 0
ReturnsIt moment d (Some old) (Some new) status answer = Returned moment d old new answer
ReturnsIt moment d None None status answer = answer ≡ status
ReturnsIt moment d _ _ status answer = ⊥

abbrev pub ReturnsDone : ℕ → DoneValue → Codec → Codec → ℕ → Type 0
ReturnsDone moment d old new answer =
    ReturnsIt moment d old.core new.core old.status answer × KeepsRest old new

-- a job that is there was done now
abbrev pub ReturnsJob : ℕ → Option JobValue → Codec → Codec → ℕ → Type 0
ReturnsJob moment None old new answer = (answer ≡ idle) × (new ≡ old)
ReturnsJob moment (Some j) old new answer =
    (d : DoneValue) × IsEndOfJob j d × ReturnsDone moment d old new answer

abbrev pub ReturnsWork :
    ℕ → Option JobValue → Option DoneValue → Codec → Codec → ℕ → Type 0
ReturnsWork moment job None old new answer = ReturnsJob moment job old new answer
ReturnsWork moment job (Some d) old new answer = ReturnsDone moment d old new answer

abbrev pub Returns : ℕ → Work → Codec → Codec → ℕ → Type 0
Returns moment w old new answer =
    IfOpen old (ReturnsWork moment w.job w.done old new answer)
    ((answer ≡ not_open) × (new ≡ old))

-- ---- looks, and the two ends of a codec

-- the state, the coded messages in the queue, and the number of entries
pub record LooksAt (c : Live) (l : Look) : Type 0 where
  pub status_is : l.status ≡ done
  pub phase_is : l.phase ≡ phase_code c.control.phase
  pub size_is : l.size ≡ c.control.size
  pub entries_are : l.entries ≡ c.control.place

abbrev pub LooksIt : Option Live → ℕ → Look → Type 0
LooksIt (Some c) status l = LooksAt c l
LooksIt None status l = l ≡ no_look status

abbrev pub Looks : Codec → Look → Type 0
Looks d l = IfOpen d (LooksIt d.core d.status l) (l ≡ no_look not_open)

-- the numbers of coded items at which a codec may be saturated (our choice)
abbrev pub IsSaturation : ℕ → Type 0
IsSaturation n = (1 ≤ n) × (n ≤ 64)

-- a codec of this kind that was opened, and not configured yet
abbrev pub opened_live : Kind → ℕ → Live
opened_live k saturation = record {
  control = opening_control (record { kind = k; saturation = saturation });
  slot = None;
}

pub record OpenedLive (k : Kind) (saturation : ℕ) (c : Live) (status : ℕ) : Type 0 where
  pub in_range : IsSaturation saturation
  pub stands : StandsAfter [] c
  pub is_opened : c ≡ opened_live k saturation
  pub status_is : status ≡ done

-- Queues with an empty history; or none, where the saturation is out of its range or memory was
-- wanted.
abbrev pub OpenedCore : Kind → ℕ → Option Live → ℕ → Type 0
OpenedCore k saturation (Some c) status = OpenedLive k saturation c status
OpenedCore k saturation None status =
    (IsSaturation saturation × (status ≡ no_memory))
    ⊎ (((saturation ≡ 0) ⊎ (65 ≤ saturation)) × (status ≡ invalid))

-- a codec of this kind that was opened, with the word of its kind
pub record Opened (k : Kind) (word saturation : ℕ) (d : Codec) : Type 0 where
  pub opened : d.word ≡ word
  pub core_is : OpenedCore k saturation d.core d.status
  pub shows : d.showing ≡ showings.Nothing

abbrev pub OpenedDecoder : ℕ → Codec → Type 0
OpenedDecoder saturation d = Opened kind.AudioDecoder decoder_word saturation d

abbrev pub OpenedEncoder : ℕ → Codec → Type 0
OpenedEncoder saturation d = Opened kind.AudioEncoder encoder_word saturation d

-- nothing that needs memory is left of a codec
abbrev pub IsEmpty : Codec → Type 0
IsEmpty d = (d.core ≡ None) × (d.showing ≡ showings.Nothing)

-- a codec that was ended is not open, and has no queues
pub record Shut (old new : Codec) (answer : ℕ) : Type 0 where
  pub shut : is_open new ≡ false
  pub empty : is_open old ≡ true → (answer ≡ done) × IsEmpty new
  pub stays : is_open old ≡ false → (answer ≡ not_open) × (new ≡ old)

-- ---- what the last step showed

abbrev pub OutputOf : Codec → ℕ → List ℕ → List ℕ → Output → Type 0
OutputOf d number old new o =
    IfOpen d (OutputTold (shown_of d.showing) number old new o)
    ((o ≡ no_output not_open) × (new ≡ old))

abbrev pub ChunkOf : Codec → ℕ → List ℕ → List ℕ → ChunkOutput → Type 0
ChunkOf d number old new o =
    IfOpen d (ChunkTold (shown_of d.showing) number old new o)
    ((o ≡ no_chunk not_open) × (new ≡ old))

-- a part of the decoder config that an output carries
abbrev pub ConfigOf :
    (AudioDecoderConfig → List ℕ) → Codec → ℕ → List ℕ → List ℕ → ConfigOutput → Type 0
ConfigOf part d number old new o =
    IfOpen d (ConfigTold part (shown_of d.showing) number old new o)
    ((o ≡ no_config not_open) × (new ≡ old))

-- the end of a promise, by its number among those that the last step settled
abbrev pub end_told : Codec → ℕ → Settled
end_told d number = settled_of (slice_get (ends_of (shown_of d.showing).events) number)

abbrev pub SettledOf : Codec → ℕ → Settled → Type 0
SettledOf d number s = IfOpen d (s ≡ end_told d number) (s ≡ unsettled not_open)
