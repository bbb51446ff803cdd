-- What a step that was read holds is within its types.
use Rattle.std.proofs.Common.{◌≡◌, ◌<◌, ◌^◌, ℕ, ℤ, pos, negsuc, codes, Bool, true, false, if◌then◌else◌, List, [], Option, Some, None, option_and_then, option_map, Result, Ok, Err, IfOk, refl, subst, arith}
use Rattle.std.specs.Option.{IfSome}
use Rattle.std.specs.Int.Signed.{mag}
use Rattle.std.proofs.lemmas.Result.{IfOk-at_ok}
use Rattle.hex.specs.Hex.{IsBytes, decode_of}
use Rattle.hex.specs.declared.error.FromHexError.{FromHexError}
use Rattle.hex.proofs.HexLemmas.{decode_of-ok}
use Rattle.serde_json.specs.Data.{Data}
use Rattle.serde_json.specs.Find.{get, as_str}
use Rattle.wc_base.specs.declared.media.SampleFormat.{SampleFormat}
use Rattle.wc_base.specs.declared.media.PictureFormat.{PictureFormat}
use Rattle.wc_base.specs.declared.media.SoundShape.{SoundShape}
use Rattle.wc_base.specs.declared.media.PictureShape.{PictureShape}
use Rattle.wc_config.specs.declared.kind.Kind.{Kind}
use Rattle.chunk_files.specs.declared.fault.Stop.{Stop}
use Rattle.script_types.specs.declared.{fault.Wrong.Wrong, script.CodecItem.CodecItem, script.PortItem.PortItem, steps.Step.Step, steps.MediaStep.MediaStep, steps.Variable.Variable, steps.VariableKind.VariableKind, steps.InitShape.InitShape, steps.InitData.InitData, steps.BufferedInit.BufferedInit}
use Rattle.script_types.specs.Names.{codec_named, decodes}
use Rattle.script_steps.specs.Members.{and_then, needed as there, known, name_in, object_in, text_in, within, is_u32, is_integer, natural_of, signed_of, is_timestamp, is_duration, u32_of, timestamp_of, duration_of, decoded, hex_of, required, defaulted, optional, hex_if_there, word_of}
use Rattle.script_steps.specs.ConfigRead.{codec_in, rate_in, channels_in, audio_decoder_with, flac_in, flac_number, audio_encoder_with, pixels_in, video_decoder_with, size_in as pixel_size_in, key_interval_in, video_encoder_with, config_of}
use Rattle.script_steps.specs.Media.{data_of_init, data_value, timestamp_in, duration_in, content_in, key_of, chunk_shape_with, chunk_shape_of, chunk_with, chunk_of, sample_format_of, sound_shape_with, sound_shape_of, sound_with, sound_of, picture_format_of, picture_shape_with, picture_shape_of, picture_with, picture_of, init_shape_of}
use Rattle.script_steps.specs.Buffers.{has_buffers, buffer_if, data_by, data_words, transfer_words, known_buffer, known_data, known_buffers, buffered_with, buffered_of}
use Rattle.script_steps.specs.Ports.{port_named_in, posted_by}
use Rattle.script_steps.specs.Sources.{has, index_in, source_by, source_of}
use Rattle.script_steps.specs.{declared.source.SourceWords.SourceWords, declared.words.StepWord.StepWord, declared.words.MediaWord.MediaWord, declared.references.Needed.Needed}
use Rattle.script_steps.specs.References.{unused, variable_if, bound_on, given_to, encoded_data, bound_from, on_of, ground_on, variable_in}
use Rattle.script_steps.specs.MediaSteps.{made_with, size_in, options_in, media_by}
use Rattle.script_steps.specs.Steps.{numbered, chunk_with_buffers, is_buffered_chunk, no_file, promise_in, step_by}
use Rattle.script_steps.specs.Words.{word_in}
use Rattle.script_steps.specs.Chains.{chain, needed_some}
use Rattle.script_steps.specs.Within.{Is32Bits, HasSmallNumbers, IsSmallShape, IsSmallData, IsSmallChunk, IsSmallSound, IsSmallPicture, IsSmallSource, IsSmallMedia, IsStepWithin, StepsAreWithin}
use Rattle.script_steps.proofs.ReferenceLaws.{by_part, made}
use Rattle.script_steps.proofs.MediaLaws.{either}

-- ---- single members

within_if : {A : Type 0} (fits : A → Bool) (integer : Bool) (o : Option A) → IfOk (within fits integer o) (λ r. IfSome r (λ n. fits n ≡ true))
within_if {A} fits integer (Some n) = by (fits n) refl
  where
    by : (b : Bool) → fits n ≡ b → IfSome (if b then Some n else None) (λ (m : A). fits m ≡ true)
    by true e = e
    by false e = tt
within_if fits true None = tt
within_if fits false None = tt

-- what follows for a value that was read
weaker : {A : Type 0} {P Q : A → Type 0} (r : Result (Option A) (Stop Wrong)) → IfOk r (λ o. IfSome o P) → ((a : A) → P a → Q a) → IfOk r (λ o. IfSome o Q)
weaker (Ok (Some a)) h k = k a h
weaker (Ok None) h k = tt
weaker (Err e) h k = tt

required_if : {A : Type 0} (read : Data → Result (Option A) (Stop Wrong)) (P : A → Type 0) (o : Option Data) → ((d : Data) → IfOk (read d) (λ r. IfSome r P)) → IfOk (required read o) (λ r. IfSome r P)
required_if read P None h = tt
required_if read P (Some d) h = h d

defaulted_if : {A : Type 0} (default : A) (read : Data → Result (Option A) (Stop Wrong)) (P : A → Type 0) (o : Option Data) → P default → ((d : Data) → IfOk (read d) (λ r. IfSome r P)) → IfOk (defaulted default read o) (λ r. IfSome r P)
defaulted_if default read P None k h = k
defaulted_if default read P (Some d) k h = h d

optional_if : {A : Type 0} (read : Data → Result (Option A) (Stop Wrong)) (P : A → Type 0) (o : Option Data) → ((d : Data) → IfOk (read d) (λ r. IfSome r P)) → IfOk (optional read o) (λ r. IfSome r (λ m. IfSome m P))
optional_if read P None h = tt
optional_if {A} read P (Some d) h = by (read d) (h d)
  where
    by : (r : Result (Option A) (Stop Wrong)) → IfOk r (λ m. IfSome m P) → IfOk (and_then r (λ a. Ok (option_map (λ n. Some n) a))) (λ r. IfSome r (λ m. IfSome m P))
    by (Ok (Some a)) k = k
    by (Ok None) k = tt
    by (Err e) k = tt

small_number : (n : ℕ) → is_u32 n ≡ true → Is32Bits n
small_number n h = grind (arith, h)

u32_small : (d : Data) → IfOk (u32_of d) (λ r. IfSome r Is32Bits)
u32_small d = weaker (u32_of d) (within_if is_u32 (is_integer d) (natural_of d)) small_number

small_time : (z : ℤ) → is_timestamp z ≡ true → mag z < 2 ^ 63
small_time (pos n) h = grind (arith, h)
small_time (negsuc n) h = grind (arith, h)

timestamp_small : (d : Data) → IfOk (timestamp_in d) (λ r. IfSome r (λ z. mag z < 2 ^ 63))
timestamp_small d = required_if timestamp_of (λ z. mag z < 2 ^ 63) (get (codes "timestamp") d) (λ x. weaker (timestamp_of x) (within_if is_timestamp (is_integer x) (signed_of x)) small_time)

small_duration : (n : ℕ) → is_duration n ≡ true → n < 2 ^ 64
small_duration n h = grind (arith, h)

duration_small : (d : Data) → IfOk (duration_in d) (λ r. IfSome r (λ m. IfSome m (λ n. n < 2 ^ 64)))
duration_small d = optional_if duration_of (λ n. n < 2 ^ 64) (get (codes "duration") d) (λ x. weaker (duration_of x) (within_if is_duration (is_integer x) (natural_of x)) small_duration)

decoded_bytes : (text : List ℕ) (r : Result (List ℕ) FromHexError) → decode_of text ≡ r → IfSome (decoded r) IsBytes
decoded_bytes text (Ok bytes) e = (decode_of-ok text bytes e).3
decoded_bytes text (Err x) e = tt

hex_bytes : (o : Option (List ℕ)) → IfOk (and_then (there (option_and_then (λ text. decoded (decode_of text)) o)) (λ bytes. Ok (Some bytes))) (λ r. IfSome r IsBytes)
hex_bytes None = tt
hex_bytes (Some text) = by (decoded (decode_of text)) (decoded_bytes text (decode_of text) refl)
  where
    by : (o : Option (List ℕ)) → IfSome o IsBytes → IfOk (and_then (there o) (λ bytes. Ok (Some bytes))) (λ r. IfSome r IsBytes)
    by None h = tt
    by (Some bytes) h = h

content_small : (d : Data) → IfOk (content_in d) (λ r. IfSome r IsBytes)
content_small d = required_if data_value IsBytes (get (codes "data") d) (λ x. hex_bytes (as_str x))

-- what holds of a part that was read
of : {A : Type 0} (P : A → Type 0) (r : Result (Option A) (Stop Wrong)) (o : Option A) → r ≡ Ok o → IfOk r (λ m. IfSome m P) → IfSome o P
of P r o e h = IfOk-at_ok (λ m. IfSome m P) e h

-- ---- configs

rate_small : (d : Data) → IfOk (rate_in d) (λ r. IfSome r Is32Bits)
rate_small d = required_if u32_of Is32Bits (get (codes "sampleRate") d) u32_small

channels_small : (d : Data) → IfOk (channels_in d) (λ r. IfSome r Is32Bits)
channels_small d = required_if u32_of Is32Bits (get (codes "numberOfChannels") d) u32_small

decoder_small : (codec : Option (List ℕ)) (rate channels : Option ℕ) (description : Option (List ℕ)) → IfSome rate Is32Bits → IfSome channels Is32Bits → HasSmallNumbers (audio_decoder_with codec rate channels description)
decoder_small (Some c) (Some r) (Some n) description p q = (p, q)
decoder_small (Some c) (Some r) None description p q = tt
decoder_small (Some c) None n description p q = tt
decoder_small None r n description p q = tt

encoder_small : (codec : Option (List ℕ)) (rate channels block_size level depth : Option ℕ) → IfSome rate Is32Bits → IfSome channels Is32Bits → IfSome block_size Is32Bits
    → HasSmallNumbers (audio_encoder_with codec rate channels block_size level depth)
encoder_small (Some c) (Some r) (Some n) (Some b) (Some l) (Some d) p q k = (p, q, k)
encoder_small (Some c) (Some r) (Some n) (Some b) (Some l) None p q k = tt
encoder_small (Some c) (Some r) (Some n) (Some b) None d p q k = tt
encoder_small (Some c) (Some r) (Some n) None l d p q k = tt
encoder_small (Some c) (Some r) None b l d p q k = tt
encoder_small (Some c) None n b l d p q k = tt
encoder_small None r n b l d p q k = tt

video_small : (codec : Option (List ℕ)) (width height aspect_width aspect_height : Option (Option ℕ)) → IfSome width (λ m. IfSome m Is32Bits) → IfSome height (λ m. IfSome m Is32Bits)
    → HasSmallNumbers (video_decoder_with codec width height aspect_width aspect_height)
video_small (Some c) (Some w) (Some h) (Some x) (Some y) p q = (p, q)
video_small (Some c) (Some w) (Some h) (Some x) None p q = tt
video_small (Some c) (Some w) (Some h) None y p q = tt
video_small (Some c) (Some w) None x y p q = tt
video_small (Some c) None h x y p q = tt
video_small None w h x y p q = tt

pixels_small : (key : List ℕ) (d : Data) → IfOk (pixels_in key d) (λ r. IfSome r (λ m. IfSome m Is32Bits))
pixels_small key d = optional_if u32_of Is32Bits (get key d) u32_small

video_encoder_small : (codec : Option (List ℕ)) (width height key_interval : Option ℕ) → IfSome width Is32Bits → IfSome height Is32Bits → IfSome key_interval Is32Bits → HasSmallNumbers (video_encoder_with codec width height key_interval)
video_encoder_small (Some c) (Some w) (Some h) (Some n) p q r = (p, q, r)
video_encoder_small (Some c) (Some w) (Some h) None p q r = tt
video_encoder_small (Some c) (Some w) None n p q r = tt
video_encoder_small (Some c) None h n p q r = tt
video_encoder_small None w h n p q r = tt

size_small : (key : List ℕ) (d : Data) → IfOk (pixel_size_in key d) (λ r. IfSome r Is32Bits)
size_small key d = required_if u32_of Is32Bits (get key d) u32_small

config_small : (k : Kind) (d : Data) → IfOk (config_of k d) HasSmallNumbers
config_small Kind.AudioDecoder d =
    by_part (codec_in d) _ _ (λ codec a. by_part (rate_in d) _ _ (λ rate r. by_part (channels_in d) _ _ (λ channels c. by_part (hex_if_there (get (codes "description") d)) _ _ (λ description e.
    decoder_small codec rate channels description (of _ (rate_in d) rate r (rate_small d)) (of _ (channels_in d) channels c (channels_small d))))))
config_small Kind.AudioEncoder d =
    by_part (codec_in d) _ _ (λ codec a. by_part (rate_in d) _ _ (λ rate r. by_part (channels_in d) _ _ (λ channels c. by_part (flac_in d) _ _ (λ flac e.
    by_part (flac_number (codes "blockSize") 0 flac) _ _ (λ block_size f. by_part (flac_number (codes "compressLevel") 5 flac) _ _ (λ level g.
    by_part (flac_number (codes "bitsPerSample") 16 flac) _ _ (λ depth h.
    encoder_small codec rate channels block_size level depth (of _ (rate_in d) rate r (rate_small d)) (of _ (channels_in d) channels c (channels_small d))
    (of _ (flac_number (codes "blockSize") 0 flac) block_size f (defaulted_if 0 u32_of Is32Bits (option_and_then (get (codes "blockSize")) flac) (omega arith) u32_small)))))))))
config_small Kind.VideoDecoder d =
    by_part (codec_in d) _ _ (λ codec a. by_part (pixels_in (codes "codedWidth") d) _ _ (λ width b. by_part (pixels_in (codes "codedHeight") d) _ _ (λ height c.
    by_part (pixels_in (codes "displayAspectWidth") d) _ _ (λ aspect_width e. by_part (pixels_in (codes "displayAspectHeight") d) _ _ (λ aspect_height f.
    video_small codec width height aspect_width aspect_height (of _ (pixels_in (codes "codedWidth") d) width b (pixels_small (codes "codedWidth") d)) (of _ (pixels_in (codes "codedHeight") d) height c (pixels_small (codes "codedHeight") d)))))))
config_small Kind.VideoEncoder d =
    by_part (codec_in d) _ _ (λ codec a. by_part (pixel_size_in (codes "width") d) _ _ (λ width b. by_part (pixel_size_in (codes "height") d) _ _ (λ height c.
    by_part (key_interval_in d) _ _ (λ key_interval e.
    video_encoder_small codec width height key_interval (of _ (pixel_size_in (codes "width") d) width b (size_small (codes "width") d)) (of _ (pixel_size_in (codes "height") d) height c (size_small (codes "height") d))
    (of _ (key_interval_in d) key_interval e (defaulted_if 0 u32_of Is32Bits (get (codes "keyInterval") d) (omega arith) u32_small))))))

-- ---- inits

abbrev HasSmallShape : Option InitShape → Type 0
HasSmallShape o = IfSome o IsSmallShape

chunk_shaped : (key : Option Bool) (t : Option ℤ) (duration : Option (Option ℕ)) → IfSome t (λ z. mag z < 2 ^ 63) → IfSome duration (λ m. IfSome m (λ n. n < 2 ^ 64)) → HasSmallShape (chunk_shape_with key t duration)
chunk_shaped (Some k) (Some t) (Some u) p q = (p, q)
chunk_shaped (Some k) (Some t) None p q = tt
chunk_shaped (Some k) None u p q = tt
chunk_shaped None t u p q = tt

chunk_shape_small : (d : Data) → IfOk (chunk_shape_of d) HasSmallShape
chunk_shape_small d =
    by_part (required (word_of key_of) (get (codes "type") d)) _ _ (λ key k. by_part (timestamp_in d) _ _ (λ timestamp t. by_part (duration_in d) _ _ (λ duration l.
    chunk_shaped key timestamp duration (of _ (timestamp_in d) timestamp t (timestamp_small d)) (of _ (duration_in d) duration l (duration_small d)))))

chunk_made : (shape : Option InitShape) (content : Option (List ℕ)) → HasSmallShape shape → IfSome content IsBytes → IfSome (chunk_with shape content) IsSmallChunk
chunk_made (Some (InitShape.Chunk k t u)) (Some c) p r = record { timestamp = p.0; duration = p.1; content = r }
chunk_made (Some (InitShape.Chunk k t u)) None p r = tt
chunk_made (Some (InitShape.Sound s)) c p r = tt
chunk_made (Some (InitShape.Picture s)) c p r = tt
chunk_made None c p r = tt

chunk_small : (d : Data) → IfOk (chunk_of d) (λ o. IfSome o IsSmallChunk)
chunk_small d =
    by_part (chunk_shape_of d) _ _ (λ shape s. by_part (content_in d) _ _ (λ content c.
    chunk_made shape content (IfOk-at_ok HasSmallShape s (chunk_shape_small d)) (of _ (content_in d) content c (content_small d))))

-- as many frames as 32 bits count, and a timestamp of 64 bits with its sign
abbrev IsSmallSoundShape : SoundShape → Type 0
IsSmallSoundShape s = Is32Bits s.frames × (mag s.timestamp < 2 ^ 63)

sound_shaped : (format : Option SampleFormat) (rate frames channels : Option ℕ) (t : Option ℤ) → IfSome frames Is32Bits → IfSome t (λ z. mag z < 2 ^ 63) → IfSome (sound_shape_with format rate frames channels t) IsSmallSoundShape
sound_shaped (Some f) (Some r) (Some n) (Some c) (Some t) p q = (p, q)
sound_shaped (Some f) (Some r) (Some n) (Some c) None p q = tt
sound_shaped (Some f) (Some r) (Some n) None t p q = tt
sound_shaped (Some f) (Some r) None c t p q = tt
sound_shaped (Some f) None n c t p q = tt
sound_shaped None r n c t p q = tt

sound_shape_small : (d : Data) → IfOk (sound_shape_of d) (λ o. IfSome o IsSmallSoundShape)
sound_shape_small d =
    by_part (required (word_of sample_format_of) (get (codes "format") d)) _ _ (λ format f. by_part (required u32_of (get (codes "sampleRate") d)) _ _ (λ rate r.
    by_part (required u32_of (get (codes "numberOfFrames") d)) _ _ (λ frames n. by_part (required u32_of (get (codes "numberOfChannels") d)) _ _ (λ channels c.
    by_part (timestamp_in d) _ _ (λ timestamp t.
    sound_shaped format rate frames channels timestamp (of _ (required u32_of (get (codes "numberOfFrames") d)) frames n (required_if u32_of Is32Bits (get (codes "numberOfFrames") d) u32_small))
    (of _ (timestamp_in d) timestamp t (timestamp_small d)))))))

sound_made : (shape : Option SoundShape) (content : Option (List ℕ)) → IfSome shape IsSmallSoundShape → IfSome content IsBytes → IfSome (sound_with shape content) IsSmallSound
sound_made (Some s) (Some b) p k = record { frames = p.0; timestamp = p.1; content = k }
sound_made (Some s) None p k = tt
sound_made None b p k = tt

sound_small : (d : Data) → IfOk (sound_of d) (λ o. IfSome o IsSmallSound)
sound_small d =
    by_part (sound_shape_of d) _ _ (λ shape s. by_part (content_in d) _ _ (λ content b.
    sound_made shape content (of IsSmallSoundShape (sound_shape_of d) shape s (sound_shape_small d)) (of _ (content_in d) content b (content_small d))))

-- a timestamp of 64 bits with its sign, and a duration of 64
abbrev IsSmallPictureShape : PictureShape → Type 0
IsSmallPictureShape s = (mag s.timestamp < 2 ^ 63) × IfSome s.duration (λ n. n < 2 ^ 64)

picture_shaped : (format : Option PictureFormat) (width height : Option ℕ) (t : Option ℤ) (duration : Option (Option ℕ)) → IfSome t (λ z. mag z < 2 ^ 63) → IfSome duration (λ m. IfSome m (λ n. n < 2 ^ 64))
    → IfSome (picture_shape_with format width height t duration) IsSmallPictureShape
picture_shaped (Some f) (Some w) (Some h) (Some t) (Some u) p q = (p, q)
picture_shaped (Some f) (Some w) (Some h) (Some t) None p q = tt
picture_shaped (Some f) (Some w) (Some h) None u p q = tt
picture_shaped (Some f) (Some w) None t u p q = tt
picture_shaped (Some f) None h t u p q = tt
picture_shaped None w h t u p q = tt

picture_shape_small : (d : Data) → IfOk (picture_shape_of d) (λ o. IfSome o IsSmallPictureShape)
picture_shape_small d =
    by_part (required (word_of picture_format_of) (get (codes "format") d)) _ _ (λ format f. by_part (required u32_of (get (codes "codedWidth") d)) _ _ (λ width w.
    by_part (required u32_of (get (codes "codedHeight") d)) _ _ (λ height h. by_part (timestamp_in d) _ _ (λ timestamp t. by_part (duration_in d) _ _ (λ duration l.
    picture_shaped format width height timestamp duration (of _ (timestamp_in d) timestamp t (timestamp_small d)) (of _ (duration_in d) duration l (duration_small d)))))))

picture_made : (shape : Option PictureShape) (content : Option (List ℕ)) → IfSome shape IsSmallPictureShape → IfSome content IsBytes → IfSome (picture_with shape content) IsSmallPicture
picture_made (Some s) (Some b) p k = record { timestamp = p.0; duration = p.1; content = k }
picture_made (Some s) None p k = tt
picture_made None b p k = tt

picture_small : (d : Data) → IfOk (picture_of d) (λ o. IfSome o IsSmallPicture)
picture_small d =
    by_part (picture_shape_of d) _ _ (λ shape s. by_part (content_in d) _ _ (λ content b.
    picture_made shape content (of IsSmallPictureShape (picture_shape_of d) shape s (picture_shape_small d)) (of _ (content_in d) content b (content_small d))))

-- ---- inits that name buffers

sound_of_any : (o : Option SoundShape) → IfSome o IsSmallSoundShape → HasSmallShape (option_map (λ x. InitShape.Sound x) o)
sound_of_any (Some s) h = h
sound_of_any None h = tt

picture_of_any : (o : Option PictureShape) → IfSome o IsSmallPictureShape → HasSmallShape (option_map (λ x. InitShape.Picture x) o)
picture_of_any (Some s) h = h
picture_of_any None h = tt

shape_small : (k : VariableKind) (d : Data) → IfOk (init_shape_of k d) HasSmallShape
shape_small VariableKind.Chunk d = chunk_shape_small d
shape_small VariableKind.Audio d = made (sound_shape_of d) _ (λ o. IfSome o IsSmallSoundShape) _ (sound_shape_small d) sound_of_any
shape_small VariableKind.Frame d = made (picture_shape_of d) _ (λ o. IfSome o IsSmallPictureShape) _ (picture_shape_small d) picture_of_any
shape_small VariableKind.Promise d = tt
shape_small VariableKind.Buffer d = tt

abbrev HasSmallData : Option InitData → Type 0
HasSmallData o = IfSome o IsSmallData

hex_text : (o : Option (List ℕ)) → IfSome (option_and_then (λ text. decoded (decode_of text)) o) IsBytes
hex_text None = tt
hex_text (Some text) = decoded_bytes text (decode_of text) refl

data_by_small : (before : List Step) (d : Data) (bytes : Option (List ℕ)) → IfSome bytes IsBytes → IfOk (data_by before d bytes) (λ w. IfOk (known_data w) HasSmallData)
data_by_small before d (Some bytes) h = h
data_by_small before d None h = by_part (name_in (codes "buffer") d) _ _ (λ name n. by_part (buffer_if before name) _ _ (λ b e. by_part (known_buffer b) _ _ (λ v k. tt)))

data_small : (before : List Step) (o : Option Data) → IfOk (data_words before o) (λ w. IfOk (known_data w) HasSmallData)
data_small before None = tt
data_small before (Some d) = data_by_small before d _ (hex_text (as_str d))

abbrev HasSmallInit : Option BufferedInit → Type 0
HasSmallInit o = IfSome o (λ i. IsSmallShape i.shape × IsSmallData i.content)

with_small : (shape : Option InitShape) (content : Option InitData) (transfer : List Variable) → HasSmallShape shape → HasSmallData content → HasSmallInit (buffered_with shape content transfer)
with_small (Some s) (Some c) transfer p q = (p, q)
with_small (Some s) None transfer p q = tt
with_small None c transfer p q = tt

buffered_small : (k : VariableKind) (before : List Step) (d : Data) → IfOk (buffered_of k before d) (λ b. HasSmallInit b.1)
buffered_small k before d =
    by_part (name_in (codes "as") d) _ _ (λ name n. by_part (object_in (codes "init") d) _ _ (λ object o. by_part (init_shape_of k object) _ _ (λ shape s.
    by_part (data_words before (get (codes "data") object)) _ _ (λ w dw. by_part (transfer_words before (get (codes "transfer") object)) _ _ (λ listed l. by_part (unused before name) _ _ (λ bind u.
    by_part (known_data w) _ _ (λ content c. by_part (known_buffers [] listed) _ _ (λ transfer t.
    with_small shape content transfer (IfOk-at_ok HasSmallShape s (shape_small k object))
    (IfOk-at_ok HasSmallData c (IfOk-at_ok (λ x. IfOk (known_data x) HasSmallData) dw (data_small before (get (codes "data") object))))))))))))

-- ---- steps

source_made : (init file index : Bool) (files : List (List ℕ)) (d : Data) → IfOk (source_by init file index d) (λ s. IsSmallSource (numbered files s).0)
source_made true false false files d = by_part (object_in (codes "init") d) _ _ (λ object o. made (chunk_of object) SourceWords.Init (λ i. IfSome i IsSmallChunk) _ (chunk_small object) (λ i small. small))
source_made false true true files d = by_part (there (text_in (codes "file") d)) _ _ (λ file f. by_part (index_in d) _ _ (λ index i. tt))
source_made _ _ _ files d = tt

-- a step that holds nothing of the kind
free : {A : Type 0} (r : Result A (Stop Wrong)) (make : A → Step) → ((a : A) → IsStepWithin (make a)) → IfOk (and_then r (λ a. Ok (make a))) IsStepWithin
free (Ok a) make h = h a
free (Err e) make h = tt

free_media : {A : Type 0} (r : Result A (Stop Wrong)) (make : A → MediaStep) → ((a : A) → IsSmallMedia (make a)) → IfOk (and_then r (λ a. Ok (make a))) IsSmallMedia
free_media (Ok a) make h = h a
free_media (Err e) make h = tt

buffer_bytes : (o : Option Data) (content : List ℕ) → there (option_and_then hex_of o) ≡ Ok content → IsBytes content
buffer_bytes None content h = absurd cc
buffer_bytes (Some d) content h = subst (λ (o : Option (List ℕ)). IfSome o IsBytes) (needed_some (hex_of d) content h) (hex_text (as_str d))

media_made : (refused : List ℕ → MediaStep) (b : List ℕ × Option BufferedInit) → ((bind : List ℕ) → IsSmallMedia (refused bind)) → HasSmallInit b.1 → IsSmallMedia (made_with refused b)
media_made refused (bind, None) h k = h bind
media_made refused (bind, Some i) h k = k

media_small : (codecs : List CodecItem) (ports : List (Option PortItem)) (before : List Step) (d : Data) (w : MediaWord) → IfOk (media_by codecs ports before d w) IsSmallMedia
media_small codecs ports before d MediaWord.Audio = either (has_buffers d) _ _ _ (made (buffered_of VariableKind.Audio before d) _ (λ b. HasSmallInit b.1) _ (buffered_small VariableKind.Audio before d) (λ b. media_made (λ bind. MediaStep.Audio bind None) b (λ bind. tt))) (
    by_part (name_in (codes "as") d) _ _ (λ name n. by_part (object_in (codes "init") d) _ _ (λ object o. by_part (sound_of object) _ _ (λ init i. by_part (unused before name) _ _ (λ bind u.
    IfOk-at_ok (λ x. IfSome x IsSmallSound) i (sound_small object))))))
media_small codecs ports before d MediaWord.Frame = either (has_buffers d) _ _ _ (made (buffered_of VariableKind.Frame before d) _ (λ b. HasSmallInit b.1) _ (buffered_small VariableKind.Frame before d) (λ b. media_made (λ bind. MediaStep.Frame bind None) b (λ bind. tt))) (
    by_part (name_in (codes "as") d) _ _ (λ name n. by_part (object_in (codes "init") d) _ _ (λ object o. by_part (picture_of object) _ _ (λ init i. by_part (unused before name) _ _ (λ bind u.
    IfOk-at_ok (λ x. IfSome x IsSmallPicture) i (picture_small object))))))
media_small codecs ports before d MediaWord.Buffer = by_part (name_in (codes "as") d) _ _ (λ name n. by_part (there (data_of_init d)) _ _ (λ content c. by_part (unused before name) _ _ (λ bind u. buffer_bytes (get (codes "data") d) content c)))
media_small codecs ports before d MediaWord.Encode = free_media (encoded_data codecs before d) _ (λ g. tt)
media_small codecs ports before d MediaWord.Take = free_media (bound_on codecs before d) _ (λ b. tt)
media_small codecs ports before d MediaWord.Clone = free_media (bound_from before d) _ (λ b. tt)
media_small codecs ports before d MediaWord.Transfer = free_media (bound_from before d) _ (λ b. tt)
media_small codecs ports before d MediaWord.CloseData = free_media (variable_in (codes "of") Needed.Medium before d) _ (λ v. tt)
media_small codecs ports before d MediaWord.Copy =
    by_part (name_in (codes "of") d) _ _ (λ name n. by_part (size_in d) _ _ (λ size s. by_part (variable_if Needed.Copied before name) _ _ (λ maybe m. by_part (options_in maybe d) _ _ (λ options o.
    by_part (known maybe) _ _ (λ found k. tt)))))
media_small codecs ports before d MediaWord.Size =
    by_part (name_in (codes "of") d) _ _ (λ name n. by_part (variable_if Needed.Sized before name) _ _ (λ maybe m. by_part (options_in maybe d) _ _ (λ options o. by_part (known maybe) _ _ (λ found k. tt))))
media_small codecs ports before d MediaWord.Post =
    by_part (name_in (codes "to") d) _ _ (λ to t. by_part (name_in (codes "data") d) _ _ (λ name n. by_part (variable_if (posted_by (port_named_in ports to)) before name) _ _ (λ maybe m.
    by_part (known (port_named_in ports to)) _ _ (λ p k. by_part (known maybe) _ _ (λ found l. tt)))))
media_small codecs ports before d MediaWord.Receive =
    by_part (name_in (codes "from") d) _ _ (λ from f. by_part (name_in (codes "as") d) _ _ (λ name n. by_part (unused before name) _ _ (λ bind u. by_part (known (port_named_in ports from)) _ _ (λ p k. tt))))

-- a step that mentions no file
plain : (files : List (List ℕ)) (r : Result Step (Stop Wrong)) → IfOk r IsStepWithin → IfOk (no_file files r) (λ x. IsStepWithin x.0)
plain files (Ok s) h = h
plain files (Err e) h = tt

chunk_small_made : (files : List (List ℕ)) (b : List ℕ × Option BufferedInit) → HasSmallInit b.1 → IsStepWithin (chunk_with_buffers b)
chunk_small_made files (bind, None) h = tt
chunk_small_made files (bind, Some i) h = h

step_small : (codecs : List CodecItem) (ports : List (Option PortItem)) (files : List (List ℕ)) (before : List Step) (d : Data) (w : StepWord) → IfOk (step_by codecs ports files before d w) (λ x. IsStepWithin x.0)
step_small codecs ports files before d StepWord.Configure = plain files _ (
    by_part (name_in (codes "on") d) _ _ (λ on n. by_part (object_in (codes "config") d) _ _ (λ object o. by_part (known (codec_named codecs on)) _ _ (λ codec k. by_part (config_of codec.kind object) _ _ (λ config c.
    IfOk-at_ok HasSmallNumbers c (config_small codec.kind object))))))
step_small codecs ports files before d StepWord.Chunk = either (is_buffered_chunk d) _ _ _ (plain files _ (made (buffered_of VariableKind.Chunk before d) chunk_with_buffers (λ b. HasSmallInit b.1) _ (buffered_small VariableKind.Chunk before d) (chunk_small_made files))) (
    by_part (name_in (codes "as") d) _ _ (λ name n. by_part (source_of d) _ _ (λ source s. by_part (unused before name) _ _ (λ bind u.
    IfOk-at_ok (λ x. IsSmallSource (numbered files x).0) s (source_made (has (codes "init") d) (has (codes "file") d) (has (codes "index") d) files d)))))
step_small codecs ports files before d StepWord.Decode = plain files _ (free (given_to decodes (codes "chunk") Needed.Chunk codecs before d) _ (λ g. tt))
step_small codecs ports files before d StepWord.Flush = plain files _ (free (bound_on codecs before d) _ (λ b. tt))
step_small codecs ports files before d StepWord.Poll = plain files _ (free (promise_in before d) Step.Poll (λ v. tt))
step_small codecs ports files before d StepWord.Await = plain files _ (free (promise_in before d) Step.Await (λ v. tt))
step_small codecs ports files before d StepWord.Reset = plain files _ (free (on_of codecs d) Step.Reset (λ on. tt))
step_small codecs ports files before d StepWord.Close = plain files _ (free (on_of codecs d) Step.Close (λ on. tt))
step_small codecs ports files before d StepWord.State = plain files _ (free (on_of codecs d) Step.State (λ on. tt))
step_small codecs ports files before d StepWord.Ground = plain files _ (free (ground_on codecs d) _ (λ g. tt))
step_small codecs ports files before d (StepWord.Media w) = plain files _ (made (media_by codecs ports before d w) Step.Media IsSmallMedia _ (media_small codecs ports before d w) (λ m s. s))

pub step_within : StepsAreWithin
step_within codecs ports files before d s after h =
    let w = chain (there (word_in d)) _ (s, after) h in
    IfOk-at_ok (λ x. IsStepWithin x.0) w.rest (step_small codecs ports files before d w.value)
