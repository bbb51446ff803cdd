-- What a codec's definition gives for a command, case by case: what holds in each case holds of each answer.
use Rattle.std.proofs.Common.{ℕ, ℤ, ◌≡◌, ◌*◌, ◌/◌, ◌%◌, ◌^◌, ◌&&◌, not, Bool, true, false, cond, List, [], ◌∷◌, ◌++◌, length, Option, Some, None, refl, subst}
use Rattle.std.specs.Prelude.{◌==◌, nat_lt}
use Rattle.wc_base.specs.Options.{cond_is, some_same}
use Rattle.wc_base.specs.declared.media.Samples.{Samples}
use Rattle.wc_base.specs.declared.media.Picture.{Picture}
use Rattle.wc_base.specs.declared.media.PictureShape.{PictureShape}
use Rattle.wc_config.specs.declared.codec.CoderId.{CoderId}
use Rattle.wc_config.specs.declared.codec.CodecId.{CodecId}
use Rattle.wc_config.specs.declared.codec.CodecId.TheVariants as codec
use Rattle.wc_config.specs.declared.config.AudioDecoderConfig.{AudioDecoderConfig}
use Rattle.wc_config.specs.declared.config.AudioEncoderConfig.{AudioEncoderConfig}
use Rattle.wc_config.specs.declared.config.VideoDecoderConfig.{VideoDecoderConfig}
use Rattle.wc_config.specs.declared.config.VideoEncoderConfig.{VideoEncoderConfig}
use Rattle.wc_config.specs.declared.config.Config.{Config}
use Rattle.wc_config.specs.declared.config.Config.TheVariants as config
use Rattle.wc_config.specs.declared.stream_info.StreamInfo.{StreamInfo}
use Rattle.wc_chunk.specs.declared.chunk.Chunk.{Chunk}
use Rattle.flac_definitions.specs.Frame.{frame_of}
use Rattle.flac_definitions.specs.declared.header.FrameHeader.{FrameHeader}
use Rattle.picture_planes.specs.Planes.{picture_size}
use Rattle.codec_definitions.specs.declared.unit.Unit as media
use Rattle.codec_definitions.specs.declared.unit.Unit.TheVariants as unit
use Rattle.codec_definitions.specs.declared.command.Command.{Command}
use Rattle.codec_definitions.specs.declared.command.Command.TheVariants as command
use Rattle.codec_definitions.specs.SampleCodecs.{SampleCodec, sample_codec, decoded, coded}
use Rattle.codec_definitions.specs.Flac.{described, flac_sound, unit_of_frame, flac_decoder}
use Rattle.codec_definitions.specs.FlacEncoder.{blocks_answer}
use Rattle.codec_definitions.specs.RawVideo.{raw_shape, chunks_since_drain, last_picture, is_whole_chunk, picture_unit, raw_decoder}
use Rattle.codec_definitions.specs.RawVideoEncoder.{coded_shape, is_picture_taken, picture_chunk, pictures_since_drain, raw_encoder}
use Rattle.codec_definitions.specs.Answers.{undefined_answer, sample_decoder_by, sample_encoder_by, audio_decoder_answer, audio_encoder_answer, answer_after}

-- the samples of a chunk, of a codec that codes each sample by itself
abbrev pub decoded_sound : SampleCodec → AudioDecoderConfig → Chunk → Samples
decoded_sound s c chunk = record { shape = record { format = s.format; rate = c.rate; channels = c.channels; frames = length chunk.bytes / (s.size * c.channels); timestamp = chunk.timestamp }; bytes = decoded s chunk.bytes }

-- they are whole frames, of which a u32 counts
abbrev pub are_frames : SampleCodec → AudioDecoderConfig → Chunk → Bool
are_frames s c chunk = (length chunk.bytes % (s.size * c.channels) == 0) && nat_lt (length chunk.bytes / (s.size * c.channels)) (2 ^ 32)

-- the key chunk of samples
abbrev pub coded_chunk : SampleCodec → Samples → Chunk
coded_chunk s samples = record { key = true; timestamp = samples.shape.timestamp; duration = Some (samples.shape.frames * 1000000 / samples.shape.rate); bytes = coded s samples.shape samples.bytes }

-- the picture of a chunk
abbrev pub picture_given : PictureShape → Chunk → List ℕ → Picture
picture_given shape chunk bytes = record { shape = record { format = shape.format; width = shape.width; height = shape.height; timestamp = chunk.timestamp; duration = chunk.duration }; bytes = bytes }

-- What has to be shown of each kind of answer.
pub record EachAnswer (Q : Config → List Command → Command → List media.Unit → Type 0) : Type 0 where
  pub nothing : (c : Config) (before : List Command) (x : Command) → Q c before x []
  pub samples : (id : CodecId) (s : SampleCodec) (c : AudioDecoderConfig) (before : List Command) (chunk : Chunk) → sample_codec id ≡ Some s → are_frames s c chunk ≡ true → Q (config.AudioDecoder c) before (command.Chunk chunk) (unit.Sound (decoded_sound s c chunk) ∷ [])
  pub frame : (info : StreamInfo) (c : AudioDecoderConfig) (before : List Command) (chunk : Chunk) (f : FrameHeader × List ℤ) → described c.description ≡ Some info → frame_of info chunk.bytes ≡ Some f → Q (config.AudioDecoder c) before (command.Chunk chunk) (flac_sound info chunk f.0 f.1 ∷ [])
  pub chunk : (id : CodecId) (s : SampleCodec) (c : AudioEncoderConfig) (before : List Command) (samples : Samples) → sample_codec id ≡ Some s → Q (config.AudioEncoder c) before (command.Sound samples) (unit.Coded (coded_chunk s samples) None ∷ [])
  pub blocks : (c : AudioEncoderConfig) (before : List Command) (x : Command) (us : List media.Unit) → blocks_answer c before x ≡ Some us → Q (config.AudioEncoder c) before x us
  pub picture : (id : CodecId) (c : VideoDecoderConfig) (shape : PictureShape) (before : List Command) (chunk : Chunk) (bytes : List ℕ) → raw_shape id c ≡ Some shape → last_picture (picture_size shape) (chunks_since_drain before ++ chunk.bytes ∷ []) ≡ Some bytes → Q (config.VideoDecoder c) before (command.Chunk chunk) (unit.Image (picture_given shape chunk bytes) ∷ [])
  pub coded : (id : CodecId) (c : VideoEncoderConfig) (shape : PictureShape) (before : List Command) (picture : Picture) → coded_shape id c ≡ Some shape → is_picture_taken shape picture ≡ true → Q (config.VideoEncoder c) before (command.Image picture) (picture_chunk c.key_interval (pictures_since_drain before) picture ∷ [])

module _ (Q : Config → List Command → Command → List media.Unit → Type 0) (each : EachAnswer Q) where
  none_given : (c : Config) (before : List Command) (x : Command) (us : List media.Unit) → ◌≡◌ {A = Option (List media.Unit)} (Some []) (Some us) → Q c before x us
  none_given c before x us h = subst (Q c before x) (some_same [] us h) (each.nothing c before x)

  undefined_given : (c : Config) (before : List Command) (x : Command) (us : List media.Unit) → undefined_answer x ≡ Some us → Q c before x us
  undefined_given c before command.Drain us h = none_given c before command.Drain us h
  undefined_given c before x us h = absurd cc

  samples_or : (empty : Bool) (id : CodecId) (s : SampleCodec) (c : AudioDecoderConfig) (before : List Command) (chunk : Chunk) (us : List media.Unit) → sample_codec id ≡ Some s → cond empty (Some []) (cond (are_frames s c chunk) (Some (unit.Sound (decoded_sound s c chunk) ∷ [])) None) ≡ Some us → Q (config.AudioDecoder c) before (command.Chunk chunk) us
  samples_or true id s c before chunk us is h = none_given (config.AudioDecoder c) before (command.Chunk chunk) us h
  samples_or false id s c before chunk us is h =
      let k = cond_is (are_frames s c chunk) (Some (unit.Sound (decoded_sound s c chunk) ∷ [])) us h in
      subst (Q (config.AudioDecoder c) before (command.Chunk chunk)) (some_same _ us k.1) (each.samples id s c before chunk is k.0)

  decoded_by : (o : Option SampleCodec) (id : CodecId) (c : AudioDecoderConfig) (before : List Command) (x : Command) (us : List media.Unit) → sample_codec id ≡ o → sample_decoder_by o c x ≡ Some us → Q (config.AudioDecoder c) before x us
  decoded_by None id c before x us is h = undefined_given (config.AudioDecoder c) before x us h
  decoded_by (Some s) id c before (command.Chunk chunk) us is h = samples_or (length chunk.bytes == 0) id s c before chunk us is h
  decoded_by (Some s) id c before command.Drain us is h = none_given (config.AudioDecoder c) before command.Drain us h
  decoded_by (Some s) id c before x us is h = absurd cc

  encoded_by : (o : Option SampleCodec) (id : CodecId) (c : AudioEncoderConfig) (before : List Command) (x : Command) (us : List media.Unit) → sample_codec id ≡ o → sample_encoder_by o c x ≡ Some us → Q (config.AudioEncoder c) before x us
  encoded_by None id c before x us is h = undefined_given (config.AudioEncoder c) before x us h
  encoded_by (Some s) id c before (command.Sound samples) us is h =
      subst (Q (config.AudioEncoder c) before (command.Sound samples)) (some_same (unit.Coded (coded_chunk s samples) None ∷ []) us (cond_is _ (Some (unit.Coded (coded_chunk s samples) None ∷ [])) us h).1)
      (each.chunk id s c before samples is)
  encoded_by (Some s) id c before command.Drain us is h = none_given (config.AudioEncoder c) before command.Drain us h
  encoded_by (Some s) id c before x us is h = absurd cc

  frame_given : (info : StreamInfo) (o : Option (FrameHeader × List ℤ)) (c : AudioDecoderConfig) (before : List Command) (chunk : Chunk) (us : List media.Unit) → described c.description ≡ Some info → frame_of info chunk.bytes ≡ o → unit_of_frame info chunk o ≡ Some us → Q (config.AudioDecoder c) before (command.Chunk chunk) us
  frame_given info None c before chunk us says is h = absurd cc
  frame_given info (Some f) c before chunk us says is h = subst (Q (config.AudioDecoder c) before (command.Chunk chunk)) (some_same (flac_sound info chunk f.0 f.1 ∷ []) us h) (each.frame info c before chunk f says is)

  flac_given : (o : Option StreamInfo) (c : AudioDecoderConfig) (before : List Command) (x : Command) (us : List media.Unit) → described c.description ≡ o → flac_decoder o x ≡ Some us → Q (config.AudioDecoder c) before x us
  flac_given None c before (command.Chunk chunk) us says h = absurd cc
  flac_given (Some info) c before (command.Chunk chunk) us says h = frame_given info (frame_of info chunk.bytes) c before chunk us says refl h
  flac_given o c before command.Drain us says h = none_given (config.AudioDecoder c) before command.Drain us h
  flac_given o c before (command.Sound samples) us says h = absurd cc
  flac_given o c before (command.Image picture) us says h = absurd cc

  picture_or : (o : Option (List ℕ)) (id : CodecId) (c : VideoDecoderConfig) (shape : PictureShape) (before : List Command) (chunk : Chunk) (us : List media.Unit) → raw_shape id c ≡ Some shape → last_picture (picture_size shape) (chunks_since_drain before ++ chunk.bytes ∷ []) ≡ o → picture_unit shape chunk o ≡ Some us → Q (config.VideoDecoder c) before (command.Chunk chunk) us
  picture_or None id c shape before chunk us is last h = absurd cc
  picture_or (Some bytes) id c shape before chunk us is last h = subst (Q (config.VideoDecoder c) before (command.Chunk chunk)) (some_same (unit.Image (picture_given shape chunk bytes) ∷ []) us h) (each.picture id c shape before chunk bytes is last)

  picture_where : (whole : Bool) (id : CodecId) (c : VideoDecoderConfig) (shape : PictureShape) (before : List Command) (chunk : Chunk) (us : List media.Unit) → raw_shape id c ≡ Some shape → cond (not whole) None (picture_unit shape chunk (last_picture (picture_size shape) (chunks_since_drain before ++ chunk.bytes ∷ []))) ≡ Some us → Q (config.VideoDecoder c) before (command.Chunk chunk) us
  picture_where true id c shape before chunk us is h = picture_or _ id c shape before chunk us is refl h
  picture_where false id c shape before chunk us is h = absurd cc

  raw_given : (o : Option PictureShape) (id : CodecId) (c : VideoDecoderConfig) (before : List Command) (x : Command) (us : List media.Unit) → raw_shape id c ≡ o → raw_decoder o before x ≡ Some us → Q (config.VideoDecoder c) before x us
  raw_given None id c before (command.Chunk chunk) us is h = absurd cc
  raw_given (Some shape) id c before (command.Chunk chunk) us is h = picture_where (is_whole_chunk (picture_size shape) chunk.bytes) id c shape before chunk us is h
  raw_given o id c before command.Drain us is h = none_given (config.VideoDecoder c) before command.Drain us h
  raw_given o id c before (command.Sound samples) us is h = absurd cc
  raw_given o id c before (command.Image picture) us is h = absurd cc

  coded_given : (o : Option PictureShape) (id : CodecId) (c : VideoEncoderConfig) (before : List Command) (x : Command) (us : List media.Unit) → coded_shape id c ≡ o → raw_encoder o c.key_interval before x ≡ Some us → Q (config.VideoEncoder c) before x us
  coded_given None id c before (command.Image picture) us is h = absurd cc
  coded_given (Some shape) id c before (command.Image picture) us is h =
      let chunk : media.Unit = picture_chunk c.key_interval (pictures_since_drain before) picture in
      let k = cond_is (is_picture_taken shape picture) (Some (chunk ∷ [])) us h in
      subst (Q (config.VideoEncoder c) before (command.Image picture)) (some_same (chunk ∷ []) us k.1) (each.coded id c shape before picture is k.0)
  coded_given o id c before command.Drain us is h = none_given (config.VideoEncoder c) before command.Drain us h
  coded_given o id c before (command.Chunk chunk) us is h = absurd cc
  coded_given o id c before (command.Sound samples) us is h = absurd cc

  decoder_given : (id : CodecId) (c : AudioDecoderConfig) (before : List Command) (x : Command) (us : List media.Unit) → audio_decoder_answer id c x ≡ Some us → Q (config.AudioDecoder c) before x us
  decoder_given codec.Flac c before x us h = flac_given (described c.description) c before x us refl h
  decoder_given id c before x us h = decoded_by (sample_codec id) id c before x us refl h

  encoder_given : (id : CodecId) (c : AudioEncoderConfig) (before : List Command) (x : Command) (us : List media.Unit) → audio_encoder_answer id c before x ≡ Some us → Q (config.AudioEncoder c) before x us
  encoder_given codec.Flac c before x us h = each.blocks c before x us h
  encoder_given id c before x us h = encoded_by (sample_codec id) id c before x us refl h

  -- what holds of each kind of answer holds of each answer
  pub by_answers : (id : CoderId) (c : Config) (before : List Command) (x : Command) (us : List media.Unit) → answer_after id c before x ≡ Some us → Q c before x us
  by_answers id (config.AudioDecoder c) before x us h = decoder_given id.codec c before x us h
  by_answers id (config.AudioEncoder c) before x us h = encoder_given id.codec c before x us h
  by_answers id (config.VideoDecoder c) before x us h = raw_given (raw_shape id.codec c) id.codec c before x us refl h
  by_answers id (config.VideoEncoder c) before x us h = coded_given (coded_shape id.codec c) id.codec c before x us refl h
  by_answers id config.Bad before x us h = undefined_given config.Bad before x us h
