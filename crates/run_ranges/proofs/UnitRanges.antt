-- The outputs that a codec's definition gives are within their types.
use Rattle.std.proofs.Common.{ℕ, ℤ, Bool, true, false, ◌≡◌, ◌<◌, ◌≤◌, ◌+◌, ◌-◌, ◌*◌, ◌/◌, ◌%◌, ◌^◌, ◌&&◌, List, [], ◌∷◌, ◌++◌, length, take, drop, bytes_eq, codes, Option, Some, None, IfSome, subst, arith, lit<}
use Rattle.std.specs.Prelude.{nat_le, ◌==◌, pos, ◌+ℤ◌, slice_index, unwrap_or}
use Rattle.std.specs.List.{AllByRecursion, last_or, list_any}
use Rattle.std.proofs.Math.Nat.{div-le_self}
use Rattle.std.proofs.lemmas.Bool.{and_parts, ltb-true}
use Rattle.hex.specs.Hex.{IsBytes}
use Rattle.wc_base.specs.{Options.cond_is, Options.some_same, declared.media.Samples.Samples, declared.media.Picture.Picture, declared.media.PictureFormat.PictureFormat}
use Rattle.wc_config.specs.declared.{codec.CoderId.CoderId, config.AudioDecoderConfig.AudioDecoderConfig}
use Rattle.wc_config.specs.declared.{config.AudioEncoderConfig.AudioEncoderConfig, config.Config.Config, stream_info.StreamInfo.StreamInfo}
use Rattle.wc_config.specs.Streams.{big_endian, stream_info_of, is_usable}
use Rattle.codec_definitions.specs.declared.unit.Unit as media
use Rattle.codec_definitions.specs.declared.unit.Unit.TheVariants as unit
use Rattle.codec_definitions.specs.{declared.command.Command.Command, Pcm.format_size, SampleCodecs.decoded_at}
use Rattle.codec_definitions.specs.Flac.{sample_size, sample_bytes, interchannel_bytes, bytes_of_frame, described, flac_sound}
use Rattle.wc_base.specs.declared.media.PictureShape.{PictureShape}
use Rattle.picture_planes.specs.Planes.{picture_size}
use Rattle.codec_definitions.specs.RawVideo.{picture_format, shape_in, chunks_since_drain, is_key, from_last_key, picture_byte, picture_of, last_picture}
use Rattle.codec_definitions.specs.RawVideoEncoder.{is_key_due, less_bytes, coded_bytes, picture_chunk, pictures_since_drain}
use Rattle.codec_definitions.specs.{FlacCode.block_frames, FlacCode.block_samples, FlacEncoder.block_unit, FlacEncoder.blocks_answer}
use Rattle.codec_definitions.specs.Answers.{answer_after}
use Rattle.flac_definitions.specs.{Header.channels_of, declared.header.FrameHeader.FrameHeader}
use Rattle.report_lines.specs.{FieldLaws.FitsOrAbsent, Fits.FitsSound, Fits.FitsImage}
use Rattle.history_laws.specs.Outputs.{MayCarry, Judge}
use Rattle.history_laws.specs.UnitLaws.{decoded_sound, coded_chunk, picture_given, EachAnswer, by_answers}
use Rattle.history_laws.specs.{BlockLaws.answers_blocks, BlockLaws.blocks_where, StreamLaws.code_fits}
use Rattle.run_ranges.specs.Ranges.{IsSizeWithin, IsConfigWithin, IsChunkWithin, IsShapeWithin, IsPictureWithin}
use Rattle.run_ranges.proofs.{Cases.by_option, FlacRanges.frame_within}
use Rattle.run_ranges.proofs.CodeRanges.{CodesAreBytes, CodesBytes, codes_bytes, coded_small, IsLabelWithin, label_within}
use Rattle.run_ranges.proofs.ByteRanges.{bytes_small, one_small, flat_small, range_small}
use Rattle.run_ranges.proofs.BlockRanges.{blocks_few, saturated_within, lasts, block_small}

-- ---- bytes

frame_bytes_small : (h : FrameHeader) (samples : List ℤ) → IsBytes (bytes_of_frame h samples)
unfolding bytes_of_frame
frame_bytes_small h samples =
    let size = sample_size h.depth in
    let up = 8 * size - h.depth in
    flat_small (interchannel_bytes size up (channels_of h.assignment) h.block samples)
    (λ i. flat_small (sample_bytes size up h.block samples i) (λ c. bytes_small size _) 0 (channels_of h.assignment)) 0 h.block

picture_small : (size : ℕ) (chunks : List (List ℕ)) (bytes : List ℕ) → last_picture size chunks ≡ Some bytes → IsBytes bytes
picture_small size chunks bytes is =
    let run = from_last_key chunks in
    let made = (cond_is (list_any is_key chunks) (Some (picture_of size run)) bytes is).1 in
    subst IsBytes (some_same (picture_of size run) bytes made) (range_small (picture_byte run) (λ j. omega arith) 0 size)

-- a chunk of bytes, where its picture is
coded_picture_small : (key : Bool) (last picture : List ℕ) → IsBytes picture → IsBytes (coded_bytes key last picture)
coded_picture_small true last picture own = one_small 0 picture (lit< tt) own
coded_picture_small false last picture own =
    one_small 1 (less_bytes picture last) (lit< tt) (range_small (λ j. (slice_index picture j + 256 - slice_index last j) % 256) (λ j. omega arith) 0 (length picture))

-- ---- units

-- samples whose shape is within its types, of bytes
abbrev pub AreSamplesWithin : Samples → Type 0
AreSamplesWithin samples = IsShapeWithin samples.shape × IsBytes samples.bytes

-- a picture whose time is within its types, of bytes
abbrev pub IsPictureOf : Picture → Type 0
IsPictureOf picture = IsPictureWithin picture.shape × IsBytes picture.bytes

-- a command whose chunk, samples or picture is within its types
abbrev pub IsInputWithin : Command → Type 0
IsInputWithin (Command.Chunk chunk) = IsChunkWithin chunk
IsInputWithin (Command.Sound samples) = AreSamplesWithin samples
IsInputWithin (Command.Image picture) = IsPictureOf picture
IsInputWithin Command.Drain = Unit {0}

abbrev pub IsCarriedWithin : Option AudioDecoderConfig → Type 0
IsCarriedWithin o = IfSome o IsLabelWithin

-- samples, pictures and chunks that are within their types
abbrev pub IsUnitWithin : media.Unit → Type 0
IsUnitWithin (unit.Sound samples) = FitsSound samples.shape samples.bytes
IsUnitWithin (unit.Image picture) = FitsImage picture.shape picture.bytes
IsUnitWithin (unit.Coded chunk config) = IsChunkWithin chunk × IsCarriedWithin config

-- The units that a command gives: fewer than 2^64, and within their types, where the config and the command's input
-- are.
pub record AreGiven (c : Config) (x : Command) (us : List media.Unit) : Type 0 where
  pub few : IsInputWithin x → length us < 2 ^ 64
  pub within : CodesAreBytes → IsConfigWithin c → IsInputWithin x → AllByRecursion IsUnitWithin us

-- one unit that is within its type
one_given : (c : Config) (x : Command) (u : media.Unit) → (CodesAreBytes → IsConfigWithin c → IsInputWithin x → IsUnitWithin u) → AreGiven c x (u ∷ [])
one_given c x u within = record { few = λ own. lit< tt; within = λ laws config own. (within laws config own, tt) }

-- ---- a chunk's duration

duration_within : (n : ℕ) → n < 2 ^ 64 → FitsOrAbsent (Some n)
duration_within n small k is = omega (arith, small, some_same n k is)

-- ---- FLAC

abbrev IsStreamWithin : StreamInfo → Type 0
IsStreamWithin info = (info.rate < 2 ^ 32) × (info.channels < 2 ^ 32)

described_within : (d : Option (List ℕ)) (info : StreamInfo) → described d ≡ Some info → IsStreamWithin info
described_within None info h = absurd cc
described_within (Some d) info h =
    let said = stream_info_of (take 34 (drop 8 d)) in
    let front = nat_le 42 (length d) && bytes_eq (take 4 d) (codes "fLaC") && (big_endian (take 4 (drop 4 d)) % 2 ^ 31 == 34) in
    let read = cond_is (front && is_usable said) (Some said) info h in
    subst IsStreamWithin (some_same said info read.1) (omega arith, omega arith)

-- a command's samples have as many frames as 32 bits count
frames_within : (x : Command) → IsInputWithin x → (s : Samples) → x ≡ Command.Sound s → s.shape.frames < 2 ^ 32
frames_within (Command.Sound t) own s is = let same : t ≡ s = cc in subst (λ (r : Samples). r.shape.frames < 2 ^ 32) same (own.0.0)
frames_within _ own s is = absurd cc

block_within : (c : AudioEncoderConfig) → IsConfigWithin (Config.AudioEncoder c) → (number : ℕ) (values : List ℤ) (place : ℤ × ℕ) → length values ≤ block_samples c → IsUnitWithin (block_unit c number values place)
block_within c own number values place few = (
  (saturated_within (place.0 +ℤ pos (place.1 * 1000000 / c.rate)), duration_within _ (lasts (length values) c.channels (block_frames c) c.rate few (block_small c own.2)), code_fits c number values),
  tt,
)

blocks_given : (c : AudioEncoderConfig) (before : List Command) (x : Command) (us : List media.Unit) → blocks_answer c before x ≡ Some us → AreGiven (Config.AudioEncoder c) x us
blocks_given c before x us h = record {
  few = λ own. blocks_few c before x us (frames_within x own) h;
  within = λ laws config own. blocks_where IsUnitWithin c (block_within c config) us (answers_blocks c before x us h);
}

-- ---- all definitions

-- the size of a picture is the config's
shape_within : (f : Option PictureFormat) (width height : Option ℕ) (shape : PictureShape) → IsSizeWithin width → IsSizeWithin height → shape_in f width height ≡ Some shape → (shape.width < 2 ^ 32) × (shape.height < 2 ^ 32)
shape_within (Some f) (Some width) (Some height) shape w h is = subst (λ (s : PictureShape). (s.width < 2 ^ 32) × (s.height < 2 ^ 32)) (some_same _ shape is) (w, h)
shape_within _ _ _ shape w h is = absurd cc

each_given : EachAnswer (λ c before x us. AreGiven c x us)
each_given = record {
  nothing = λ c before x. record { few = λ own. lit< tt; within = λ laws config own. tt };
  samples = λ id s c before chunk is fine. one_given (Config.AudioDecoder c) (Command.Chunk chunk) (unit.Sound (decoded_sound s c chunk))
      (λ laws config own. record { rate = config.0; channels = config.1; frames = ltb-true (length chunk.bytes / (s.size * c.channels)) (2 ^ 32) (and_parts _ _ fine).1; timestamp = own.0; are_bytes = flat_small (decoded_at s chunk.bytes) (λ i. bytes_small (format_size s.format) _) 0 (length chunk.bytes / s.size) });
  frame = λ info c before chunk f said is. one_given (Config.AudioDecoder c) (Command.Chunk chunk) (flac_sound info chunk f.0 f.1)
      (λ laws config own. (let stream = described_within c.description info said in record { rate = stream.0; channels = stream.1; frames = frame_within info chunk.bytes f is; timestamp = own.0; are_bytes = frame_bytes_small f.0 f.1 }));
  chunk = λ id s c before samples is. one_given (Config.AudioEncoder c) (Command.Sound samples) (unit.Coded (coded_chunk s samples) None)
      (λ laws config own. ((own.0.1, duration_within _ (omega (arith, own.0.0, div-le_self (samples.shape.frames * 1000000) samples.shape.rate)), coded_small s samples.shape samples.bytes (subst CodesBytes is (codes_bytes laws id)) own.1), tt));
  blocks = blocks_given;
  picture = λ id c shape before chunk bytes is made. one_given (Config.VideoDecoder c) (Command.Chunk chunk) (unit.Image (picture_given shape chunk bytes))
      (λ laws config own. (let size = shape_within (picture_format id) c.width c.height shape config.0 config.1 is in record { width = size.0; height = size.1; timestamp = own.0; duration = own.1; are_bytes = picture_small (picture_size shape) (chunks_since_drain before ++ chunk.bytes ∷ []) bytes made }));
  coded = λ id c shape before picture is taken. one_given (Config.VideoEncoder c) (Command.Image picture) (picture_chunk c.key_interval (pictures_since_drain before) picture)
      (λ laws config own. (let xs = pictures_since_drain before in ((own.0.0, own.0.1, coded_picture_small (is_key_due c.key_interval (length xs)) (unwrap_or (last_or None xs) []) picture.bytes own.1), tt)));
}

pub are_given : (id : CoderId) (c : Config) (before : List Command) (x : Command) (us : List media.Unit) → answer_after id c before x ≡ Some us → AreGiven c x us
are_given = by_answers (λ c before x us. AreGiven c x us) each_given

abbrev pub judge : CodesAreBytes → Judge
judge laws = record {
  config = IsConfigWithin;
  input = IsInputWithin;
  output = IsUnitWithin;
  nothing = tt;
  drained = tt;
  gives = λ id c before x us own input h. (are_given id c before x us h).within laws own input;
  relabel = λ c old new may own. (own.0, by_option (λ o. MayCarry IsConfigWithin o → IsCarriedWithin o) new (λ none. tt) (λ d is fine. label_within d fine) may);
}
