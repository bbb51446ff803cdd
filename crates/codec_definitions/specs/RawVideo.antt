-- Raw video (our choice): a key chunk is a byte 0 and then a picture's planes one after another; a delta chunk is a byte 1 and then
-- as many bytes, each added to that of the last picture, modulo 256. Whether a chunk is called a key chunk is not looked at.
use Rattle.std.specs.Prelude.{ℕ, pos, ◌+◌, ◌%◌, ◌==◌, ◌||◌, ◌&&◌, not, Bool, List, [], ◌∷◌, ◌++◌, length, map, slice_index, sum_by, fold, Option, Some, None, if◌then◌else◌}
use Rattle.std.specs.List.{list_any, range_with_len}
use Rattle.wc_base.specs.declared.media.PictureFormat.{PictureFormat}
use Rattle.wc_base.specs.declared.media.PictureFormat.TheVariants as format
use Rattle.wc_base.specs.declared.media.PictureShape.{PictureShape}
use Rattle.picture_planes.specs.Planes.{picture_size}
use Rattle.wc_config.specs.declared.codec.CodecId.{CodecId}
use Rattle.wc_config.specs.declared.codec.CodecId.TheVariants as codec
use Rattle.wc_config.specs.declared.config.VideoDecoderConfig.{VideoDecoderConfig}
use Rattle.wc_chunk.specs.declared.chunk.Chunk.{Chunk}
use Rattle.codec_definitions.specs.declared.unit.Unit as unit
use Rattle.codec_definitions.specs.declared.unit.Unit.TheVariants as unit_of
use Rattle.codec_definitions.specs.declared.command.Command.{Command}
use Rattle.codec_definitions.specs.declared.command.Command.TheVariants as command

-- the format of a codec's pictures
abbrev pub picture_format : CodecId → Option PictureFormat
picture_format codec.RawI420 = Some format.I420
picture_format codec.RawI422 = Some format.I422
picture_format codec.RawI444 = Some format.I444
picture_format codec.RawNv12 = Some format.Nv12
picture_format codec.PcmU8 = None
picture_format codec.PcmS16 = None
picture_format codec.PcmS24 = None
picture_format codec.PcmS32 = None
picture_format codec.Alaw = None
picture_format codec.Ulaw = None
picture_format codec.Flac = None

abbrev pub shape_in : Option PictureFormat → Option ℕ → Option ℕ → Option PictureShape
shape_in (Some f) (Some width) (Some height) = Some (record { format = f; width = width; height = height; timestamp = pos 0; duration = None })
shape_in _ _ _ = None

-- the pictures that a config asks for, at time 0; none where it is no raw video, or has no size
abbrev pub raw_shape : CodecId → VideoDecoderConfig → Option PictureShape
raw_shape k c = shape_in (picture_format k) c.width c.height

-- the bytes of the chunks since the last drain
abbrev pub with_command : List (List ℕ) → Command → List (List ℕ)
with_command chunks (command.Chunk chunk) = chunks ++ chunk.bytes ∷ []
with_command chunks command.Drain = []
with_command chunks x = chunks

abbrev pub chunks_since_drain : List Command → List (List ℕ)
chunks_since_drain commands = fold with_command [] commands

abbrev pub is_key : List ℕ → Bool
is_key bytes = slice_index bytes 0 == 0

-- the last key chunk and the delta chunks after it
abbrev pub with_chunk : List (List ℕ) → List ℕ → List (List ℕ)
with_chunk run bytes = if is_key bytes then bytes ∷ [] else run ++ bytes ∷ []

abbrev pub from_last_key : List (List ℕ) → List (List ℕ)
from_last_key chunks = fold with_chunk [] chunks

-- a byte of the picture after chunks: the key picture's plus those of the deltas
abbrev pub picture_byte : List (List ℕ) → ℕ → ℕ
picture_byte run j = sum_by (λ bytes. slice_index bytes (1 + j)) run % 256

abbrev pub picture_of : ℕ → List (List ℕ) → List ℕ
picture_of size run = map (picture_byte run) (range_with_len 0 size)

-- the picture after chunks; none where no key chunk is among them
abbrev pub last_picture : ℕ → List (List ℕ) → Option (List ℕ)
last_picture size chunks = if list_any is_key chunks then Some (picture_of size (from_last_key chunks)) else None

-- a byte for the kind, and as many as a picture has
abbrev pub is_whole_chunk : ℕ → List ℕ → Bool
is_whole_chunk size bytes = (length bytes == 1 + size) && (is_key bytes || (slice_index bytes 0 == 1))

abbrev pub picture_unit : PictureShape → Chunk → Option (List ℕ) → Option (List unit.Unit)
picture_unit shape chunk None = None
picture_unit shape chunk (Some bytes) = Some (unit_of.Image (record { shape = record { format = shape.format; width = shape.width; height = shape.height; timestamp = chunk.timestamp; duration = chunk.duration }; bytes = bytes }) ∷ [])

-- the picture of a chunk after others; none where it is refused: its first byte is neither 0 nor 1, it has another length than a
-- picture and that byte, or it is a delta chunk and there is no picture before it
abbrev pub raw_units : Option PictureShape → List (List ℕ) → Chunk → Option (List unit.Unit)
raw_units None chunks chunk = None
raw_units (Some shape) chunks chunk =
    if not (is_whole_chunk (picture_size shape) chunk.bytes) then None
    else picture_unit shape chunk (last_picture (picture_size shape) (chunks ++ chunk.bytes ∷ []))

abbrev pub raw_decoder : Option PictureShape → List Command → Command → Option (List unit.Unit)
raw_decoder shape before (command.Chunk chunk) = raw_units shape (chunks_since_drain before) chunk
raw_decoder shape before command.Drain = Some []
raw_decoder shape before x = None
