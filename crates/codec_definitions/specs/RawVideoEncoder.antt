-- The encoder of raw video (our choice). Pictures are numbered from the last drain on. The first is a key chunk, a byte 0 and the
-- picture's planes; where the config has a key interval, so is each whose number it divides. Any other is a delta chunk, a byte 1 and
-- each byte of the picture less that of the picture before it, modulo 256.
use Rattle.std.specs.Prelude.{ℕ, ◌+◌, ◌-◌, ◌%◌, ◌==◌, ◌||◌, ◌&&◌, not, Bool, true, false, List, [], ◌∷◌, ◌++◌, length, map, slice_index, fold, Option, Some, None, unwrap_or, if◌then◌else◌}
use Rattle.std.specs.List.{range_with_len, last_or}
use Rattle.wc_base.specs.declared.media.Picture.{Picture}
use Rattle.wc_base.specs.declared.media.PictureFormat.{PictureFormat}
use Rattle.wc_base.specs.declared.media.PictureFormat.TheVariants as format
use Rattle.wc_base.specs.declared.media.PictureShape.{PictureShape}
use Rattle.picture_planes.specs.Planes.{picture_size}
use Rattle.wc_config.specs.declared.codec.CodecId.{CodecId}
use Rattle.wc_config.specs.declared.config.VideoEncoderConfig.{VideoEncoderConfig}
use Rattle.codec_definitions.specs.declared.unit.Unit as unit
use Rattle.codec_definitions.specs.declared.unit.Unit.TheVariants as unit_of
use Rattle.codec_definitions.specs.declared.command.Command.{Command}
use Rattle.codec_definitions.specs.declared.command.Command.TheVariants as command
use Rattle.codec_definitions.specs.RawVideo.{picture_format, shape_in}

-- the pictures that a config takes, at time 0; none where it is no raw video
abbrev pub coded_shape : CodecId → VideoEncoderConfig → Option PictureShape
coded_shape k c = shape_in (picture_format k) (Some c.width) (Some c.height)

-- the bytes of the pictures since the last drain
abbrev pub with_picture : List (List ℕ) → Command → List (List ℕ)
with_picture pictures (command.Image picture) = pictures ++ picture.bytes ∷ []
with_picture pictures command.Drain = []
with_picture pictures x = pictures

abbrev pub pictures_since_drain : List Command → List (List ℕ)
pictures_since_drain commands = fold with_picture [] commands

-- picture `n` is a key chunk; 0 is no key interval
abbrev pub is_key_due : ℕ → ℕ → Bool
is_key_due interval n = (n == 0) || (not (interval == 0) && (n % interval == 0))

-- a picture less the one before it, byte by byte
abbrev pub less_bytes : List ℕ → List ℕ → List ℕ
less_bytes picture last = map (λ j. (slice_index picture j + 256 - slice_index last j) % 256) (range_with_len 0 (length picture))

-- a chunk's bytes: whether it is a key chunk, the picture before it, and its own picture
abbrev pub coded_bytes : Bool → List ℕ → List ℕ → List ℕ
coded_bytes true last picture = 0 ∷ picture
coded_bytes false last picture = 1 ∷ less_bytes picture last

-- the chunk of a picture after those since the last drain
abbrev pub picture_chunk : ℕ → List (List ℕ) → Picture → unit.Unit
picture_chunk interval before picture =
    let key = is_key_due interval (length before) in
    unit_of.Coded (record { key = key; timestamp = picture.shape.timestamp; duration = picture.shape.duration; bytes = coded_bytes key (unwrap_or (last_or None before) []) picture.bytes }) None

abbrev pub is_format : PictureFormat → PictureFormat → Bool
is_format format.I420 format.I420 = true
is_format format.I422 format.I422 = true
is_format format.I444 format.I444 = true
is_format format.Nv12 format.Nv12 = true
is_format _ _ = false

-- a picture of this format and size, with as many bytes as it needs; any other is refused
abbrev pub is_picture_taken : PictureShape → Picture → Bool
is_picture_taken shape picture =
    is_format shape.format picture.shape.format && (picture.shape.width == shape.width) && (picture.shape.height == shape.height) && (length picture.bytes == picture_size shape)

abbrev pub picture_chunks : Option PictureShape → ℕ → List (List ℕ) → Picture → Option (List unit.Unit)
picture_chunks None interval before picture = None
picture_chunks (Some shape) interval before picture = if is_picture_taken shape picture then Some (picture_chunk interval before picture ∷ []) else None

abbrev pub raw_encoder : Option PictureShape → ℕ → List Command → Command → Option (List unit.Unit)
raw_encoder shape interval before (command.Image picture) = picture_chunks shape interval (pictures_since_drain before) picture
raw_encoder shape interval before command.Drain = Some []
raw_encoder shape interval before x = None

-- the number of a picture, as far as it tells which chunks are key chunks: modulo the key interval
abbrev pub number_in : ℕ → ℕ → ℕ
number_in interval n = if interval == 0 then 0 else n % interval
