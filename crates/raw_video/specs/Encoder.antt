-- The encoder of raw video as contracts see it.
use Rattle.std.specs.Prelude.{ℕ, ◌≡◌, ◌==◌, ◌+◌, ◌||◌, ◌&&◌, not, Bool, List, [], ◌∷◌, ◌++◌, length, Option, Some, None, IfSome, IfNone, is_none, unwrap_or, Result, Ok, Err, if◌then◌else◌}
use Rattle.wc_base.specs.declared.media.Picture.{Picture}
use Rattle.wc_base.specs.declared.media.PictureFormat.{PictureFormat}
use Rattle.picture_planes.specs.Planes.{picture_size}
use Rattle.wc_config.specs.declared.codec.CoderId.{CoderId}
use Rattle.wc_config.specs.declared.codec.Role.TheVariants as role
use Rattle.wc_config.specs.declared.config.Config.TheVariants as config
use Rattle.codec_definitions.specs.declared.unit.Unit as unit
use Rattle.codec_definitions.specs.declared.unit.Unit.TheVariants as unit_of
use Rattle.codec_definitions.specs.declared.command.Command.{Command}
use Rattle.codec_definitions.specs.declared.command.Command.TheVariants as command
use Rattle.codec_definitions.specs.RawVideoEncoder.{coded_shape, coded_bytes, is_picture_taken, number_in}
use Rattle.coder_api.specs.declared.coder.CoderFault.{CoderFault}
use Rattle.coder_api.specs.declared.coder.CoderFault.TheVariants as fault
use Rattle.coder_api.specs.Meaning.{Meaning, Stopped, Configured, coded_kept}
use Rattle.raw_video.specs.declared.encoder.Setting.{Setting}
use Rattle.raw_video.specs.declared.encoder.Setting.TheVariants as setting
use Rattle.raw_video.specs.declared.encoder.Encoding.{Encoding}
use Rattle.raw_video.specs.Value.{codec_of}

-- its id and meaning
pub record EncoderValue : Type 0 where
  pub id : CoderId
  pub meaning : Meaning

abbrev pub encoder_id : PictureFormat → CoderId
encoder_id f = record { role = role.Encode; codec = codec_of f }

abbrev pub meaning_of : Setting → Meaning
meaning_of setting.Stopped = Stopped
meaning_of (setting.Encoder e) = Configured (config.VideoEncoder e.config) (coded_kept e.last e.next)

-- the pictures are those of the config, the last one is whole, and the next number is below the key interval; with no last picture
-- it is 0
abbrev pub IsCoding : PictureFormat → Setting → Type 0
IsCoding f setting.Stopped = Unit {0}
IsCoding f (setting.Encoder e) =
    (coded_shape (codec_of f) e.config ≡ Some e.shape) × (e.size ≡ picture_size e.shape) × IfSome e.last (λ p. length p ≡ e.size)
    × IfNone e.last (e.next ≡ 0) × (number_in e.config.key_interval e.next ≡ e.next)

-- the next chunk is a key chunk
abbrev pub is_key_next : Encoding → Bool
is_key_next e = is_none e.last || (not (e.config.key_interval == 0) && (e.next == 0))

abbrev pub chunk_next : Encoding → Picture → unit.Unit
chunk_next e picture =
    unit_of.Coded (record { key = is_key_next e; timestamp = picture.shape.timestamp; duration = picture.shape.duration; bytes = coded_bytes (is_key_next e) (unwrap_or e.last []) picture.bytes }) None

-- what a picture gives by what is kept; none where it is refused
abbrev pub units_next : Encoding → Picture → Option (List unit.Unit)
units_next e picture = if is_picture_taken e.shape picture then Some (chunk_next e picture ∷ []) else None

-- what is kept then
abbrev pub with_picture : List ℕ → Encoding → Encoding
with_picture bytes e = record e { last = Some bytes; next = number_in e.config.key_interval (e.next + 1) }

-- what a command's units are, and the setting after it
abbrev pub answer_in : Setting → Command → Option (List unit.Unit)
answer_in (setting.Encoder e) (command.Image picture) = units_next e picture
answer_in s x = None

abbrev pub after : Setting → Command → Setting
after (setting.Encoder e) (command.Image picture) = setting.Encoder (with_picture picture.bytes e)
after (setting.Encoder e) command.Drain = setting.Encoder (record e { last = None; next = 0 })
after s x = s

-- a chunk was appended, or the picture was refused, or memory was wanted
abbrev pub GivesChunk : Encoding → Picture → Result Encoding CoderFault → List unit.Unit → List unit.Unit → Type 0
GivesChunk e picture (Ok f) old new = (units : List unit.Unit) × (units_next e picture ≡ Some units) × (new ≡ old ++ units)
GivesChunk e picture (Err fault.Refused) old new = (units_next e picture ≡ None) × (new ≡ old)
GivesChunk e picture (Err fault.NoMemory) old new = new ≡ old

abbrev pub GivesUnits : Option (List unit.Unit) → Result Setting CoderFault → List unit.Unit → List unit.Unit → Type 0
GivesUnits answer (Ok s) old new = (units : List unit.Unit) × (answer ≡ Some units) × (new ≡ old ++ units)
GivesUnits answer (Err fault.Refused) old new = (answer ≡ None) × (new ≡ old)
GivesUnits answer (Err fault.NoMemory) old new = new ≡ old
