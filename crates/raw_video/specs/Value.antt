-- The decoder of raw video as contracts see it.
use Rattle.std.specs.Prelude.{ℕ, ◌≡◌, ◌<◌, ◌+◌, ◌%◌, List, ◌++◌, length, drop, map, slice_index, Option, Some, None, IfSome, option_map, Result, Ok, Err, if◌then◌else◌}
use Rattle.std.specs.List.{range_with_len}
use Rattle.wc_base.specs.declared.media.PictureFormat.{PictureFormat}
use Rattle.wc_base.specs.declared.media.PictureFormat.TheVariants as format
use Rattle.picture_planes.specs.Planes.{picture_size}
use Rattle.wc_config.specs.declared.codec.CoderId.{CoderId}
use Rattle.wc_config.specs.declared.codec.CodecId.{CodecId}
use Rattle.wc_config.specs.declared.codec.CodecId.TheVariants as codec
use Rattle.wc_config.specs.declared.codec.Role.TheVariants as role
use Rattle.wc_config.specs.declared.config.Config.TheVariants as config
use Rattle.wc_chunk.specs.declared.chunk.Chunk.{Chunk}
use Rattle.codec_definitions.specs.declared.unit.Unit as unit
use Rattle.codec_definitions.specs.declared.command.Command.{Command}
use Rattle.codec_definitions.specs.declared.command.Command.TheVariants as command
use Rattle.codec_definitions.specs.RawVideo.{raw_shape, is_key, is_whole_chunk, picture_unit}
use Rattle.coder_api.specs.declared.coder.CoderFault.{CoderFault}
use Rattle.coder_api.specs.declared.coder.CoderFault.TheVariants as fault
use Rattle.coder_api.specs.Meaning.{Meaning, Stopped, Configured, picture_kept}
use Rattle.raw_video.specs.declared.coder.Setting.{Setting}
use Rattle.raw_video.specs.declared.coder.Setting.TheVariants as setting
use Rattle.raw_video.specs.declared.coder.Decoding.{Decoding}

-- its id and meaning
pub record RawValue : Type 0 where
  pub id : CoderId
  pub meaning : Meaning

abbrev pub codec_of : PictureFormat → CodecId
codec_of format.I420 = codec.RawI420
codec_of format.I422 = codec.RawI422
codec_of format.I444 = codec.RawI444
codec_of format.Nv12 = codec.RawNv12

abbrev pub id_of : PictureFormat → CoderId
id_of f = record { role = role.Decode; codec = codec_of f }

abbrev pub meaning_of : Setting → Meaning
meaning_of setting.Stopped = Stopped
meaning_of (setting.Decoder d) = Configured (config.VideoDecoder d.config) (picture_kept d.last)

-- the pictures are those of the config, and the last one is whole
abbrev pub IsServed : PictureFormat → Setting → Type 0
IsServed f setting.Stopped = Unit {0}
IsServed f (setting.Decoder d) = (raw_shape (codec_of f) d.config ≡ Some d.shape) × (d.size ≡ picture_size d.shape) × IfSome d.last (λ p. length p ≡ d.size)

-- numbers of 8 bits
pub record AreBytes (bytes : List ℕ) : Type 0 where
  pub each : (i : ℕ) → slice_index bytes i < 256

abbrev pub AreBytesOf : Command → Type 0
AreBytesOf (command.Chunk chunk) = AreBytes chunk.bytes
AreBytesOf x = Unit {0}

-- a picture with a delta added to it, byte by byte
abbrev pub added : List ℕ → List ℕ → List ℕ
added picture delta = map (λ j. (slice_index picture j + slice_index delta j) % 256) (range_with_len 0 (length picture))

-- the picture of a chunk after the last one; none where it is refused
abbrev pub picture_after : Option (List ℕ) → List ℕ → Option (List ℕ)
picture_after last bytes = if is_key bytes then Some (drop 1 bytes) else option_map (λ p. added p (drop 1 bytes)) last

abbrev pub next_picture : ℕ → Option (List ℕ) → List ℕ → Option (List ℕ)
next_picture size last bytes = if is_whole_chunk size bytes then picture_after last bytes else None

-- what a chunk's decoding answered
abbrev pub GivesPicture : Option (List ℕ) → Result (List ℕ) CoderFault → Type 0
GivesPicture answer (Ok picture) = answer ≡ Some picture
GivesPicture answer (Err fault.Refused) = answer ≡ None
GivesPicture answer (Err fault.NoMemory) = Unit {0}

abbrev pub unit_after : Decoding → Chunk → Option (List unit.Unit)
unit_after d chunk = picture_unit d.shape chunk (next_picture d.size d.last chunk.bytes)

-- what a command's units are, and the setting after it
abbrev pub answer_in : Setting → Command → Option (List unit.Unit)
answer_in (setting.Decoder d) (command.Chunk chunk) = unit_after d chunk
answer_in s x = None

abbrev pub after : Setting → Command → Setting
after (setting.Decoder d) (command.Chunk chunk) = setting.Decoder (record d { last = next_picture d.size d.last chunk.bytes })
after (setting.Decoder d) command.Drain = setting.Decoder (record d { last = None })
after s x = s

-- units were appended, or the input was refused, or memory was wanted
abbrev pub GivesPictureUnit : Decoding → Chunk → Result Decoding CoderFault → List unit.Unit → List unit.Unit → Type 0
GivesPictureUnit d chunk (Ok e) old new = (units : List unit.Unit) × (unit_after d chunk ≡ Some units) × (new ≡ old ++ units)
GivesPictureUnit d chunk (Err fault.Refused) old new = (unit_after d chunk ≡ None) × (new ≡ old)
GivesPictureUnit d chunk (Err fault.NoMemory) old new = new ≡ old

abbrev pub GivesUnits : Option (List unit.Unit) → Result Setting CoderFault → List unit.Unit → List unit.Unit → Type 0
GivesUnits answer (Ok s) old new = (units : List unit.Unit) × (answer ≡ Some units) × (new ≡ old ++ units)
GivesUnits answer (Err fault.Refused) old new = (answer ≡ None) × (new ≡ old)
GivesUnits answer (Err fault.NoMemory) old new = new ≡ old
