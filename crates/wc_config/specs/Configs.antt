-- When a config is valid and supported, and which coder it asks for (W3C WebCodecs, "valid AudioDecoderConfig" and the
-- like, and the codec registrations; the bounds on channels, rates and sizes are our choice).
use Rattle.std.specs.Prelude.{ℕ, ◌==◌, ◌&&◌, ◌||◌, not, nat_le, Bool, true, false, List, Option, Some, None, is_some, if◌then◌else◌, codes, bytes_eq}
use Rattle.std.specs.List.{list_all}
use Rattle.wc_config.specs.declared.codec.CodecId.{CodecId}
use Rattle.wc_config.specs.declared.codec.CodecId.TheVariants as codec
use Rattle.wc_config.specs.declared.codec.Role.{Role}
use Rattle.wc_config.specs.declared.codec.Role.TheVariants as role
use Rattle.wc_config.specs.declared.codec.CoderId.{CoderId}
use Rattle.wc_config.specs.declared.config.Config.{Config}
use Rattle.wc_config.specs.declared.config.Config.TheVariants as config
use Rattle.wc_config.specs.Streams.{streaminfo_of}

-- the audio codec with this codec string, byte for byte
abbrev pub audio_codec : List ℕ → Option CodecId
audio_codec text =
    if bytes_eq text (codes "pcm-u8") then Some codec.PcmU8
    else if bytes_eq text (codes "pcm-s16") then Some codec.PcmS16
    else if bytes_eq text (codes "pcm-s24") then Some codec.PcmS24
    else if bytes_eq text (codes "pcm-s32") then Some codec.PcmS32
    else if bytes_eq text (codes "alaw") then Some codec.Alaw
    else if bytes_eq text (codes "ulaw") then Some codec.Ulaw
    else if bytes_eq text (codes "flac") then Some codec.Flac
    else None

-- the video codec with this codec string, byte for byte
abbrev pub video_codec : List ℕ → Option CodecId
video_codec text =
    if bytes_eq text (codes "x-raw-i420") then Some codec.RawI420
    else if bytes_eq text (codes "x-raw-i422") then Some codec.RawI422
    else if bytes_eq text (codes "x-raw-i444") then Some codec.RawI444
    else if bytes_eq text (codes "x-raw-nv12") then Some codec.RawNv12
    else None

abbrev pub id_with : Role → Option CodecId → Option CoderId
id_with r None = None
id_with r (Some c) = Some (record { role = r; codec = c })

-- the coder that a config asks for
abbrev pub coder_id_of : Config → Option CoderId
coder_id_of (config.AudioDecoder c) = id_with role.Decode (audio_codec c.codec)
coder_id_of (config.AudioEncoder c) = id_with role.Encode (audio_codec c.codec)
coder_id_of (config.VideoDecoder c) = id_with role.Decode (video_codec c.codec)
coder_id_of (config.VideoEncoder c) = id_with role.Encode (video_codec c.codec)
coder_id_of config.Bad = None

-- tab, line feed, form feed, carriage return, space
abbrev pub is_ascii_whitespace : ℕ → Bool
is_ascii_whitespace b = (b == 9) || (b == 10) || (b == 12) || (b == 13) || (b == 32)

-- nothing is left where whitespace is stripped from both ends
abbrev pub is_blank : List ℕ → Bool
is_blank text = list_all is_ascii_whitespace text

-- both numbers are there and above 0, or neither is there
abbrev pub is_pair : Option ℕ → Option ℕ → Bool
is_pair None None = true
is_pair (Some width) (Some height) = nat_le 1 width && nat_le 1 height
is_pair _ _ = false

abbrev pub is_block_size : ℕ → Bool
is_block_size n = (n == 0) || (nat_le 16 n && nat_le n 65535)

abbrev pub is_depth : ℕ → Bool
is_depth n = (n == 8) || (n == 16) || (n == 24) || (n == 32)

abbrev pub is_valid : Config → Bool
is_valid (config.AudioDecoder c) = not (is_blank c.codec) && nat_le 1 c.rate && nat_le 1 c.channels
is_valid (config.AudioEncoder c) =
    not (is_blank c.codec) && nat_le 1 c.rate && nat_le 1 c.channels
    && is_block_size c.block_size && nat_le c.level 8 && is_depth c.depth
is_valid (config.VideoDecoder c) = not (is_blank c.codec) && is_pair c.width c.height && is_pair c.aspect_width c.aspect_height
is_valid (config.VideoEncoder c) = not (is_blank c.codec) && nat_le 1 c.width && nat_le 1 c.height
is_valid config.Bad = false

-- a description that is there and that a FLAC stream may have
abbrev pub has_streaminfo : Option (List ℕ) → Bool
has_streaminfo None = false
has_streaminfo (Some description) = is_some (streaminfo_of description)

abbrev pub is_flac : Option CodecId → Bool
is_flac (Some codec.Flac) = true
is_flac _ = false

abbrev pub is_size : Option ℕ → Bool
is_size None = false
is_size (Some n) = nat_le n 16384

-- what the coder of a config can work with
abbrev pub is_within : Config → Bool
is_within (config.AudioDecoder c) = if is_flac (audio_codec c.codec) then has_streaminfo c.description else nat_le c.channels 32
is_within (config.AudioEncoder c) =
    if is_flac (audio_codec c.codec) then nat_le c.channels 8 && nat_le c.rate 1048575 else nat_le c.channels 32
is_within (config.VideoDecoder c) = is_size c.width && is_size c.height
is_within (config.VideoEncoder c) = nat_le c.width 16384 && nat_le c.height 16384
is_within config.Bad = false

-- a config is supported where it is valid, names a known codec, and is within what that codec's coder can work with
abbrev pub is_supported : Config → Bool
is_supported c = is_valid c && is_some (coder_id_of c) && is_within c
