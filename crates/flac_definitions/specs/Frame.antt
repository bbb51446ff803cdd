-- Frames as they are read (RFC 9639, section 9).
use Rattle.std.specs.Prelude.{ℕ, ℤ, ◌-◌, ◌*◌, ◌/◌, ◌%◌, ◌^◌, ◌==◌, nat_lt, not, List, take, length, Option, Some, None, if◌then◌else◌}
use Rattle.wc_config.specs.declared.stream_info.StreamInfo.{StreamInfo}
use Rattle.flac_definitions.specs.Bits.{Place, number_at, start_of}
use Rattle.flac_definitions.specs.Options.{◌>>=◌}
use Rattle.flac_definitions.specs.Results.{without_fault}
use Rattle.flac_definitions.specs.Sums.{crc16_of}
use Rattle.flac_definitions.specs.Header.{header_at, channels_of}
use Rattle.flac_definitions.specs.declared.header.FrameHeader.{FrameHeader}
use Rattle.flac_definitions.specs.Stereo.{plain_channels}
use Rattle.flac_definitions.specs.Subframe.{channels_at}

-- the footer: zero bits up to a byte, and then the sum of all bytes before (RFC 9639, section 9.3)
unfoldable pub footer_at : Place → Option (Unit {0} × Place)
footer_at p =
    number_at ((8 - p.at % 8) % 8) p >>= λ zeros.
    if not (zeros.0 == 0) then None
    else (number_at 16 zeros.1 >>= λ kept.
    if kept.0 == crc16_of (take (zeros.1.at / 8) p.bytes) then Some (tt, kept.1) else None)

abbrev pub with_header : FrameHeader → Place → Option (List ℤ) → Option ((FrameHeader × List ℤ) × Place)
with_header h p None = None
with_header h p (Some samples) = Some ((h, samples), p)

-- a frame of the stream that is described: its header, and its channels' samples one channel after another
unfoldable pub frame_at : StreamInfo → Place → Option ((FrameHeader × List ℤ) × Place)
frame_at info p =
    without_fault (header_at info p) >>= λ h.
    channels_at h.0.assignment h.0.depth h.0.block 0 (channels_of h.0.assignment) h.1 >>= λ coded.
    footer_at coded.1 >>= λ e.
    with_header h.0 e.1 (plain_channels h.0.assignment h.0.depth h.0.block coded.0)

-- a frame that ends with the bytes
abbrev pub if_all_bytes : List ℕ → (FrameHeader × List ℤ) × Place → Option (FrameHeader × List ℤ)
if_all_bytes bytes f = if f.1.at == 8 * length bytes then Some f.0 else None

-- the frame that bytes are, with nothing behind it; 2 ^ 61 bytes or more are refused (our choice)
abbrev pub frame_of : StreamInfo → List ℕ → Option (FrameHeader × List ℤ)
frame_of info bytes =
    if nat_lt (length bytes) (2 ^ 61) then (frame_at info (start_of bytes) >>= if_all_bytes bytes) else None
