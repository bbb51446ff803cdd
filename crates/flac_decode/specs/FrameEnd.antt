-- Where a frame ends that stands at the start of bytes.
use Rattle.std.specs.Prelude.{ℕ, ℤ, ◌≡◌, ◌-◌, ◌/◌, ◌^◌, ◌<◌, ◌≤◌, List, length, take, Option, Some, None}
use Rattle.wc_config.specs.declared.stream_info.StreamInfo.{StreamInfo}
use Rattle.flac_definitions.specs.Bits.{Place}
use Rattle.flac_definitions.specs.Frame.{frame_of}
use Rattle.flac_definitions.specs.declared.header.FrameHeader.{FrameHeader}
use Rattle.flac_decode.specs.declared.end.FrontFrame.{FrontFrame}

-- the bytes in which a frame's end is looked for: no frame has more (our choice)
abbrev pub most : ℕ
most = 2 ^ 61 - 1

-- After n bytes exactly where the first n bytes are a frame; and they are one for at most one n.
abbrev pub EndsAt : StreamInfo → List ℕ → Option ℕ → Type 0
EndsAt info bytes (Some n) =
    (n ≤ length bytes)
    × ((f : FrameHeader × List ℤ) × (frame_of info (take n bytes) ≡ Some f))
    × ((m : ℕ) (f : FrameHeader × List ℤ) → m ≤ length bytes → frame_of info (take m bytes) ≡ Some f → m ≡ n)
EndsAt info bytes None =
    (m : ℕ) (f : FrameHeader × List ℤ) → m ≤ length bytes → frame_of info (take m bytes) ≡ Some f → ⊥

-- The frame in front of bytes, where there is one: it ends after its size, and has its block's samples a channel.
abbrev pub IsFront : StreamInfo → List ℕ → Option FrontFrame → Type 0
IsFront info bytes (Some front) =
    EndsAt info bytes (Some front.size)
    × ((f : FrameHeader × List ℤ) × (frame_of info (take front.size bytes) ≡ Some f) × (front.block ≡ f.0.block))
IsFront info bytes None = EndsAt info bytes None

-- what is known of frames in front of bytes: each list of bytes begins with one or with none, and with one at most; a frame
-- has a byte at least, and fewer than 65,536 samples a channel
pub record FramesAreFound : Type 0 where
  pub each : (info : StreamInfo) (bytes : List ℕ) → (end : Option ℕ) × EndsAt info bytes end
  pub once : (info : StreamInfo) (bytes : List ℕ) (m n : ℕ) (f g : FrameHeader × List ℤ)
      → m ≤ length bytes → n ≤ length bytes → frame_of info (take m bytes) ≡ Some f → frame_of info (take n bytes) ≡ Some g
      → m ≡ n
  pub some : (info : StreamInfo) (bytes : List ℕ) (f : FrameHeader × List ℤ) → frame_of info bytes ≡ Some f → 0 < length bytes
  pub block : (info : StreamInfo) (bytes : List ℕ) (f : FrameHeader × List ℤ) → frame_of info bytes ≡ Some f → f.0.block < 65536

-- the bytes up to the place behind a frame
abbrev pub end_of : Option ((FrameHeader × List ℤ) × Place) → Option ℕ
end_of None = None
end_of (Some f) = Some (f.1.at / 8)

-- the same with its block's samples a channel
abbrev pub front_of : Option ((FrameHeader × List ℤ) × Place) → Option FrontFrame
front_of None = None
front_of (Some f) = Some (record { size = f.1.at / 8; block = f.0.0.block })
