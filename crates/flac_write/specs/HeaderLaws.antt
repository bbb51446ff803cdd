-- The law of written headers.
use Rattle.std.specs.Prelude.{ℕ, ◌≡◌, List, length, Ok}
use Rattle.wc_config.specs.declared.stream_info.StreamInfo.{StreamInfo}
use Rattle.flac_definitions.specs.Bits.{Begins, forward, start_of}
use Rattle.flac_definitions.specs.Header.{header_at}
use Rattle.flac_definitions.specs.HeaderSpelling.{IsHeader, IsDescribed}
use Rattle.flac_definitions.specs.declared.header.FrameHeader.{FrameHeader}
use Rattle.flac_definitions.specs.HeaderWriting.{IsWritable, header_bits}

-- What is written of a header spells it, and where it stands at the start of bytes, the header is read.
pub record WrittenHeadersAreRead : Type 0 where
  pub spelled : (info : StreamInfo) (h : FrameHeader) → IsWritable h → IsDescribed info h → IsHeader info h (header_bits h)
  pub read : (info : StreamInfo) (h : FrameHeader) (bytes : List ℕ) → IsWritable h → IsDescribed info h
      → Begins (start_of bytes) (header_bits h)
      → header_at info (start_of bytes) ≡ Ok (h, forward (length (header_bits h)) (start_of bytes))
