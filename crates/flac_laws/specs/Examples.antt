-- A frame that a standard shows, and one in mid/side.
use Rattle.std.specs.Prelude.{ℕ, pos, ◌≡◌, List, [], ◌∷◌, replicate, Some}
use Rattle.wc_config.specs.declared.stream_info.StreamInfo.{StreamInfo}
use Rattle.flac_definitions.specs.declared.header.FrameHeader.{FrameHeader}
use Rattle.flac_definitions.specs.Frame.{frame_of}

-- a stream of 44100 Hz, two channels and 16 bits a sample
abbrev pub stream : StreamInfo
stream = record { min_block = 4096; max_block = 4096; min_frame = 15; max_frame = 15; rate = 44100; channels = 2; depth = 16; total = 1; md5 = replicate 16 0 }

-- the frame of the first example file of RFC 9639 (appendix D.1)
abbrev pub verbatim_frame : List ℕ
verbatim_frame =
    0xff ∷ 0xf8 ∷ 0x69 ∷ 0x18 ∷ 0x00 ∷ 0x00 ∷ 0xbf ∷ 0x03 ∷ 0x58 ∷ 0xfd ∷ 0x03 ∷ 0x12 ∷ 0x8b ∷ 0xaa ∷ 0x9a ∷ []

-- two samples, in mid/side: both channels are constant, and the side is 3
abbrev pub middle_frame : List ℕ
middle_frame =
    0xff ∷ 0xf8 ∷ 0x60 ∷ 0xa8 ∷ 0x00 ∷ 0x01 ∷ 0xf4 ∷ 0x00 ∷ 0x00 ∷ 0x01 ∷ 0x00 ∷ 0x00 ∷ 0x01 ∷ 0x80 ∷ 0x58 ∷ 0x24 ∷ []

abbrev pub header : ℕ → ℕ → FrameHeader
header block assignment = record { block = block; rate = 44100; assignment = assignment; depth = 16; number = 0 }

-- the samples that the standard gives for its frame, and those of the other
pub record ExamplesAreRead : Type 0 where
  pub verbatim : frame_of stream verbatim_frame ≡ Some (header 1 1, pos 25588 ∷ pos 10416 ∷ [])
  pub middle : frame_of stream middle_frame ≡ Some (header 2 10, pos 3 ∷ pos 3 ∷ pos 0 ∷ pos 0 ∷ [])
