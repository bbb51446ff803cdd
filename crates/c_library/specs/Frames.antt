-- Frames of FLAC as C sees them.
use Rattle.std.specs.Prelude.{ℕ, ℤ, ◌≡◌, ◌⊎◌, ◌*◌, ◌/◌, ◌==◌, ◌||◌, Bool, List, map, take, length, Some, None, IsTrue}
use Rattle.std.specs.List.{range_with_len}
use Rattle.wc_config.specs.declared.stream_info.StreamInfo.{StreamInfo}
use Rattle.codec_definitions.specs.Flac.{sample_size, bytes_of_frame}
use Rattle.codec_definitions.specs.Pcm.{sample_at, converted}
use Rattle.flac_definitions.specs.Frame.{frame_of}
use Rattle.flac_definitions.specs.declared.header.FrameHeader.{FrameHeader}
use Rattle.flac_decode.specs.FrameEnd.{EndsAt}
use Rattle.flac_decode.specs.Shortness.{is_short}
use Rattle.c_library.specs.Status.{done, refused, no_memory, too_small, invalid, need_more, fill_status, filled}

-- sample `i` of a frame's bytes, without the zeros below its depth
abbrev pub sample_in : ℕ → List ℕ → ℕ → ℤ
sample_in depth bytes i = let size = sample_size depth in converted (8 * size) depth (sample_at size bytes i)

-- all of them
abbrev pub samples_in : ℕ → List ℕ → List ℤ
samples_in depth bytes = map (sample_in depth bytes) (range_with_len 0 (length bytes / sample_size depth))

-- the samples were found: they fit, or they do not
abbrev pub HasValues : ℕ → Type 0
HasValues status = (status ≡ done) ⊎ (status ≡ too_small)

-- the frame that bytes are, its samples in each channel, and all of them, frame by frame, at the front of some room
abbrev pub IsDecoded : StreamInfo → List ℕ → ℕ → ℕ → List ℤ → List ℤ → Type 0
IsDecoded info bytes block status old new =
    (f : FrameHeader × List ℤ)
    × ((frame_of info bytes ≡ Some f)
    × ((block ≡ f.0.block)
    × ((status ≡ fill_status (samples_in info.depth (bytes_of_frame f.0 f.1)) old)
    × (new ≡ filled (samples_in info.depth (bytes_of_frame f.0 f.1)) old))))

-- the frame in front of bytes: how many bytes it has, and its samples as above
abbrev pub IsDecodedFront : StreamInfo → List ℕ → ℕ → ℕ → ℕ → List ℤ → List ℤ → Type 0
IsDecodedFront info bytes size block status old new =
    EndsAt info bytes (Some size) × IsDecoded info (take size bytes) block status old new

-- no frame is in front of bytes; and reading them ends for want of bits, or before
abbrev pub IsNoFront : StreamInfo → List ℕ → Bool → Type 0
IsNoFront info bytes short = EndsAt info bytes None × (is_short info bytes ≡ short)

-- what a call answers that looks for a frame's end
abbrev pub IsEndStatus : ℕ → Type 0
IsEndStatus s = IsTrue ((s == done) || (s == refused) || (s == no_memory) || (s == invalid))

-- what a call answers that decodes a frame, or writes one
abbrev pub IsFrameStatus : ℕ → Type 0
IsFrameStatus s = IsTrue ((s == done) || (s == refused) || (s == no_memory) || (s == too_small) || (s == invalid))

-- what a call answers that decodes the frame in front of bytes
abbrev pub IsFrontStatus : ℕ → Type 0
IsFrontStatus s =
    IsTrue ((s == done) || (s == refused) || (s == no_memory) || (s == too_small) || (s == invalid) || (s == need_more))
