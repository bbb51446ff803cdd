-- Native FLAC files (RFC 9639, section 6): the mark and the metadata blocks, of which the first is a STREAMINFO block, and
-- then frames up to the end of the file. Tags before the mark or behind the last frame are no part of it (our choice).
use Rattle.std.specs.Prelude.{ℕ, ℤ, pos, true, ◌≡◌, ◌<◌, ◌⊎◌, ◌+◌, ◌-◌, ◌*◌, ◌/◌, ◌^◌, min, nat_lt, nat_le, List, [], ◌∷◌, ◌++◌, length, drop, slice_index, Option, Some, None, Result, Ok, Err, if◌then◌else◌}
use Rattle.byteorder.specs.Endian.{big_number}
use Rattle.chunk_files.specs.declared.fault.DemuxFault.{DemuxFault}
use Rattle.chunk_files.specs.declared.fault.DemuxFault.TheVariants as fault
use Rattle.wc_chunk.specs.declared.chunk.Chunk.{Chunk}
use Rattle.wc_config.specs.declared.stream_info.StreamInfo.{StreamInfo}
use Rattle.wc_config.specs.Streams.{streaminfo_of}
use Rattle.flac_definitions.specs.Frame.{frame_of}
use Rattle.flac_definitions.specs.declared.header.FrameHeader.{FrameHeader}
use Rattle.flac_decode.specs.FrameEnd.{EndsAt}
use Rattle.wc_demux.specs.Parts.{Part, parts_in}
use Rattle.wc_demux.specs.declared.flac.Flac.{Flac}

-- ---- the head: a metadata block has a byte, of which the bit 128 marks the last block, and 24 bits for its length

abbrev pub block_size : List ℕ → ℕ
block_size block = 4 + big_number 3 (drop 1 block)

-- the blocks from a place on
abbrev pub blocks_from : List ℕ → ℕ → List Part
blocks_from bytes at = parts_in block_size 0 at (drop at bytes)

-- the place behind the last block; a fault at the first block that is cut, in its head or behind it
abbrev pub place_behind : ℕ → List Part → Result ℕ DemuxFault
place_behind end [] = Err (fault.BadFlac end)
place_behind end (block ∷ blocks) =
    if nat_lt (length block.bytes) (block_size block.bytes) then Err (fault.BadFlac block.at)
    else if nat_le 128 (slice_index block.bytes 0) then Ok (block.at + block_size block.bytes)
    else place_behind end blocks

abbrev pub with_info : StreamInfo → Result ℕ DemuxFault → Result (StreamInfo × ℕ) DemuxFault
with_info info (Ok place) = Ok (info, place)
with_info info (Err e) = Err e

abbrev pub head_by : List ℕ → Option StreamInfo → Result (StreamInfo × ℕ) DemuxFault
head_by bytes None = Err (fault.BadFlac 0)
head_by bytes (Some info) = with_info info (place_behind (length bytes) (blocks_from bytes 4))

-- the description of the stream, and the place of its first frame
abbrev pub head_of : List ℕ → Result (StreamInfo × ℕ) DemuxFault
head_of bytes = head_by bytes (streaminfo_of bytes)

-- ---- the frames

-- the chunk of a frame of so many samples a channel, before which there are so many, by its bytes
abbrev pub frame_chunk : StreamInfo → ℕ → ℕ → List ℕ → Chunk
frame_chunk info before block bytes = record {
  key = true;
  timestamp = pos (min (before * 1000000 / info.rate) (2 ^ 63 - 1));
  duration = Some (block * 1000000 / info.rate);
  bytes = bytes;
}

-- a chunk is a frame of the stream, of so many samples a channel, before which there are so many
pub record IsFrameChunk (info : StreamInfo) (before block : ℕ) (chunk : Chunk) : Type 0 where
  pub frame : FrameHeader × List ℤ
  pub is_frame : frame_of info chunk.bytes ≡ Some frame
  pub is_block : block ≡ frame.0.block
  pub is_chunk : chunk ≡ frame_chunk info before block chunk.bytes

-- the bytes begin with frames, a chunk each, one after the other, and `rest` follows them; so many samples a channel are
-- before them, and so many with them
abbrev pub BeginsWithFrames : StreamInfo → ℕ → ℕ → List Chunk → List ℕ → List ℕ → Type 0
BeginsWithFrames info before after [] bytes rest = (before ≡ after) × (bytes ≡ rest)
BeginsWithFrames info before after (chunk ∷ chunks) bytes rest =
    (block : ℕ) × (middle : List ℕ) × IsFrameChunk info before block chunk × (bytes ≡ chunk.bytes ++ middle)
    × BeginsWithFrames info (before + block) after chunks middle rest

-- the bytes are the file of this stream in these chunks
pub record IsFlacFile (flac : Flac) (bytes : List ℕ) : Type 0 where
  pub place : ℕ
  pub head : head_of bytes ≡ Ok (flac.info, place)
  pub content : BeginsWithFrames flac.info 0 flac.frames flac.chunks (drop place bytes) []

-- bytes behind a head and frames, which begin with no frame; they stand at a place of their file
pub record FollowsFrames (bytes : List ℕ) (at : ℕ) : Type 0 where
  pub info : StreamInfo
  pub place : ℕ
  pub head : head_of bytes ≡ Ok (info, place)
  pub after : ℕ
  pub chunks : List Chunk
  pub rest : List ℕ
  pub before : BeginsWithFrames info 0 after chunks (drop place bytes) rest
  pub some : 0 < length rest
  pub is_place : at + length rest ≡ length bytes
  pub none : EndsAt info rest None

-- the first fault of bytes that are no FLAC file: that of their head, or where a frame lacks
abbrev pub IsFlacFault : List ℕ → DemuxFault → Type 0
IsFlacFault bytes (fault.BadFlac at) = (head_of bytes ≡ Err (fault.BadFlac at)) ⊎ FollowsFrames bytes at
IsFlacFault bytes _ = ⊥
