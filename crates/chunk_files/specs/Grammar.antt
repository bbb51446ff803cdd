-- The grammar of a chunk file (our choice): the mark `WCC1`, and then the chunks, to the end of the file.
use Rattle.std.specs.Prelude.{◌≡◌, ◌<◌, ◌+◌, ◌⊎◌, ◌==◌, ℕ, nat_lt, List, [], ◌∷◌, length, drop, codes, slice_index, Option, Some, None, if◌then◌else◌}
use Rattle.byteorder.specs.Endian.{big_number}
use Rattle.wc_chunk.specs.declared.chunk.Chunk.{Chunk}
use Rattle.chunk_files.specs.declared.fault.ChunkFault.{ChunkFault}
use Rattle.chunk_files.specs.declared.fault.ChunkFault.TheVariants as fault
use Rattle.chunk_files.specs.Layout.{BeginsWith}

-- how many bytes agree with a mark, up to the first that does not
abbrev pub agreeing : List ℕ → List ℕ → ℕ
agreeing [] bytes = 0
agreeing (m ∷ ms) [] = 0
agreeing (m ∷ ms) (b ∷ bs) = if b == m then agreeing ms bs + 1 else 0

-- how many of the mark's four bytes begin a file
abbrev pub marked : List ℕ → ℕ
marked bytes = agreeing (codes "WCC1") bytes

-- the bytes begin with these chunks, one after the other, and `rest` follows them
abbrev pub BeginsWithAll : List Chunk → List ℕ → List ℕ → Type 0
BeginsWithAll [] bytes rest = bytes ≡ rest
BeginsWithAll (chunk ∷ chunks) bytes rest = (middle : List ℕ) × BeginsWith chunk bytes middle × BeginsWithAll chunks middle rest

-- the bytes are the file of these chunks
pub record IsChunkFile (chunks : List Chunk) (bytes : List ℕ) : Type 0 where
  pub mark : marked bytes ≡ 4
  pub content : BeginsWithAll chunks (drop 4 bytes) []

-- the first fault of the chunk that begins `bytes`, which stand at `place` in their file: another byte of its type or before
-- its duration, or the first field in which the bytes end; none also where there are no bytes
abbrev pub chunk_fault : ℕ → List ℕ → Option ChunkFault
chunk_fault place bytes =
    if length bytes == 0 then None
    else if nat_lt 1 (slice_index bytes 0) then Some (fault.BadKind place (slice_index bytes 0))
    else if nat_lt (length bytes) 9 then Some (fault.Short (place + 1))
    else if nat_lt (length bytes) 10 then Some (fault.Short (place + 9))
    else if nat_lt 1 (slice_index bytes 9) then Some (fault.BadKind (place + 9) (slice_index bytes 9))
    else if nat_lt (length bytes) 18 then Some (fault.Short (place + 10))
    else if nat_lt (length bytes) 22 then Some (fault.Short (place + 18))
    else if nat_lt (length bytes) (22 + big_number 4 (drop 18 bytes)) then Some (fault.Short (place + 22))
    else None

-- a fault that follows a whole mark and whole chunks
pub record FollowsChunks (bytes : List ℕ) (found : ChunkFault) : Type 0 where
  pub mark : marked bytes ≡ 4
  pub chunks : List Chunk
  pub rest : List ℕ
  pub before : BeginsWithAll chunks (drop 4 bytes) rest
  pub place : ℕ
  pub is_place : place + length rest ≡ length bytes
  pub fault : chunk_fault place rest ≡ Some found

-- the first fault of bytes that are no chunk file; where the mark has it, its place is the count of the bytes that agree
abbrev pub IsFirstFault : List ℕ → ChunkFault → Type 0
IsFirstFault bytes (fault.BadMark at) = (at < 4) × (at ≡ marked bytes)
IsFirstFault bytes (fault.BadKind at found) = FollowsChunks bytes (fault.BadKind at found)
IsFirstFault bytes (fault.Short at) = FollowsChunks bytes (fault.Short at)

-- the bytes are a chunk file, or have a first fault
abbrev pub IsRead : List ℕ → Type 0
IsRead bytes = ((chunks : List Chunk) × IsChunkFile chunks bytes) ⊎ ((e : ChunkFault) × IsFirstFault bytes e)
