-- The layout of a chunk in a chunk file (our choice): a byte for its type, the timestamp in 8 bytes, a byte that tells
-- whether a duration follows, the duration in 8 bytes, the count of the chunk's own bytes in 4, and these bytes. Numbers
-- are big-endian, and the timestamp is signed.
use Rattle.std.specs.Prelude.{◌≡◌, ◌≤◌, ℕ, Bool, List, length, drop, ◌++◌, slice_index, Option, Some, None, if◌then◌else◌}
use Rattle.std.specs.Int.{cast_signed, w64}
use Rattle.byteorder.specs.Endian.{big_number}
use Rattle.wc_chunk.specs.declared.chunk.Chunk.{Chunk}

-- the byte of a chunk's type: 0 for `key`, and 1 for `delta`
abbrev pub type_byte : Bool → ℕ
type_byte key = if key then 0 else 1

-- a header has this duration: after the byte 0 none, whatever its field holds, and after the byte 1 the one of the field
abbrev pub IsDuration : Option ℕ → List ℕ → Type 0
IsDuration None header = slice_index header 9 ≡ 0
IsDuration (Some duration) header = (slice_index header 9 ≡ 1) × (duration ≡ big_number 8 (drop 10 header))

-- the bytes begin with the chunk, and `rest` follows it
pub record BeginsWith (chunk : Chunk) (bytes rest : List ℕ) : Type 0 where
  pub header : 22 ≤ length bytes
  pub chunk_type : slice_index bytes 0 ≡ type_byte chunk.key
  pub timestamp : chunk.timestamp ≡ cast_signed w64 (big_number 8 (drop 1 bytes))
  pub duration : IsDuration chunk.duration bytes
  pub count : length chunk.bytes ≡ big_number 4 (drop 18 bytes)
  pub content : drop 22 bytes ≡ chunk.bytes ++ rest
