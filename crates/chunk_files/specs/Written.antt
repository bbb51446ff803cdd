-- The chunk file that is written for chunks: the field of an absent duration is 0.
use Rattle.std.specs.Prelude.{ℕ, pos, true, List, [], ◌∷◌, length, ◌++◌, Option, Some, None, codes, flat_map}
use Rattle.std.specs.Int.{cast_unsigned, w64}
use Rattle.byteorder.specs.Endian.{big_bytes}
use Rattle.wc_chunk.specs.declared.chunk.Chunk.{Chunk}
use Rattle.chunk_files.specs.Layout.{type_byte}

abbrev pub written_duration : Option ℕ → List ℕ
written_duration None = 0 ∷ big_bytes 8 0
written_duration (Some duration) = 1 ∷ big_bytes 8 duration

abbrev pub written_chunk : Chunk → List ℕ
written_chunk chunk =
    type_byte chunk.key ∷ (big_bytes 8 (cast_unsigned w64 chunk.timestamp) ++ (written_duration chunk.duration ++ (big_bytes 4 (length chunk.bytes) ++ chunk.bytes)))

abbrev pub written : List Chunk → List ℕ
written chunks = codes "WCC1" ++ flat_map written_chunk chunks

-- the file of one empty key chunk at the timestamp 0: 26 bytes
abbrev pub one_empty_chunk : List ℕ
one_empty_chunk = written (record { key = true; timestamp = pos 0; duration = None; bytes = [] } ∷ [])
