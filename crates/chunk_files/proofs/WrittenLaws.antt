-- What is written for a chunk begins with it.
use Rattle.std.proofs.Common.{◌≡◌, ◌<◌, ◌+◌, ◌^◌, ℕ, Bool, List, [], ◌∷◌, ◌++◌, length, take, get_or, Option, Some, None, IfSome, ℤ, w64, SFits, to_z, of_z, refl, sym, arith, append_assoc}
use Rattle.std.proofs.lemmas.List.{take_more, append-nil}
use Rattle.std.proofs.lemmas.Grind.{flat_map-append}
use Rattle.std.specs.List.{flat_map}
use Rattle.std.specs.Int.{cast_unsigned}
use Rattle.std.proofs.Math.Facts.{to_z-of_z, Fits-of_z, Fits-lt-pow}
use Rattle.byteorder.specs.{Numbers.big_number-reads_back, Endian.big_number, Endian.big_bytes}
use Rattle.wc_chunk.specs.declared.chunk.Chunk.{Chunk}
use Rattle.chunk_files.specs.{Layout.BeginsWith, Layout.IsDuration, Layout.type_byte, Grammar.BeginsWithAll, Grammar.IsChunkFile, Written.written, Written.written_chunk}
use Rattle.chunk_files.proofs.Chunks.{one_more_chunk}

timestamp_back : (t : ℤ) (rest : List ℕ) → SFits w64 t → t ≡ to_z w64 (big_number 8 (big_bytes 8 (of_z w64 t) ++ rest))
timestamp_back t rest fits = rw (big_number-reads_back 8 (of_z w64 t) rest (Fits-lt-pow (Fits-of_z fits))) (sym (to_z-of_z fits))

-- a chunk with any field of its duration
begins : (key : Bool) (t : ℤ) (duration : Option ℕ) (flag d : ℕ) (bytes rest : List ℕ) → SFits w64 t → length bytes < 2 ^ 32
    → let whole : List ℕ = (type_byte key ∷ (big_bytes 8 (cast_unsigned w64 t) ++ ((flag ∷ big_bytes 8 d) ++ (big_bytes 4 (length bytes) ++ bytes)))) ++ rest in IsDuration duration whole
    → BeginsWith (record { key = key; timestamp = t; duration = duration; bytes = bytes }) whole rest
begins key t duration flag d bytes rest fits short is = record {
  header = omega arith;
  chunk_type = refl;
  timestamp = timestamp_back t (((flag ∷ big_bytes 8 d) ++ (big_bytes 4 (length bytes) ++ bytes)) ++ rest) fits;
  duration = is;
  count = sym (big_number-reads_back 4 (length bytes) (bytes ++ rest) short);
  content = refl;
}

pub written_begins : (key : Bool) (t : ℤ) (duration : Option ℕ) (bytes rest : List ℕ) → SFits w64 t → IfSome duration (λ d. d < 2 ^ 64) → length bytes < 2 ^ 32 → let chunk : Chunk = record { key = key; timestamp = t; duration = duration; bytes = bytes } in BeginsWith chunk (written_chunk chunk ++ rest) rest
written_begins key t None bytes rest fits small short = begins key t None 0 0 bytes rest fits short refl
written_begins key t (Some d) bytes rest fits small short =
    begins key t (Some d) 1 d bytes rest fits short (refl, sym (big_number-reads_back 8 d ((big_bytes 4 (length bytes) ++ bytes) ++ rest) small))

one_more : (cs : List Chunk) (chunk : Chunk) (rest : List ℕ) → flat_map written_chunk (cs ++ chunk ∷ []) ++ rest ≡ flat_map written_chunk cs ++ (written_chunk chunk ++ rest)
one_more cs chunk rest = simp (flat_map-append, append-nil, append_assoc)

-- what is written for the first chunks, and one more
pub written_more : (cs : List Chunk) (i : ℕ) (chunk : Chunk) → i < length cs → chunk ≡ get_or cs i chunk → written (take (i + 1) cs) ≡ written (take i cs) ++ written_chunk chunk
written_more cs i chunk lt is = rw (take_more cs i chunk lt, ← is) (simp (flat_map-append, append-nil))

-- the first chunks begin what is written for them, and one more
pub begun_more : (cs : List Chunk) (i : ℕ) (chunk : Chunk) → i < length cs → chunk ≡ get_or cs i chunk → ((rest : List ℕ) → BeginsWithAll (take i cs) (flat_map written_chunk (take i cs) ++ rest) rest) → ((rest : List ℕ) → BeginsWith chunk (written_chunk chunk ++ rest) rest) → (rest : List ℕ) → BeginsWithAll (take (i + 1) cs) (flat_map written_chunk (take (i + 1) cs) ++ rest) rest
begun_more cs i chunk lt is before here rest =
    rw (take_more cs i chunk lt, ← is, one_more (take i cs) chunk rest) (one_more_chunk (take i cs) chunk _ (written_chunk chunk ++ rest) rest (before (written_chunk chunk ++ rest)) (here rest))

-- what is written for chunks is their file
pub written_is_file : (cs : List Chunk) (bytes : List ℕ) → bytes ≡ written cs → ((rest : List ℕ) → BeginsWithAll cs (flat_map written_chunk cs ++ rest) rest) → IsChunkFile cs bytes
written_is_file cs bytes is begun = rw is (record { mark = refl; content = rw (append-nil (flat_map written_chunk cs)) at (begun []) })
