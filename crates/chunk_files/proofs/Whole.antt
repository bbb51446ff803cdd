-- Each list of bytes is a chunk file or has a first fault.
use Rattle.std.proofs.Common.{◌≡◌, ◌≤◌, ◌+◌, ◌==◌, inl, inr, ⊎_elim, ℕ, zero, suc, false, List, [], ◌∷◌, ◌++◌, length, drop, take, slice_index, Option, Some, None, codes, refl, sym, arith, length-drop}
use Rattle.std.specs.Int.{cast_signed, w64}
use Rattle.std.proofs.lemmas.Bool.{cases_lt}
use Rattle.std.proofs.lemmas.Bool.Decides.{nat_tests}
use Rattle.std.proofs.lemmas.List.{take-append-drop, length-take-le}
use Rattle.byteorder.specs.Endian.{big_number}
use Rattle.wc_chunk.specs.declared.chunk.Chunk.{Chunk}
use Rattle.chunk_files.specs.declared.fault.ChunkFault.{ChunkFault}
use Rattle.chunk_files.specs.Layout.{IsDuration, BeginsWith}
use Rattle.chunk_files.specs.Grammar.{chunk_fault, marked, BeginsWithAll, IsRead}
use Rattle.chunk_files.proofs.{Chunks.one_more_chunk, Chunks.begun_length, Faults.IsWhole, Faults.type_back, Faults.fault_here, Faults.agreeing_within, Faults.marks_agree}

-- ---- the chunk that begins bytes in which there is no fault

no_fault : (place : ℕ) (bytes : List ℕ) → (length bytes == 0) ≡ false → chunk_fault place bytes ≡ None → IsWhole bytes
no_fault place bytes some h = grind (arith, nat_tests, some, h)

duration_by : (bytes : List ℕ) (n : ℕ) → slice_index bytes 9 ≡ n → n ≤ 1 → (d : Option ℕ) × IsDuration d bytes
duration_by bytes zero is h = (None, is)
duration_by bytes (suc n) is h = (Some (big_number 8 (drop 10 bytes)), (omega arith, refl))

pub chunk_of : (bytes : List ℕ) → IsWhole bytes → (chunk : Chunk) × (rest : List ℕ) × BeginsWith chunk bytes rest
chunk_of bytes h =
    let duration = duration_by bytes (slice_index bytes 9) refl h.flag in
    let count = big_number 4 (drop 18 bytes) in
    let content = take count (drop 22 bytes) in
    let rest = drop count (drop 22 bytes) in (
      record { key = slice_index bytes 0 == 0; timestamp = cast_signed w64 (big_number 8 (drop 1 bytes)); duration = duration.0; bytes = content },
      rest,
      record {
        header = h.header;
        chunk_type = type_back (slice_index bytes 0) h.chunk_type;
        timestamp = refl;
        duration = duration.1;
        count = length-take-le count (drop 22 bytes) (omega (arith, h.content, h.header, length-drop 22 bytes));
        content = sym (take-append-drop count (drop 22 bytes));
      },
    )

-- ---- a file from a place on

read_on : (n : ℕ) (bytes : List ℕ) (chunks : List Chunk) (rest : List ℕ) (place : ℕ) → length rest ≤ n → marked bytes ≡ 4 → BeginsWithAll chunks (drop 4 bytes) rest → place + length rest ≡ length bytes → IsRead bytes
read_on n bytes chunks [] place le mark before is = inl (chunks, record { mark = mark; content = before })
read_on zero bytes chunks (x ∷ xs) place le mark before is = absurd (omega arith)
read_on (suc n) bytes chunks (x ∷ xs) place le mark before is =
    by_fault (chunk_fault place (x ∷ xs)) refl
    (λ chunk more begun.
    let lengths = begun_length chunk (x ∷ xs) more begun in
    read_on n bytes (chunks ++ chunk ∷ []) more (place + (22 + length chunk.bytes)) (omega (arith, le, lengths)) mark
    (one_more_chunk chunks chunk (drop 4 bytes) (x ∷ xs) more before begun) (omega (arith, is, lengths)))
  where
    by_fault : (o : Option ChunkFault) → chunk_fault place (x ∷ xs) ≡ o → ((chunk : Chunk) (more : List ℕ) → BeginsWith chunk (x ∷ xs) more → IsRead bytes) → IsRead bytes
    by_fault (Some e) h next = inr (e, fault_here bytes chunks (x ∷ xs) place e mark before is h)
    by_fault None h next = let chunk = chunk_of (x ∷ xs) (no_fault place (x ∷ xs) (grind (arith, nat_tests)) h) in next chunk.0 chunk.1 chunk.2

-- ---- the mark

pub each_is_read : (bytes : List ℕ) → IsRead bytes
each_is_read bytes =
    let long : marked bytes ≤ length bytes = (agreeing_within (codes "WCC1") bytes).1 in
    ⊎_elim (λ short. inr (ChunkFault.BadMark (marked bytes), (short, refl)))
    (λ least. read_on (length bytes) bytes [] (drop 4 bytes) 4 (omega (arith, length-drop 4 bytes)) (marks_agree bytes least) refl (omega (arith, length-drop 4 bytes)))
    (cases_lt (marked bytes) 4)
