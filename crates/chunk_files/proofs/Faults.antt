-- Bytes that begin with a chunk have no fault there.
use Rattle.std.proofs.Common.{◌≡◌, ◌≤◌, ◌+◌, ◌==◌, ℕ, List, ◌∷◌, ◌++◌, length, drop, take, slice_index, Some, None, codes, sym, arith, length-drop}
use Rattle.std.proofs.lemmas.Bool.Decides.{nat_tests}
use Rattle.std.proofs.lemmas.List.{take-append-drop, drop-drop, length-take}
use Rattle.byteorder.specs.Endian.{big_number}
use Rattle.wc_chunk.specs.declared.chunk.Chunk.{Chunk}
use Rattle.chunk_files.specs.declared.fault.ChunkFault.{ChunkFault}
use Rattle.chunk_files.specs.Layout.{type_byte, BeginsWith}
use Rattle.chunk_files.specs.Grammar.{agreeing, chunk_fault, marked, BeginsWithAll, IsFirstFault}
use Rattle.chunk_files.proofs.Chunks.{IsEnd, begun_length}

-- the fields of a chunk are whole, and its two bytes with a meaning are 0 or 1
pub record IsWhole (bytes : List ℕ) : Type 0 where
  pub header : 22 ≤ length bytes
  pub chunk_type : slice_index bytes 0 ≤ 1
  pub flag : slice_index bytes 9 ≤ 1
  pub content : 22 + big_number 4 (drop 18 bytes) ≤ length bytes

pub begun_is_whole : (chunk : Chunk) (bytes rest : List ℕ) → BeginsWith chunk bytes rest → IsWhole bytes
begun_is_whole chunk bytes rest p = grind (arith, p.header, p.chunk_type, p.duration, p.count, begun_length chunk bytes rest p)

-- the tests of a chunk's fault, one after the other
pub whole_has_no_fault : (place : ℕ) (bytes : List ℕ) → IsWhole bytes → chunk_fault place bytes ≡ None
whole_has_no_fault place bytes h = grind (arith, nat_tests, h.header, h.chunk_type, h.flag, h.content)

pub fault_ends : (place : ℕ) (bytes : List ℕ) (found : ChunkFault) → chunk_fault place bytes ≡ Some found → IsEnd bytes
fault_ends place bytes found e = record { none = λ chunk rest p. let none = whole_has_no_fault place bytes (begun_is_whole chunk bytes rest p) in cc }

-- a chunk's fault is none of the mark
no_mark_fault : (place : ℕ) (bytes : List ℕ) (at : ℕ) → chunk_fault place bytes ≡ Some (ChunkFault.BadMark at) → ⊥
no_mark_fault place bytes at h = grind (arith, nat_tests, h)

pub fault_here : (bytes : List ℕ) (chunks : List Chunk) (rest : List ℕ) (place : ℕ) (e : ChunkFault) → marked bytes ≡ 4 → BeginsWithAll chunks (drop 4 bytes) rest → place + length rest ≡ length bytes → chunk_fault place rest ≡ Some e → IsFirstFault bytes e
fault_here bytes chunks rest place (ChunkFault.BadMark at) mark before is h = absurd (no_mark_fault place rest at h)
fault_here bytes chunks rest place _ mark before is h = record { mark = mark; chunks = chunks; rest = rest; before = before; place = place; is_place = is; fault = h }

pub type_back : (n : ℕ) → n ≤ 1 → n ≡ type_byte (n == 0)
type_back n h = grind (arith, nat_tests, h)

-- the bytes that stand behind a header of 22 bytes
pub content_of : (bytes content : List ℕ) (n : ℕ) → content ≡ take n (drop 22 bytes) → 22 + n ≤ length bytes → (length content ≡ n) × (drop 22 bytes ≡ content ++ drop (22 + length content) bytes)
content_of bytes content n is within =
    let count : length content ≡ n = rw is (omega (arith, length-take n (drop 22 bytes), length-drop 22 bytes)) in
    (count, rw (count, is, ← drop-drop n 22 bytes) (sym (take-append-drop n (drop 22 bytes))))

pub agreeing_within : (ms bs : List ℕ) → (agreeing ms bs ≤ length ms) × (agreeing ms bs ≤ length bs)
agreeing_within (m ∷ ms) (b ∷ bs) = grind (arith, agreeing_within ms bs)
agreeing_within _ _ = (omega arith, omega arith)

-- no more bytes agree than the mark has
pub marks_agree : (bytes : List ℕ) → 4 ≤ marked bytes → marked bytes ≡ 4
marks_agree bytes h = let within : marked bytes ≤ 4 = (agreeing_within (codes "WCC1") bytes).0 in omega arith
