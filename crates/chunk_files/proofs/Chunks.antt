-- Bytes begin with one chunk at most, and so with one list of chunks up to a given end.
use Rattle.std.proofs.Common.{◌≡◌, ◌≤◌, ◌+◌, ℕ, List, [], ◌∷◌, ◌++◌, length, drop, refl, sym, ap, ◌∙◌, arith, length-drop, length-append}
use Rattle.std.proofs.lemmas.List.{drop-drop}
use Rattle.std.proofs.Math.Seq.{take-append_seam, drop-append_seam}
use Rattle.wc_chunk.specs.declared.chunk.Chunk.{Chunk}
use Rattle.chunk_files.specs.Layout.{BeginsWith}
use Rattle.chunk_files.specs.Grammar.{BeginsWithAll}

same_front : (a b r s : List ℕ) → length a ≡ length b → a ++ r ≡ b ++ s → (a ≡ b) × (r ≡ s)
same_front a b r s n e =
    (sym (take-append_seam a r) ∙ rw (e, n) (take-append_seam b s), sym (drop-append_seam a r) ∙ rw (e, n) (drop-append_seam b s))

pub same_chunk : (a b : Chunk) (bytes r s : List ℕ) → BeginsWith a bytes r → BeginsWith b bytes s → (a ≡ b) × (r ≡ s)
same_chunk a b bytes r s p q =
    let both = same_front a.bytes b.bytes r s (p.count ∙ sym q.count) (sym p.content ∙ q.content) in
    (grind (arith, p, q, both.0), both.1)

-- no chunk begins the bytes
pub record IsEnd (bytes : List ℕ) : Type 0 where
  pub none : (chunk : Chunk) (rest : List ℕ) → BeginsWith chunk bytes rest → ⊥

pub empty_ends : IsEnd []
empty_ends = record { none = λ chunk rest p. let few : 22 ≤ 0 = p.header in absurd (omega arith) }

pub same_chunks : (cs ds : List Chunk) (bytes r s : List ℕ) → BeginsWithAll cs bytes r → IsEnd r → BeginsWithAll ds bytes s → IsEnd s → (cs ≡ ds) × (r ≡ s)
same_chunks [] [] bytes r s p x q y = (refl, sym p ∙ q)
same_chunks [] (b ∷ ds) bytes r s p x q y = absurd (x.none b q.0 (rw p at q.1))
same_chunks (a ∷ cs) [] bytes r s p x q y = absurd (y.none a p.0 (rw q at p.1))
same_chunks (a ∷ cs) (b ∷ ds) bytes r s p x q y =
    let first = same_chunk a b bytes p.0 q.0 p.1 q.1 in
    grind (arith, first.0, same_chunks cs ds p.0 r s p.2 x (rw (← first.1) at q.2) y)

-- one more chunk
pub one_more_chunk : (cs : List Chunk) (chunk : Chunk) (bytes middle rest : List ℕ) → BeginsWithAll cs bytes middle → BeginsWith chunk middle rest → BeginsWithAll (cs ++ chunk ∷ []) bytes rest
one_more_chunk [] chunk bytes middle rest p q = (rest, rw p q, refl)
one_more_chunk (a ∷ cs) chunk bytes middle rest p q = (p.0, p.1, one_more_chunk cs chunk p.0 middle rest p.2 q)

-- a chunk is as long as its header and its own bytes
pub begun_length : (chunk : Chunk) (bytes rest : List ℕ) → BeginsWith chunk bytes rest → length bytes ≡ 22 + (length chunk.bytes + length rest)
begun_length chunk bytes rest p = let e = ap length p.content in omega (arith, p.header, length-drop 22 bytes, length-append chunk.bytes rest)

-- one more chunk, read at a place
pub read_more : (cs : List Chunk) (chunk : Chunk) (bytes tail : List ℕ) (at count : ℕ) → tail ≡ drop at bytes → count ≡ length chunk.bytes → BeginsWithAll cs (drop 4 bytes) (drop at bytes) → BeginsWith chunk tail (drop (22 + length chunk.bytes) tail) → (at + (22 + count) ≤ length bytes) × BeginsWithAll (cs ++ chunk ∷ []) (drop 4 bytes) (drop (at + (22 + count)) bytes)
read_more cs chunk bytes tail at count is same before begun =
    let next : BeginsWith chunk (drop at bytes) (drop (at + (22 + count)) bytes) = rw (is, ← same, drop-drop (22 + count) at bytes) at begun in
    (omega (arith, length-drop at bytes, same, begun_length chunk _ _ next), one_more_chunk cs chunk _ (drop at bytes) _ before next)
