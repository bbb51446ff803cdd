-- Bytes are the file of one list of chunks, or have one first fault.
use Rattle.std.proofs.Common.{Result, IfOk, IfErr, IsErr, ◌≡◌, ℕ, List, [], drop, arith}
use Rattle.wc_chunk.specs.declared.chunk.Chunk.{Chunk}
use Rattle.chunk_files.specs.{declared.fault.ChunkFault.ChunkFault, declared.fault.Stop.Stop, Stops.IfFault}
use Rattle.chunk_files.specs.Grammar.{IsChunkFile, FollowsChunks, IsFirstFault}
use Rattle.chunk_files.proofs.{Chunks.empty_ends, Chunks.same_chunks, Faults.fault_ends}

pub one_list : (bytes : List ℕ) (cs ds : List Chunk) → IsChunkFile cs bytes → IsChunkFile ds bytes → cs ≡ ds
one_list bytes cs ds p q = (same_chunks cs ds (drop 4 bytes) [] [] p.content empty_ends q.content empty_ends).0

one_follows : (bytes : List ℕ) (e f : ChunkFault) → FollowsChunks bytes e → FollowsChunks bytes f → e ≡ f
one_follows bytes e f p q =
    grind (arith, p, q, same_chunks p.chunks q.chunks (drop 4 bytes) p.rest q.rest p.before (fault_ends p.place p.rest e p.fault) q.before (fault_ends q.place q.rest f q.fault))

pub one_fault : (bytes : List ℕ) (e f : ChunkFault) → IsFirstFault bytes e → IsFirstFault bytes f → e ≡ f
one_fault bytes e f p q = grind (arith, p, q, one_follows bytes e f)

not_following : (bytes : List ℕ) (cs : List Chunk) (e : ChunkFault) → IsChunkFile cs bytes → FollowsChunks bytes e → ⊥
not_following bytes cs e p q =
    grind (arith, q.fault, same_chunks cs q.chunks (drop 4 bytes) [] q.rest p.content empty_ends q.before (fault_ends q.place q.rest e q.fault))

pub not_both : (bytes : List ℕ) (cs : List Chunk) (e : ChunkFault) → IsChunkFile cs bytes → IsFirstFault bytes e → ⊥
not_both bytes cs e p q = grind (arith, p.mark, q, not_following bytes cs e p)

-- a fault that is there is the one that is told, and bytes with a fault are refused
pub told : {A : Type 0} → (r : Result A (Stop ChunkFault)) (P Q : ChunkFault → Type 0) → ((f : ChunkFault) → P f → Q f) → IfErr r (λ e. IfFault e P) → IfErr r (λ e. IfFault e Q)
told r P Q each h = grind (arith, each, h)

pub refused : {A : Type 0} → (r : Result A (Stop ChunkFault)) (P : A → Type 0) → ((v : A) → P v → ⊥) → IfOk r P → IsErr r
refused r P none h = grind (arith, none, h)
