-- Bytes begin with one list of frames at most, up to a place where none begins.
use Rattle.std.proofs.Common.{◌≡◌, ℕ, ℤ, ◌+◌, ◌<◌, ◌≤◌, List, [], ◌∷◌, ◌++◌, Option, Some, None, length, take, drop, refl, sym, ap, subst, ◌∙◌, arith, append_assoc, take-append-drop, length-append, length-take, length-drop}
use Rattle.std.proofs.lemmas.List.{drop-drop}
use Rattle.std.proofs.Math.Seq.{take-append_seam, drop-append_seam}
use Rattle.wc_chunk.specs.declared.chunk.Chunk.{Chunk}
use Rattle.wc_config.specs.declared.stream_info.StreamInfo.{StreamInfo}
use Rattle.flac_definitions.specs.Frame.{frame_of}
use Rattle.flac_definitions.specs.declared.header.FrameHeader.{FrameHeader}
use Rattle.flac_decode.specs.FrameEnd.{EndsAt, IsFront, FramesAreFound}
use Rattle.flac_decode.specs.declared.end.FrontFrame.{FrontFrame}
use Rattle.wc_demux.specs.Wav.{joined}
use Rattle.wc_demux.specs.Flac.{frame_chunk, IsFrameChunk, BeginsWithFrames}

-- one more frame
pub one_more_frame : (info : StreamInfo) (chunks : List Chunk) (chunk : Chunk) (n m block : ℕ) (bytes middle rest : List ℕ)
    → BeginsWithFrames info n m chunks bytes middle → IsFrameChunk info m block chunk → middle ≡ chunk.bytes ++ rest
    → BeginsWithFrames info n (m + block) (chunks ++ chunk ∷ []) bytes rest
one_more_frame info [] chunk n m block bytes middle rest p q e =
    (block, rest, subst (λ k. IsFrameChunk info k block chunk) (sym p.0) q, p.1 ∙ e, (ap (λ k. k + block) p.0, refl))
one_more_frame info (c ∷ chunks) chunk n m block bytes middle rest p q e =
    (p.0, p.1, p.2, p.3, one_more_frame info chunks chunk (n + p.0) m block p.1 middle rest p.4 q e)

-- ---- one list of frames

-- no frame begins the bytes
pub record IsEnd (info : StreamInfo) (bytes : List ℕ) : Type 0 where
  pub none : (front rest : List ℕ) (f : FrameHeader × List ℤ) → bytes ≡ front ++ rest → frame_of info front ≡ Some f → ⊥

pub empty_ends : (laws : FramesAreFound) (info : StreamInfo) → IsEnd info []
empty_ends laws info = record { none = λ front rest f e h. absurd (omega (arith, laws.some info front f h, ap length e, length-append front rest)) }

front_fits : (bytes front rest : List ℕ) → bytes ≡ front ++ rest → length front ≤ length bytes
front_fits bytes front rest e = omega (arith, ap length e, length-append front rest)

front_is : (bytes front rest : List ℕ) → bytes ≡ front ++ rest → take (length front) bytes ≡ front
front_is bytes front rest e = ap (λ (xs : List ℕ). take (length front) xs) e ∙ take-append_seam front rest

pub none_ends : (info : StreamInfo) (bytes : List ℕ) → EndsAt info bytes None → IsEnd info bytes
none_ends info bytes h = record {
  none = λ front rest f e is. h (length front) f (front_fits bytes front rest e) (ap (λ (xs : List ℕ). frame_of info xs) (front_is bytes front rest e) ∙ is);
}

-- what two frames in front of the same bytes have in common
record AreSame (a b : Chunk) (i j : ℕ) (r s : List ℕ) : Type 0 where
  chunk : a ≡ b
  block : i ≡ j
  rest : r ≡ s

same_parts : (a b r s : List ℕ) → length a ≡ length b → a ++ r ≡ b ++ s → (a ≡ b) × (r ≡ s)
same_parts a b r s n e =
    (sym (take-append_seam a r) ∙ rw (e, n) (take-append_seam b s), sym (drop-append_seam a r) ∙ rw (e, n) (drop-append_seam b s))

same_frame : (f g : FrameHeader × List ℤ) (o p : Option (FrameHeader × List ℤ)) → o ≡ Some f → p ≡ Some g → o ≡ p → f ≡ g
same_frame f g o p e h s = let k : Some f ≡ Some g = sym e ∙ s ∙ h in cc

same_chunk : (laws : FramesAreFound) (info : StreamInfo) (n i j : ℕ) (a b : Chunk) (bytes r s : List ℕ) → IsFrameChunk info n i a → IsFrameChunk info n j b → bytes ≡ a.bytes ++ r → bytes ≡ b.bytes ++ s → AreSame a b i j r s
same_chunk laws info n i j a b bytes r s p q d e =
    let frame = λ (xs : List ℕ). frame_of info xs in
    let long = laws.once info bytes (length a.bytes) (length b.bytes) p.frame q.frame (front_fits bytes a.bytes r d) (front_fits bytes b.bytes s e) (ap frame (front_is bytes a.bytes r d) ∙ p.is_frame) (ap frame (front_is bytes b.bytes s e) ∙ q.is_frame) in
    let both = same_parts a.bytes b.bytes r s long (sym d ∙ e) in
    let f = same_frame p.frame q.frame (frame a.bytes) (frame b.bytes) p.is_frame q.is_frame (ap frame both.0) in
    let block : i ≡ j = p.is_block ∙ ap (λ (x : FrameHeader × List ℤ). x.0.block) f ∙ sym q.is_block in
    record { chunk = p.is_chunk ∙ ap (λ k. frame_chunk info n k a.bytes) block ∙ ap (λ (xs : List ℕ). frame_chunk info n j xs) both.0 ∙ sym q.is_chunk; block = block; rest = both.1 }

-- the same lists of chunks, with the same frames and rests
pub record AreSameLists (a b : List Chunk) (i j : ℕ) (r s : List ℕ) : Type 0 where
  pub chunks : a ≡ b
  pub after : i ≡ j
  pub rest : r ≡ s

pub same_chunks : (laws : FramesAreFound) (info : StreamInfo) (cs ds : List Chunk) (n i j : ℕ) (bytes r s : List ℕ)
    → BeginsWithFrames info n i cs bytes r → IsEnd info r → BeginsWithFrames info n j ds bytes s → IsEnd info s → AreSameLists cs ds i j r s
same_chunks laws info [] [] n i j bytes r s p x q y = record { chunks = refl; after = sym p.0 ∙ q.0; rest = sym p.1 ∙ q.1 }
same_chunks laws info [] (b ∷ ds) n i j bytes r s p x q y = absurd (x.none b.bytes q.1 q.2.frame (sym p.1 ∙ q.3) q.2.is_frame)
same_chunks laws info (a ∷ cs) [] n i j bytes r s p x q y = absurd (y.none a.bytes p.1 p.2.frame (sym q.1 ∙ p.3) p.2.is_frame)
same_chunks laws info (a ∷ cs) (b ∷ ds) n i j bytes r s p x q y =
    let first = same_chunk laws info n p.0 q.0 a b bytes p.1 q.1 p.2 q.2 p.3 q.3 in
    let B : ℕ → List ℕ → Type 0 = λ k xs. BeginsWithFrames info (n + k) j ds xs s in
    let moved : B p.0 p.1 = subst (λ k. B k p.1) (sym first.block) (subst (λ (xs : List ℕ). B q.0 xs) (sym first.rest) q.4) in
    let more = same_chunks laws info cs ds (n + p.0) i j p.1 r s p.4 x moved y in
    record { chunks = grind (arith, first.chunk, more.chunks); after = more.after; rest = more.rest }

-- ---- the chunks are the bytes

pub frames_joined : (info : StreamInfo) (chunks : List Chunk) (n m : ℕ) (bytes rest : List ℕ) → BeginsWithFrames info n m chunks bytes rest → joined chunks ++ rest ≡ bytes
frames_joined info [] n m bytes rest p = sym p.1
frames_joined info (c ∷ chunks) n m bytes rest p =
    append_assoc c.bytes (joined chunks) rest ∙ ap (λ (xs : List ℕ). c.bytes ++ xs) (frames_joined info chunks (n + p.0) m p.1 rest p.4) ∙ sym p.3

-- one frame more was found and made a chunk
pub record IsMore (info : StreamInfo) (bytes : List ℕ) (place at before : ℕ) (front : FrontFrame) (chunks : List Chunk) : Type 0 where
  pub within : at + front.size ≤ length bytes
  pub some : 1 ≤ front.size
  pub short : front.block < 65536
  pub begins : BeginsWithFrames info 0 (before + front.block) chunks (drop place bytes) (drop (at + front.size) bytes)

pub read_more : (laws : FramesAreFound) (info : StreamInfo) (chunks : List Chunk) (chunk : Chunk) (bytes rest : List ℕ) (place at before : ℕ) (front : FrontFrame)
    → rest ≡ drop at bytes → at ≤ length bytes → IsFront info rest (Some front) → chunk ≡ frame_chunk info before front.block (take front.size rest)
    → BeginsWithFrames info 0 before chunks (drop place bytes) (drop at bytes) → IsMore info bytes place at before front (chunks ++ chunk ∷ [])
read_more laws info chunks chunk bytes rest place at before front is fits found made begins =
    let content = take front.size rest in
    let f = found.1.0 in
    let content_is : chunk.bytes ≡ content = ap (λ (x : Chunk). x.bytes) made in
    let frame : IsFrameChunk info before front.block chunk = record {
      frame = f;
      is_frame = ap (λ (xs : List ℕ). frame_of info xs) content_is ∙ found.1.1;
      is_block = found.1.2;
      is_chunk = made ∙ ap (λ (xs : List ℕ). frame_chunk info before front.block xs) (sym content_is);
    } in
    let split : drop at bytes ≡ chunk.bytes ++ drop front.size rest =
    sym is ∙ sym (take-append-drop front.size rest) ∙ ap (λ (xs : List ℕ). xs ++ drop front.size rest) (sym content_is) in
    let behind : drop front.size rest ≡ drop (at + front.size) bytes = ap (drop front.size) is ∙ drop-drop front.size at bytes in
    let more = one_more_frame info chunks chunk 0 before front.block (drop place bytes) (drop at bytes) (drop front.size rest) begins frame split in
    record {
      within = omega (arith, found.0.0, ap length is, length-drop at bytes, fits);
      some = omega (arith, laws.some info content f found.1.1, length-take front.size rest);
      short = omega (arith, laws.block info content f found.1.1, found.1.2);
      begins = subst (λ (xs : List ℕ). BeginsWithFrames info 0 (before + front.block) (chunks ++ chunk ∷ []) (drop place bytes) xs) behind more;
    }
