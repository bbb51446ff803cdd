-- Native FLAC files: one reading, and its proof from what the reader found.
use Rattle.std.proofs.Common.{◌≡◌, inl, inr, ⊎_elim, ℕ, zero, suc, ◌+◌, ◌-◌, ◌<◌, ◌≤◌, Bool, true, false, cond, List, [], ◌∷◌, ◌++◌, Option, Some, None, Result, Ok, Err, length, take, drop, refl, sym, ap, subst, ◌∙◌, arith, append-nil, take-append-drop, length-take, length-drop}
use Rattle.std.specs.Prelude.{nat_lt, nat_le, slice_index}
use Rattle.chunk_files.specs.declared.fault.DemuxFault.{DemuxFault}
use Rattle.chunk_files.specs.declared.fault.DemuxFault.TheVariants as fault
use Rattle.chunk_files.specs.declared.fault.Stop.{Stop}
use Rattle.chunk_files.specs.declared.fault.Stop.TheVariants as stop
use Rattle.chunk_files.specs.Stops.{IfFault}
use Rattle.wc_chunk.specs.declared.chunk.Chunk.{Chunk}
use Rattle.wc_config.specs.declared.stream_info.StreamInfo.{StreamInfo}
use Rattle.wc_config.specs.Streams.{streaminfo_of}
use Rattle.flac_decode.specs.FrameEnd.{EndsAt, FramesAreFound}
use Rattle.wc_demux.specs.Wav.{joined}
use Rattle.wc_demux.specs.Flac.{head_of, head_by, with_info, place_behind, blocks_from, block_size, frame_chunk, IsFrameChunk, BeginsWithFrames, IsFlacFile, FollowsFrames, IsFlacFault}
use Rattle.wc_demux.specs.declared.flac.Flac.{Flac}
use Rattle.wc_demux.specs.Parts.{Part}
use Rattle.wc_demux.specs.Media.{IsFlacRead}
use Rattle.wc_demux.proofs.FrameLaws.{IsEnd, empty_ends, none_ends, same_chunks, frames_joined, one_more_frame}

module _ (laws : FramesAreFound) where
  same_head : (a b : StreamInfo × ℕ) (r : Result (StreamInfo × ℕ) DemuxFault) → r ≡ Ok a → r ≡ Ok b → a ≡ b
  same_head a b r p q = cc

  pub one_file : (bytes : List ℕ) (a b : Flac) → IsFlacFile a bytes → IsFlacFile b bytes → a ≡ b
  one_file bytes a b p q =
      let h = same_head (a.info, p.place) (b.info, q.place) (head_of bytes) p.head q.head in
      let moved = subst (λ (x : StreamInfo × ℕ). BeginsWithFrames x.0 0 b.frames b.chunks (drop x.1 bytes) []) (sym h) q.content in
      let same = same_chunks laws a.info a.chunks b.chunks 0 a.frames b.frames (drop p.place bytes) [] [] p.content (empty_ends laws a.info) moved (empty_ends laws a.info) in
      let info : a.info ≡ b.info = ap (λ (x : StreamInfo × ℕ). x.0) h in
      grind (arith, info, same.after, same.chunks)

  one_place : (bytes : List ℕ) (i j : ℕ) → FollowsFrames bytes i → FollowsFrames bytes j → i ≡ j
  one_place bytes i j p q =
      let h = same_head (p.info, p.place) (q.info, q.place) (head_of bytes) p.head q.head in
      let moved = subst (λ (x : StreamInfo × ℕ). BeginsWithFrames x.0 0 q.after q.chunks (drop x.1 bytes) q.rest) (sym h) q.before in
      let none = subst (λ (x : StreamInfo × ℕ). IsEnd x.0 q.rest) (sym h) (none_ends q.info q.rest q.none) in
      let same = same_chunks laws p.info p.chunks q.chunks 0 p.after q.after (drop p.place bytes) p.rest q.rest p.before (none_ends p.info p.rest p.none) moved none in
      omega (arith, p.is_place, q.is_place, ap length same.rest)

  apart_heads : (bytes : List ℕ) (a : StreamInfo × ℕ) (e : DemuxFault) → head_of bytes ≡ Ok a → head_of bytes ≡ Err e → ⊥
  apart_heads bytes a e p q = let none : ⊥ = cc in none

  one_err : (r : Result (StreamInfo × ℕ) DemuxFault) (i j : ℕ) → r ≡ Err (fault.BadFlac i) → r ≡ Err (fault.BadFlac j) → i ≡ j
  one_err r i j p q = cc

  same_place : (bytes : List ℕ) (i j : ℕ) → IsFlacFault bytes (fault.BadFlac i) → IsFlacFault bytes (fault.BadFlac j) → i ≡ j
  same_place bytes i j p q =
      ⊎_elim
      (λ a. ⊎_elim
      (λ b. one_err (head_of bytes) i j a b)
      (λ b. absurd (apart_heads bytes (b.info, b.place) (fault.BadFlac i) b.head a)) q)
      (λ a. ⊎_elim (λ b. absurd (apart_heads bytes (a.info, a.place) (fault.BadFlac j) a.head b)) (λ b. one_place bytes i j a b) q)
      p

  pub one_fault : (bytes : List ℕ) (e f : DemuxFault) → IsFlacFault bytes e → IsFlacFault bytes f → e ≡ f
  one_fault bytes (fault.BadFlac i) (fault.BadFlac j) p q = ap fault.BadFlac (same_place bytes i j p q)
  one_fault bytes (fault.BadFlac i) (fault.BadWav j) p q = absurd q
  one_fault bytes (fault.BadFlac i) (fault.Unsupported t b) p q = absurd q
  one_fault bytes (fault.BadWav i) f p q = absurd p
  one_fault bytes (fault.Unsupported t b) f p q = absurd p

  not_following : (bytes : List ℕ) (a : Flac) (i : ℕ) → IsFlacFile a bytes → FollowsFrames bytes i → ⊥
  not_following bytes a i p q =
      let h = same_head (a.info, p.place) (q.info, q.place) (head_of bytes) p.head q.head in
      let moved = subst (λ (x : StreamInfo × ℕ). BeginsWithFrames x.0 0 q.after q.chunks (drop x.1 bytes) q.rest) (sym h) q.before in
      let none = subst (λ (x : StreamInfo × ℕ). IsEnd x.0 q.rest) (sym h) (none_ends q.info q.rest q.none) in
      let same = same_chunks laws a.info a.chunks q.chunks 0 a.frames q.after (drop p.place bytes) [] q.rest p.content (empty_ends laws a.info) moved none in
      absurd (omega (arith, q.some, ap length same.rest))

  pub not_both : (bytes : List ℕ) (a : Flac) (e : DemuxFault) → IsFlacFile a bytes → IsFlacFault bytes e → ⊥
  not_both bytes a (fault.BadFlac i) p q = ⊎_elim (λ b. apart_heads bytes (a.info, p.place) (fault.BadFlac i) p.head b) (λ b. not_following bytes a i p b) q
  not_both bytes a (fault.BadWav i) p q = q
  not_both bytes a (fault.Unsupported t b) p q = q

  -- ---- each file is read

  -- one frame more, where one is in front
  on : (bytes rest : List ℕ) (info : StreamInfo) (place after k : ℕ) (chunks : List Chunk) → EndsAt info rest (Some k) → BeginsWithFrames info 0 after chunks (drop place bytes) rest
      → (chunk : Chunk) × (block : ℕ) × BeginsWithFrames info 0 (after + block) (chunks ++ chunk ∷ []) (drop place bytes) (drop k rest) × (length (drop k rest) < length rest)
  on bytes rest info place after k chunks h before =
      let f = h.1.0 in
      let block = f.0.block in
      let chunk : Chunk = frame_chunk info after block (take k rest) in
      let is : IsFrameChunk info after block chunk = record { frame = f; is_frame = h.1.1; is_block = refl; is_chunk = refl } in
      let some = laws.some info (take k rest) f h.1.1 in (
        chunk,
        block,
        one_more_frame info chunks chunk 0 after block (drop place bytes) rest (drop k rest) before is (sym (take-append-drop k rest)),
        omega (arith, some, length-take k rest, length-drop k rest),
      )

  read_on : (n : ℕ) (bytes rest : List ℕ) (info : StreamInfo) (place : ℕ) (chunks : List Chunk) (after : ℕ) → length rest ≤ n → length rest ≤ length bytes → head_of bytes ≡ Ok (info, place)
      → BeginsWithFrames info 0 after chunks (drop place bytes) rest → IsFlacRead bytes
  read_on n bytes [] info place chunks after le within head before = inl (record { info = info; frames = after; chunks = chunks }, record { place = place; head = head; content = before })
  read_on zero bytes (x ∷ xs) info place chunks after le within head before = absurd (omega arith)
  read_on (suc n) bytes (x ∷ xs) info place chunks after le within head before =
      by_end (laws.each info (x ∷ xs)).0 (laws.each info (x ∷ xs)).1
      (λ chunk more lt next. read_on n bytes more.1 info place (chunks ++ chunk ∷ []) (after + more.0) (omega (arith, le, lt)) (omega (arith, within, lt)) head next)
    where
      by_end : (end : Option ℕ) → EndsAt info (x ∷ xs) end
          → ((chunk : Chunk) (more : ℕ × List ℕ) → length more.1 < length (x ∷ xs) → BeginsWithFrames info 0 (after + more.0) (chunks ++ chunk ∷ []) (drop place bytes) more.1 → IsFlacRead bytes) → IsFlacRead bytes
      by_end None h next = inr (
        fault.BadFlac (length bytes - length (x ∷ xs)),
        inr (record {
          info = info;
          place = place;
          head = head;
          after = after;
          chunks = chunks;
          rest = x ∷ xs;
          before = before;
          some = omega arith;
          is_place = omega (arith, within);
          none = h;
        }),
      )
      by_end (Some k) h next = let m = on bytes (x ∷ xs) info place after k chunks h before in next m.0 (m.1, drop k (x ∷ xs)) m.3 m.2

-- ---- faults of heads, and the chunks of a file

place_fault : (end : ℕ) (blocks : List Part) (e : DemuxFault) → place_behind end blocks ≡ Err e → (at : ℕ) × (e ≡ fault.BadFlac at)
place_fault end [] e h = (end, let s : e ≡ fault.BadFlac end = cc in s)
place_fault end (b ∷ blocks) e h =
    by (nat_lt (length b.bytes) (block_size b.bytes)) (nat_le 128 (slice_index b.bytes 0)) h (λ g. place_fault end blocks e g)
  where
    by : (cut last : Bool) → cond cut (Err (fault.BadFlac b.at)) (cond last (Ok (b.at + block_size b.bytes)) (place_behind end blocks)) ≡ Err e → (place_behind end blocks ≡ Err e → (at : ℕ) × (e ≡ fault.BadFlac at)) → (at : ℕ) × (e ≡ fault.BadFlac at)
    by true last g next = (b.at, let s : e ≡ fault.BadFlac b.at = cc in s)
    by false true g next = absurd (let n : ⊥ = cc in n)
    by false false g next = next g

head_by_fault : (bytes : List ℕ) (o : Option StreamInfo) (e : DemuxFault) → head_by bytes o ≡ Err e → (at : ℕ) × (e ≡ fault.BadFlac at)
head_by_fault bytes None e h = (0, let s : e ≡ fault.BadFlac 0 = cc in s)
head_by_fault bytes (Some info) e h = by (place_behind (length bytes) (blocks_from bytes 4)) refl h
  where
    by : (r : Result ℕ DemuxFault) → place_behind (length bytes) (blocks_from bytes 4) ≡ r → with_info info r ≡ Err e → (at : ℕ) × (e ≡ fault.BadFlac at)
    by (Ok place) is g = absurd (let n : ⊥ = cc in n)
    by (Err f) is g = place_fault (length bytes) (blocks_from bytes 4) e (is ∙ ap Err (let s : f ≡ e = cc in s))

pub head_fault : (bytes : List ℕ) (e : DemuxFault) → head_of bytes ≡ Err e → IsFlacFault bytes e
head_fault bytes e h =
    let k = head_by_fault bytes (streaminfo_of bytes) e h in
    subst (λ (x : DemuxFault). IsFlacFault bytes x) (sym k.1) (inl (h ∙ ap Err k.1))

pub each_flac_is_read : FramesAreFound → (bytes : List ℕ) → IsFlacRead bytes
each_flac_is_read laws bytes = by (head_of bytes) refl
  where
    by : (r : Result (StreamInfo × ℕ) DemuxFault) → head_of bytes ≡ r → IsFlacRead bytes
    by (Err e) is = inr (e, head_fault bytes e is)
    by (Ok h) is = read_on laws (length bytes) bytes (drop h.1 bytes) h.0 h.1 [] 0 (omega (arith, length-drop h.1 bytes)) (omega (arith, length-drop h.1 bytes)) is (refl, refl)

-- the head, and the chunks joined, are the file
pub file_joined : (bytes : List ℕ) (f : Flac) → IsFlacFile f bytes → (place : ℕ) × (head_of bytes ≡ Ok (f.info, place)) × (take place bytes ++ joined f.chunks ≡ bytes)
file_joined bytes f p =
    let whole : joined f.chunks ≡ drop p.place bytes = sym (append-nil (joined f.chunks)) ∙ frames_joined f.info f.chunks 0 f.frames (drop p.place bytes) [] p.content in
    (p.place, p.head, ap (λ (xs : List ℕ). take p.place bytes ++ xs) whole ∙ take-append-drop p.place bytes)

-- a fault that has more to it
pub follows : {F : Type 0} (e : Stop F) (P Q : F → Type 0) → ((f : F) → P f → Q f) → IfFault e P → IfFault e Q
follows (stop.Fault f) P Q each h = each f h
follows stop.NoMemory P Q each h = tt

-- where no frame is in front behind frames, a file has its fault
pub front_fault : (bytes rest : List ℕ) (info : StreamInfo) (place at after : ℕ) (chunks : List Chunk) → rest ≡ drop at bytes → at < length bytes → head_of bytes ≡ Ok (info, place)
    → BeginsWithFrames info 0 after chunks (drop place bytes) (drop at bytes) → (e : DemuxFault) → (e ≡ fault.BadFlac at) × EndsAt info rest None → IsFlacFault bytes e
front_fault bytes rest info place at after chunks is lt head before e h =
    let found : FollowsFrames bytes at = record {
      info = info;
      place = place;
      head = head;
      after = after;
      chunks = chunks;
      rest = drop at bytes;
      before = before;
      some = omega (arith, lt, length-drop at bytes);
      is_place = omega (arith, lt, length-drop at bytes);
      none = subst (λ (xs : List ℕ). EndsAt info xs None) is h.1;
    } in
    subst (λ (x : DemuxFault). IsFlacFault bytes x) (sym h.0) (inr found)
