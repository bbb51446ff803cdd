-- The chunk files of a script have one reading, as the bytes of a media file have.
use Rattle.std.proofs.Common.{ℕ, ◌≡◌, ◌+◌, ◌-◌, ◌<◌, ◌≤◌, inl, inr, true, false, List, [], ◌∷◌, Option, Some, None, Result, Ok, Err, refl, ap, sym, subst, ◌∙◌, arith}
use Rattle.wc_chunk.specs.declared.chunk.Chunk.{Chunk}
use Rattle.chunk_files.specs.declared.fault.{MediaFault.MediaFault, Stop.Stop}
use Rattle.wc_demux.specs.{Media.IsMediaFile, Media.IsMediaFault, Media.media_chunks, declared.media.MediaFile.MediaFile}
use Rattle.script_types.specs.declared.fault.{Counted.Counted, Fault.Fault}
use Rattle.media_files.specs.Media.{Answer, Answers, media_of, are_small, AreChunks, FileGives, FilesGive}

abbrev pub OneFile : Type 0
OneFile = (bytes : List ℕ) (one other : MediaFile) → IsMediaFile one bytes → IsMediaFile other bytes → one ≡ other

abbrev pub OneFault : Type 0
OneFault = (bytes : List ℕ) (one other : MediaFault) → IsMediaFault bytes one → IsMediaFault bytes other → one ≡ other

abbrev pub Apart : Type 0
Apart = (bytes : List ℕ) (medium : MediaFile) (e : MediaFault) → IsMediaFile medium bytes → IsMediaFault bytes e → ⊥

-- what is known of the bytes of one file
pub record OneOfEach : Type 0 where
  pub file : OneFile
  pub fault : OneFault
  pub apart : Apart

-- chunks that are small, and the same chunks that are not
not_both : (a b : List Chunk) → a ≡ b → are_small a ≡ true → are_small b ≡ false → ⊥
not_both a b is t f = let e : true ≡ false = sym t ∙ (ap are_small is ∙ f) in absurd cc

too_many : (room : ℕ) (a b : List Chunk) → a ≡ b → media_of a ≤ room → room < media_of b → ⊥
too_many room a b is le lt = absurd (omega (arith, ap media_of is))

same : (k : OneOfEach) (bytes : List ℕ) (a b : List Chunk) → AreChunks bytes a → AreChunks bytes b → a ≡ b
same k bytes a b p q = p.holds ∙ (ap media_chunks (k.file bytes p.medium q.medium p.file q.file) ∙ sym q.holds)

-- a file gives one answer
pub one_answer : (k : OneOfEach) (room : ℕ) (name : List ℕ) (bytes : Option (List ℕ)) (a b : Answer) → FileGives room name bytes a → FileGives room name bytes b → a ≡ b
one_answer k room name None (Err (Stop.Fault (Fault.Unread x))) (Err (Stop.Fault (Fault.Unread y))) p q = ap (λ m. Err (Stop.Fault (Fault.Unread m))) (p ∙ sym q)
one_answer k room name None (Err (Stop.Fault (Fault.Unread x))) b p q = elim q [ ]
one_answer k room name None a b p q = elim p [ ]
one_answer k room name (Some bytes) (Err (Stop.Fault (Fault.TooMany Counted.File))) (Err (Stop.Fault (Fault.TooMany Counted.File))) p q = refl
one_answer k room name (Some bytes) (Err (Stop.Fault (Fault.TooMany Counted.File))) (Err (Stop.Fault (Fault.Chunks y f))) p (is, le, h) = absurd (omega arith)
one_answer k room name (Some bytes) (Err (Stop.Fault (Fault.TooMany Counted.File))) (Err (Stop.Fault (Fault.TooMany Counted.Chunk))) p (cs, h, small) = absurd (omega (arith, h.short))
one_answer k room name (Some bytes) (Err (Stop.Fault (Fault.TooMany Counted.File))) (Err (Stop.Fault (Fault.TooMany Counted.Media))) p (cs, h, small, lt) = absurd (omega (arith, h.short))
one_answer k room name (Some bytes) (Err (Stop.Fault (Fault.TooMany Counted.File))) (Ok cs) p (h, small, le) = absurd (omega (arith, h.short))
one_answer k room name (Some bytes) (Err (Stop.Fault (Fault.TooMany Counted.File))) b p q = elim q [ ]
one_answer k room name (Some bytes) (Err (Stop.Fault (Fault.Chunks x e))) (Err (Stop.Fault (Fault.TooMany Counted.File))) (is, le, h) q = absurd (omega arith)
one_answer k room name (Some bytes) (Err (Stop.Fault (Fault.Chunks x e))) (Err (Stop.Fault (Fault.Chunks y f))) (is, le, h) (js, le', g) = same_chunks x y e f (is ∙ sym js) (k.fault bytes e f h g)
  where
    same_chunks : (x y : List ℕ) (e f : MediaFault) → x ≡ y → e ≡ f → ◌≡◌ {A = Answer} (Err (Stop.Fault (Fault.Chunks x e))) (Err (Stop.Fault (Fault.Chunks y f)))
    same_chunks x y e f p q = cc
one_answer k room name (Some bytes) (Err (Stop.Fault (Fault.Chunks x e))) (Err (Stop.Fault (Fault.TooMany Counted.Chunk))) (is, le, h) (cs, g, small) = absurd (k.apart bytes g.medium e g.file h)
one_answer k room name (Some bytes) (Err (Stop.Fault (Fault.Chunks x e))) (Err (Stop.Fault (Fault.TooMany Counted.Media))) (is, le, h) (cs, g, small, lt) = absurd (k.apart bytes g.medium e g.file h)
one_answer k room name (Some bytes) (Err (Stop.Fault (Fault.Chunks x e))) (Ok cs) (is, le, h) (g, small, fits) = absurd (k.apart bytes g.medium e g.file h)
one_answer k room name (Some bytes) (Err (Stop.Fault (Fault.Chunks x e))) b p q = elim q [ ]
one_answer k room name (Some bytes) (Err (Stop.Fault (Fault.TooMany Counted.Chunk))) (Err (Stop.Fault (Fault.TooMany Counted.File))) (cs, h, small) q = absurd (omega (arith, h.short))
one_answer k room name (Some bytes) (Err (Stop.Fault (Fault.TooMany Counted.Chunk))) (Err (Stop.Fault (Fault.Chunks y f))) (cs, h, small) (is, le, g) = absurd (k.apart bytes h.medium f h.file g)
one_answer k room name (Some bytes) (Err (Stop.Fault (Fault.TooMany Counted.Chunk))) (Err (Stop.Fault (Fault.TooMany Counted.Chunk))) p q = refl
one_answer k room name (Some bytes) (Err (Stop.Fault (Fault.TooMany Counted.Chunk))) (Err (Stop.Fault (Fault.TooMany Counted.Media))) (cs, h, small) (ds, g, small', lt) = absurd (not_both ds cs (same k bytes ds cs g h) small' small)
one_answer k room name (Some bytes) (Err (Stop.Fault (Fault.TooMany Counted.Chunk))) (Ok ds) (cs, h, small) (g, small', le) = absurd (not_both ds cs (same k bytes ds cs g h) small' small)
one_answer k room name (Some bytes) (Err (Stop.Fault (Fault.TooMany Counted.Chunk))) b p q = elim q [ ]
one_answer k room name (Some bytes) (Err (Stop.Fault (Fault.TooMany Counted.Media))) (Err (Stop.Fault (Fault.TooMany Counted.File))) (cs, h, small, lt) q = absurd (omega (arith, h.short))
one_answer k room name (Some bytes) (Err (Stop.Fault (Fault.TooMany Counted.Media))) (Err (Stop.Fault (Fault.Chunks y f))) (cs, h, small, lt) (is, le, g) = absurd (k.apart bytes h.medium f h.file g)
one_answer k room name (Some bytes) (Err (Stop.Fault (Fault.TooMany Counted.Media))) (Err (Stop.Fault (Fault.TooMany Counted.Chunk))) (cs, h, small, lt) (ds, g, small') = absurd (not_both cs ds (same k bytes cs ds h g) small small')
one_answer k room name (Some bytes) (Err (Stop.Fault (Fault.TooMany Counted.Media))) (Err (Stop.Fault (Fault.TooMany Counted.Media))) p q = refl
one_answer k room name (Some bytes) (Err (Stop.Fault (Fault.TooMany Counted.Media))) (Ok ds) (cs, h, small, lt) (g, small', le) = absurd (too_many room ds cs (same k bytes ds cs g h) le lt)
one_answer k room name (Some bytes) (Err (Stop.Fault (Fault.TooMany Counted.Media))) b p q = elim q [ ]
one_answer k room name (Some bytes) (Ok cs) (Err (Stop.Fault (Fault.TooMany Counted.File))) (h, small, le) q = absurd (omega (arith, h.short))
one_answer k room name (Some bytes) (Ok cs) (Err (Stop.Fault (Fault.Chunks y f))) (h, small, le) (is, le', g) = absurd (k.apart bytes h.medium f h.file g)
one_answer k room name (Some bytes) (Ok cs) (Err (Stop.Fault (Fault.TooMany Counted.Chunk))) (h, small, le) (ds, g, small') = absurd (not_both cs ds (same k bytes cs ds h g) small small')
one_answer k room name (Some bytes) (Ok cs) (Err (Stop.Fault (Fault.TooMany Counted.Media))) (h, small, le) (ds, g, small', lt) = absurd (too_many room cs ds (same k bytes cs ds h g) le lt)
one_answer k room name (Some bytes) (Ok cs) (Ok ds) (h, small, le) (g, small', le') = ap Ok (same k bytes cs ds h g)
one_answer k room name (Some bytes) (Ok cs) b p q = elim q [ ]
one_answer k room name (Some bytes) a b p q = elim p [ ]

-- two answers that are chunks, or a fault and chunks
chunks_of : (k : OneOfEach) (room : ℕ) (name : List ℕ) (bytes : Option (List ℕ)) (cs ds : List Chunk) → FileGives room name bytes (Ok cs) → FileGives room name bytes (Ok ds) → cs ≡ ds
chunks_of k room name None cs ds p q = elim p [ ]
chunks_of k room name (Some bytes) cs ds (h, small, le) (g, small', le') = same k bytes cs ds h g

not_a_fault : (k : OneOfEach) (room : ℕ) (name : List ℕ) (bytes : Option (List ℕ)) (cs : List Chunk) (e : Stop Fault) → FileGives room name bytes (Ok cs) → FileGives room name bytes (Err e) → ⊥
not_a_fault k room name bytes cs e p q = let is = one_answer k room name bytes (Ok cs) (Err e) p q in absurd cc

pub one_media : (k : OneOfEach) (files : List ℕ → Option (List ℕ)) (names : List (List ℕ)) (room : ℕ) (a b : Answers) → FilesGive files room names a → FilesGive files room names b → a ≡ b
one_media k files [] room (Ok x) (Err e) p q = elim q [ ]
one_media k files [] room (Err e) b p q = elim p [ ]
one_media k files (name ∷ names) room (Ok []) b p q = elim p [ ]
one_media k files (name ∷ names) room (Ok (x ∷ xs)) (Ok []) p q = elim q [ ]
one_media k files (name ∷ names) room (Err e) (Ok []) p q = elim q [ ]
one_media k files [] room (Ok x) (Ok y) p q = ap Ok (p ∙ sym q)
one_media k files (name ∷ names) room (Ok (x ∷ xs)) (Ok (y ∷ ys)) (p, ps) (q, qs) =
    let is = chunks_of k room name (files name) x y p q in
    both x y xs ys is (one_media k files names (room - media_of y) (Ok xs) (Ok ys) (subst (λ c. FilesGive files (room - media_of c) names (Ok xs)) is ps) qs)
  where
    both : (x y : List Chunk) (xs ys : List (List Chunk)) → x ≡ y → ◌≡◌ {A = Answers} (Ok xs) (Ok ys) → ◌≡◌ {A = Answers} (Ok (x ∷ xs)) (Ok (y ∷ ys))
    both x y xs ys p q = cc
one_media k files (name ∷ names) room (Ok (x ∷ xs)) (Err e) (p, ps) (inl q) = absurd (not_a_fault k room name (files name) x e p q)
one_media k files (name ∷ names) room (Ok (x ∷ xs)) (Err e) (p, ps) (inr (y, q, qs)) =
    let is = chunks_of k room name (files name) x y p q in
    let no = one_media k files names (room - media_of y) (Ok xs) (Err e) (subst (λ c. FilesGive files (room - media_of c) names (Ok xs)) is ps) qs in
    absurd cc
one_media k files (name ∷ names) room (Err e) (Ok (x ∷ xs)) (inl q) (p, ps) = absurd (not_a_fault k room name (files name) x e p q)
one_media k files (name ∷ names) room (Err e) (Ok (x ∷ xs)) (inr (y, q, qs)) (p, ps) =
    let is = chunks_of k room name (files name) x y p q in
    let no = one_media k files names (room - media_of y) (Ok xs) (Err e) (subst (λ c. FilesGive files (room - media_of c) names (Ok xs)) is ps) qs in
    absurd cc
one_media k files (name ∷ names) room (Err e) (Err f) (inl p) (inl q) = again (one_answer k room name (files name) (Err e) (Err f) p q)
  where
    again : ◌≡◌ {A = Answer} (Err e) (Err f) → ◌≡◌ {A = Answers} (Err e) (Err f)
    again is = cc
one_media k files (name ∷ names) room (Err e) (Err f) (inl p) (inr (y, q, qs)) = absurd (not_a_fault k room name (files name) y e q p)
one_media k files (name ∷ names) room (Err e) (Err f) (inr (x, p, ps)) (inl q) = absurd (not_a_fault k room name (files name) x f p q)
one_media k files (name ∷ names) room (Err e) (Err f) (inr (x, p, ps)) (inr (y, q, qs)) =
    let is = chunks_of k room name (files name) x y p q in
    one_media k files names (room - media_of y) (Err e) (Err f) (subst (λ c. FilesGive files (room - media_of c) names (Err e)) is ps) qs
