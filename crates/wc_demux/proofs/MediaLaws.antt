-- Media files have one reading.
use Rattle.std.proofs.Common.{◌≡◌, inl, inr, ⊎_elim, ℕ, Bool, true, false, List, Result, Ok, Err, IfOk, IfErr, IsErr, take, codes, refl, ap, arith}
use Rattle.chunk_files.specs.declared.fault.Stop.{Stop}
use Rattle.chunk_files.specs.declared.fault.Stop.TheVariants as stop
use Rattle.chunk_files.specs.Stops.{IfFault}
use Rattle.std.specs.Prelude.{bytes_eq, ◌||◌}
use Rattle.std.proofs.lemmas.Slice.Eq.{bytes_eq-Decides}
use Rattle.chunk_files.specs.declared.fault.ChunkFault.{ChunkFault}
use Rattle.chunk_files.specs.declared.fault.DemuxFault.{DemuxFault}
use Rattle.chunk_files.specs.declared.fault.MediaFault.{MediaFault}
use Rattle.chunk_files.specs.declared.fault.MediaFault.TheVariants as fault
use Rattle.chunk_files.specs.Grammar.{IsChunkFile, IsFirstFault, IsRead}
use Rattle.wc_chunk.specs.declared.chunk.Chunk.{Chunk}
use Rattle.flac_decode.specs.FrameEnd.{FramesAreFound}
use Rattle.wc_demux.specs.Wav.{wav_of}
use Rattle.wc_demux.specs.Media.{is_wav, is_flac, frames_per_chunk, IsMediaFile, IsMediaFault, IsMediaRead}
use Rattle.wc_demux.specs.declared.wav.Wav.{Wav}
use Rattle.wc_demux.specs.declared.media.MediaFile.{MediaFile}
use Rattle.wc_demux.specs.declared.media.MediaFile.TheVariants as media
use Rattle.wc_demux.proofs.FlacLaws.{one_file, one_fault, not_both, each_flac_is_read}

-- what chunk files are, by the law of their crate
pub record ChunkLaws : Type 0 where
  pub chunks : (bytes : List ℕ) (one other : List Chunk) → IsChunkFile one bytes → IsChunkFile other bytes → one ≡ other
  pub fault : (bytes : List ℕ) (one other : ChunkFault) → IsFirstFault bytes one → IsFirstFault bytes other → one ≡ other
  pub apart : (bytes : List ℕ) (chunks : List Chunk) (e : ChunkFault) → IsChunkFile chunks bytes → IsFirstFault bytes e → ⊥
  pub some : (bytes : List ℕ) → IsRead bytes

-- bytes begin with one mark at most
marks_differ : (front : List ℕ) → bytes_eq front (codes "RIFF") ≡ true → bytes_eq front (codes "fLaC") ≡ true → ⊥
marks_differ front p q =
    let e = (bytes_eq-Decides front (codes "RIFF")).0 p in
    let n : bytes_eq (codes "RIFF") (codes "fLaC") ≡ true = rw e at q in
    let none : ⊥ = cc in none

same_wav : {A : Type 0} (r : Result A DemuxFault) (a b : A) → r ≡ Ok a → r ≡ Ok b → a ≡ b
same_wav r a b p q = cc

same_err : {A : Type 0} (r : Result A DemuxFault) (a b : DemuxFault) → r ≡ Err a → r ≡ Err b → a ≡ b
same_err r a b p q = cc

wav_apart : {A : Type 0} (r : Result A DemuxFault) (a : A) (e : DemuxFault) → r ≡ Ok a → r ≡ Err e → ⊥
wav_apart r a e p q = let none : ⊥ = cc in none

-- the marks of two kinds of file do not stand together
wav_flac : (bytes : List ℕ) → is_wav bytes ≡ true → is_flac bytes ≡ true → ⊥
wav_flac bytes p q = marks_differ (take 4 bytes) p q

wav_other : (w f : Bool) → w ≡ true → (w || f) ≡ false → ⊥
wav_other true f p q = let n : ⊥ = cc in n
wav_other false f p q = let n : ⊥ = cc in n

flac_other : (w f : Bool) → f ≡ true → (w || f) ≡ false → ⊥
flac_other true f p q = let n : ⊥ = cc in n
flac_other false f p q = let n : ⊥ = cc in n

module _ (frames : FramesAreFound) (chunks : ChunkLaws) where
  pub one_medium : (bytes : List ℕ) (a b : MediaFile) → IsMediaFile a bytes → IsMediaFile b bytes → a ≡ b
  one_medium bytes (media.Wav a) (media.Wav b) p q = ap media.Wav (same_wav (wav_of frames_per_chunk bytes) a b p.1 q.1)
  one_medium bytes (media.Wav a) (media.Flac b) p q = absurd (wav_flac bytes p.0 q.0)
  one_medium bytes (media.Wav a) (media.Chunks b) p q = absurd (wav_other (is_wav bytes) (is_flac bytes) p.0 q.0)
  one_medium bytes (media.Flac a) (media.Wav b) p q = absurd (wav_flac bytes q.0 p.0)
  one_medium bytes (media.Flac a) (media.Flac b) p q = ap media.Flac (one_file frames bytes a b p.1 q.1)
  one_medium bytes (media.Flac a) (media.Chunks b) p q = absurd (flac_other (is_wav bytes) (is_flac bytes) p.0 q.0)
  one_medium bytes (media.Chunks a) (media.Wav b) p q = absurd (wav_other (is_wav bytes) (is_flac bytes) q.0 p.0)
  one_medium bytes (media.Chunks a) (media.Flac b) p q = absurd (flac_other (is_wav bytes) (is_flac bytes) q.0 p.0)
  one_medium bytes (media.Chunks a) (media.Chunks b) p q = ap media.Chunks (chunks.chunks bytes a b p.1 q.1)

  one_sound_fault : (bytes : List ℕ) (e f : DemuxFault) → IsMediaFault bytes (fault.Sound e) → IsMediaFault bytes (fault.Sound f) → e ≡ f
  one_sound_fault bytes e f p q =
      ⊎_elim
      (λ a. ⊎_elim (λ b. same_err (wav_of frames_per_chunk bytes) e f a.1 b.1) (λ b. absurd (wav_flac bytes a.0 b.0)) q)
      (λ a. ⊎_elim (λ b. absurd (wav_flac bytes b.0 a.0)) (λ b. one_fault frames bytes e f a.1 b.1) q)
      p

  sound_other : (bytes : List ℕ) (e : DemuxFault) → IsMediaFault bytes (fault.Sound e) → (is_wav bytes || is_flac bytes) ≡ false → ⊥
  sound_other bytes e p q = ⊎_elim (λ a. wav_other (is_wav bytes) (is_flac bytes) a.0 q) (λ a. flac_other (is_wav bytes) (is_flac bytes) a.0 q) p

  pub one_media_fault : (bytes : List ℕ) (e f : MediaFault) → IsMediaFault bytes e → IsMediaFault bytes f → e ≡ f
  one_media_fault bytes (fault.Sound e) (fault.Sound f) p q = ap fault.Sound (one_sound_fault bytes e f p q)
  one_media_fault bytes (fault.Sound e) (fault.Chunks f) p q = absurd (sound_other bytes e p q.0)
  one_media_fault bytes (fault.Chunks e) (fault.Sound f) p q = absurd (sound_other bytes f q p.0)
  one_media_fault bytes (fault.Chunks e) (fault.Chunks f) p q = ap fault.Chunks (chunks.fault bytes e f p.1 q.1)

  pub media_apart : (bytes : List ℕ) (a : MediaFile) (e : MediaFault) → IsMediaFile a bytes → IsMediaFault bytes e → ⊥
  media_apart bytes (media.Wav a) (fault.Sound e) p q = ⊎_elim (λ b. wav_apart (wav_of frames_per_chunk bytes) a e p.1 b.1) (λ b. wav_flac bytes p.0 b.0) q
  media_apart bytes (media.Wav a) (fault.Chunks e) p q = wav_other (is_wav bytes) (is_flac bytes) p.0 q.0
  media_apart bytes (media.Flac a) (fault.Sound e) p q = ⊎_elim (λ b. wav_flac bytes b.0 p.0) (λ b. not_both frames bytes a e p.1 b.1) q
  media_apart bytes (media.Flac a) (fault.Chunks e) p q = flac_other (is_wav bytes) (is_flac bytes) p.0 q.0
  media_apart bytes (media.Chunks a) (fault.Sound e) p q = sound_other bytes e q p.0
  media_apart bytes (media.Chunks a) (fault.Chunks e) p q = chunks.apart bytes a e p.1 q.1

  pub each_medium_is_read : (bytes : List ℕ) → IsMediaRead bytes
  each_medium_is_read bytes = by (is_wav bytes) (is_flac bytes) refl refl
    where
      wav_read : is_wav bytes ≡ true → (r : Result Wav DemuxFault) → wav_of frames_per_chunk bytes ≡ r → IsMediaRead bytes
      wav_read p (Ok w) is = inl (media.Wav w, (p, is))
      wav_read p (Err e) is = inr (fault.Sound e, inl (p, is))

      by : (w f : Bool) → is_wav bytes ≡ w → is_flac bytes ≡ f → IsMediaRead bytes
      by true f p q = wav_read p (wav_of frames_per_chunk bytes) refl
      by false true p q = ⊎_elim (λ a. inl (media.Flac a.0, (q, a.1))) (λ e. inr (fault.Sound e.0, inr (q, e.1))) (each_flac_is_read frames bytes)
      by false false p q =
          let none : (is_wav bytes || is_flac bytes) ≡ false = rw (p, q) refl in
          ⊎_elim (λ a. inl (media.Chunks a.0, (none, a.1))) (λ e. inr (fault.Chunks e.0, (none, e.1))) (chunks.some bytes)

-- a fault that is there is the one that is told, and bytes with a fault are refused
pub told : {A F : Type 0} → (r : Result A (Stop F)) (P Q : F → Type 0) → ((f : F) → P f → Q f) → IfErr r (λ e. IfFault e P) → IfErr r (λ e. IfFault e Q)
told (Ok v) P Q each h = tt
told (Err (stop.Fault f)) P Q each h = each f h
told (Err stop.NoMemory) P Q each h = tt

pub refused : {A E : Type 0} → (r : Result A E) (P : A → Type 0) → ((v : A) → P v → ⊥) → IfOk r P → IsErr r
refused r P none h = grind (arith, none, h)
