-- What the chunk files of a script give: the chunks of each, or the first fault. The files are taken in order of first
-- mention; of each its length is tried first, then its format, the lengths of its chunks, and the bytes of all media so far.
use Rattle.std.specs.Prelude.{ℕ, ◌+◌, ◌-◌, ◌≡◌, ◌<◌, ◌≤◌, ◌⊎◌, Bool, true, false, nat_le, List, [], ◌∷◌, ◌++◌, length, take, sum_by, Option, Some, None, IfSome, MatchOption, Result, Ok, Err}
use Rattle.std.specs.List.{list_all, slice_get}
use Rattle.wc_base.specs.Causes.{Rose, RoseBy}
use Rattle.wc_chunk.specs.declared.chunk.Chunk.{Chunk}
use Rattle.script_types.specs.declared.fault.Counted.TheVariants as counted
use Rattle.script_types.specs.declared.fault.Fault.{Fault}
use Rattle.script_types.specs.declared.fault.Fault.TheVariants as fault
use Rattle.chunk_files.specs.declared.fault.Stop.{Stop}
use Rattle.chunk_files.specs.declared.fault.Stop.TheVariants as stop
use Rattle.script_types.specs.declared.script.ScriptData.{ScriptData}
use Rattle.script_types.specs.Limits.{most_file}
use Rattle.script_types.specs.Sound.{most_chunk, most_media}
use Rattle.wc_demux.specs.Media.{IsMediaFile, IsMediaFault, media_chunks}
use Rattle.wc_demux.specs.declared.media.MediaFile.{MediaFile}

abbrev pub is_small : Chunk → Bool
is_small c = nat_le (length c.bytes) most_chunk

abbrev pub are_small : List Chunk → Bool
are_small chunks = list_all is_small chunks

-- the bytes of all chunks
abbrev pub media_of : List Chunk → ℕ
media_of chunks = sum_by (λ c. length c.bytes) chunks

-- the bytes are a media file of these chunks, within the limit on files
pub record AreChunks (bytes : List ℕ) (chunks : List Chunk) : Type 0 where
  pub short : length bytes ≤ most_file
  pub medium : MediaFile
  pub file : IsMediaFile medium bytes
  pub holds : chunks ≡ media_chunks medium

-- The chunks of one file, or why there are none.
abbrev pub Answer : Type 0
Answer = Result (List Chunk) (Stop Fault)

-- The chunks of each file, or why there are none.
abbrev pub Answers : Type 0
Answers = Result (List (List Chunk)) (Stop Fault)

-- What the file of this name gives, by its bytes, if it is there, where so many bytes of media may still come.
abbrev pub FileGives : ℕ → List ℕ → Option (List ℕ) → Answer → Type 0
FileGives room name None (Err (stop.Fault (fault.Unread n))) = n ≡ name
FileGives room name (Some bytes) (Err (stop.Fault (fault.TooMany counted.File))) = most_file < length bytes
FileGives room name (Some bytes) (Err (stop.Fault (fault.Chunks n e))) =
    (n ≡ name) × (length bytes ≤ most_file) × IsMediaFault bytes e
FileGives room name (Some bytes) (Err (stop.Fault (fault.TooMany counted.Chunk))) =
    (chunks : List Chunk) × AreChunks bytes chunks × (are_small chunks ≡ false)
FileGives room name (Some bytes) (Err (stop.Fault (fault.TooMany counted.Media))) =
    (chunks : List Chunk) × AreChunks bytes chunks × (are_small chunks ≡ true) × (room < media_of chunks)
FileGives room name (Some bytes) (Ok chunks) =
    AreChunks bytes chunks × (are_small chunks ≡ true) × (media_of chunks ≤ room)
FileGives _ _ _ _ = ⊥

-- What the files of these names give, where so many bytes of media may still come: a fault is that of the first file, or
-- comes after it.
abbrev pub FilesGive : (List ℕ → Option (List ℕ)) → ℕ → List (List ℕ) → Answers → Type 0
FilesGive files room [] (Ok media) = media ≡ []
FilesGive files room [] (Err e) = ⊥
FilesGive files room (name ∷ names) (Ok []) = ⊥
FilesGive files room (name ∷ names) (Ok (chunks ∷ media)) =
    FileGives room name (files name) (Ok chunks) × FilesGive files (room - media_of chunks) names (Ok media)
FilesGive files room (name ∷ names) (Err e) =
    FileGives room name (files name) (Err e)
    ⊎ ((chunks : List Chunk) × FileGives room name (files name) (Ok chunks)
    × FilesGive files (room - media_of chunks) names (Err e))

-- What the chunk files of a script give.
abbrev pub GivesMedia : (List ℕ → Option (List ℕ)) → ScriptData → Answers → Type 0
GivesMedia files s answer = FilesGive files (most_media - s.inline) s.chunk_files answer

-- The name is that of a chunk file that the script mentions, before which each gave its chunks.
pub record IsReached (content : Option (List ℕ → Option (List ℕ))) (s : ScriptData) (name : List ℕ) : Type 0 where
  pub number : ℕ
  pub is_name : slice_get s.chunk_files number ≡ Some name
  pub before : IfSome content (λ files. (media : List (List Chunk)) × FilesGive files (most_media - s.inline) (take number s.chunk_files) (Ok media))

-- What is known, after an answer, of the names whose read failed: that of a file that was not read came, and none where no
-- file was at fault for that. Where memory was wanted nothing is known.
abbrev pub FailedBy : {T : Type 0} → List (List ℕ) → List (List ℕ) → Result T (Stop Fault) → Type 0
FailedBy before now (Err (stop.Fault (fault.Unread name))) = now ≡ before ++ name ∷ []
FailedBy before now (Err stop.NoMemory) = Unit {0}
FailedBy before now _ = now ≡ before

-- When a fault may come: each as the files hold it, where they tell; a file that was not read only where the count of
-- faults rose, after those before it gave their chunks; and one that is too long, where it is not told, only where the count of bytes read rose by as much. No other
-- fault comes.
abbrev pub MayFail : Option (List ℕ → Option (List ℕ)) → ScriptData → ℕ → ℕ → ℕ → ℕ → Stop Fault → Type 0
MayFail content s faults_before faults_after bytes_before bytes_after (stop.Fault (fault.Unread name)) =
    IsReached content s name × Rose faults_before faults_after
MayFail content s faults_before faults_after bytes_before bytes_after (stop.Fault (fault.TooMany counted.File)) =
    MatchOption content (RoseBy (most_file + 1) bytes_before bytes_after)
    (λ files. GivesMedia files s (Err (stop.Fault (fault.TooMany counted.File))))
MayFail content s faults_before faults_after bytes_before bytes_after (stop.Fault (fault.Chunks name e)) =
    IfSome content (λ files. GivesMedia files s (Err (stop.Fault (fault.Chunks name e))))
MayFail content s faults_before faults_after bytes_before bytes_after (stop.Fault (fault.TooMany counted.Chunk)) =
    IfSome content (λ files. GivesMedia files s (Err (stop.Fault (fault.TooMany counted.Chunk))))
MayFail content s faults_before faults_after bytes_before bytes_after (stop.Fault (fault.TooMany counted.Media)) =
    IfSome content (λ files. GivesMedia files s (Err (stop.Fault (fault.TooMany counted.Media))))
MayFail content s faults_before faults_after bytes_before bytes_after stop.NoMemory = Unit {0}
MayFail _ _ _ _ _ _ _ = ⊥

-- the same of one file
abbrev pub MayFailAt : Option (List ℕ → Option (List ℕ)) → ℕ → List ℕ → ℕ → ℕ → ℕ → ℕ → Stop Fault → Type 0
MayFailAt content room name faults_before faults_after bytes_before bytes_after (stop.Fault (fault.Unread n)) =
    (n ≡ name) × Rose faults_before faults_after
MayFailAt content room name faults_before faults_after bytes_before bytes_after (stop.Fault (fault.TooMany counted.File)) =
    MatchOption content (RoseBy (most_file + 1) bytes_before bytes_after)
    (λ files. FileGives room name (files name) (Err (stop.Fault (fault.TooMany counted.File))))
MayFailAt content room name faults_before faults_after bytes_before bytes_after (stop.Fault (fault.Chunks n e)) =
    IfSome content (λ files. FileGives room name (files name) (Err (stop.Fault (fault.Chunks n e))))
MayFailAt content room name faults_before faults_after bytes_before bytes_after (stop.Fault (fault.TooMany counted.Chunk)) =
    IfSome content (λ files. FileGives room name (files name) (Err (stop.Fault (fault.TooMany counted.Chunk))))
MayFailAt content room name faults_before faults_after bytes_before bytes_after (stop.Fault (fault.TooMany counted.Media)) =
    IfSome content (λ files. FileGives room name (files name) (Err (stop.Fault (fault.TooMany counted.Media))))
MayFailAt content room name faults_before faults_after bytes_before bytes_after stop.NoMemory = Unit {0}
MayFailAt _ _ _ _ _ _ _ _ = ⊥
