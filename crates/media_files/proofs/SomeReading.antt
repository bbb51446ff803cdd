-- The chunk files of a script give something, as the bytes of a media file do.
use Rattle.std.proofs.Common.{ℕ, ◌≡◌, ◌+◌, ◌-◌, ◌<◌, ◌≤◌, ◌⊎◌, inl, inr, Bool, true, false, List, [], ◌∷◌, length, Option, Some, None, Result, Ok, Err, nat_lt, refl, arith}
use Rattle.std.proofs.lemmas.Bool.Decides.{nat_tests}
use Rattle.wc_chunk.specs.declared.chunk.Chunk.{Chunk}
use Rattle.chunk_files.specs.declared.fault.Stop.{Stop}
use Rattle.wc_demux.specs.Media.{IsMediaRead, media_chunks}
use Rattle.script_types.specs.{declared.fault.Counted.Counted, declared.fault.Fault.Fault, Limits.most_file}
use Rattle.media_files.specs.Media.{Answer, Answers, media_of, are_small, AreChunks, FileGives, FilesGive}

is_more : (a b : ℕ) → nat_lt a b ≡ true → a < b
is_more a b h = grind (arith, nat_tests)

not_more : (a b : ℕ) → nat_lt a b ≡ false → b ≤ a
not_more a b h = grind (arith, nat_tests)

by_room : (room : ℕ) (name bytes : List ℕ) (chunks : List Chunk) → AreChunks bytes chunks → are_small chunks ≡ true → (b : Bool) → nat_lt room (media_of chunks) ≡ b → (a : Answer) × FileGives room name (Some bytes) a
by_room room name bytes chunks file small true h = (Err (Stop.Fault (Fault.TooMany Counted.Media)), (chunks, file, small, is_more room (media_of chunks) h))
by_room room name bytes chunks file small false h = (Ok chunks, (file, small, not_more room (media_of chunks) h))

by_size : (room : ℕ) (name bytes : List ℕ) (chunks : List Chunk) → AreChunks bytes chunks → (b : Bool) → are_small chunks ≡ b → (a : Answer) × FileGives room name (Some bytes) a
by_size room name bytes chunks file true h = by_room room name bytes chunks file h (nat_lt room (media_of chunks)) refl
by_size room name bytes chunks file false h = (Err (Stop.Fault (Fault.TooMany Counted.Chunk)), (chunks, file, h))

by_read : (room : ℕ) (name bytes : List ℕ) → length bytes ≤ most_file → IsMediaRead bytes → (a : Answer) × FileGives room name (Some bytes) a
by_read room name bytes short (inl r) =
    let chunks = media_chunks r.0 in by_size room name bytes chunks (record { short = short; medium = r.0; file = r.1; holds = refl }) (are_small chunks) refl
by_read room name bytes short (inr r) = (Err (Stop.Fault (Fault.Chunks name r.0)), (refl, short, r.1))

by_length : (room : ℕ) (name bytes : List ℕ) → IsMediaRead bytes → (b : Bool) → nat_lt most_file (length bytes) ≡ b → (a : Answer) × FileGives room name (Some bytes) a
by_length room name bytes read true h = (Err (Stop.Fault (Fault.TooMany Counted.File)), is_more most_file (length bytes) h)
by_length room name bytes read false h = by_read room name bytes (not_more most_file (length bytes) h) read

file_gives : ((bytes : List ℕ) → IsMediaRead bytes) → (room : ℕ) (name : List ℕ) (o : Option (List ℕ)) → (a : Answer) × FileGives room name o a
file_gives read room name None = (Err (Stop.Fault (Fault.Unread name)), refl)
file_gives read room name (Some bytes) = by_length room name bytes (read bytes) (nat_lt most_file (length bytes)) refl

after_rest : (files : List ℕ → Option (List ℕ)) (room : ℕ) (name : List ℕ) (names : List (List ℕ)) (chunks : List Chunk) → FileGives room name (files name) (Ok chunks) → (a : Answers) → FilesGive files (room - media_of chunks) names a → (a : Answers) × FilesGive files room (name ∷ names) a
after_rest files room name names chunks one (Ok media) rest = (Ok (chunks ∷ media), (one, rest))
after_rest files room name names chunks one (Err e) rest = (Err e, inr (chunks, one, rest))

after_file : (files : List ℕ → Option (List ℕ)) (room : ℕ) (name : List ℕ) (names : List (List ℕ)) → ((left : ℕ) → (a : Answers) × FilesGive files left names a) → (a : Answer) → FileGives room name (files name) a → (a : Answers) × FilesGive files room (name ∷ names) a
after_file files room name names rest (Ok chunks) one = let more = rest (room - media_of chunks) in after_rest files room name names chunks one more.0 more.1
after_file files room name names rest (Err e) one = (Err e, inl one)

pub files_give : ((bytes : List ℕ) → IsMediaRead bytes) → (files : List ℕ → Option (List ℕ)) (room : ℕ) (names : List (List ℕ)) → (a : Answers) × FilesGive files room names a
files_give read files room [] = (Ok [], refl)
files_give read files room (name ∷ names) =
    let one = file_gives read room name (files name) in
    after_file files room name names (λ left. files_give read files left names) one.0 one.1
