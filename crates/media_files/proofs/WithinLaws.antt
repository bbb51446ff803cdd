-- What the chunks of files hold is within its types.
use Rattle.std.proofs.Common.{◌≡◌, ◌-◌, ℕ, List, [], ◌∷◌, Option, Some, None, Ok, refl, sym, subst}
use Rattle.std.specs.List.{AllByRecursion}
use Rattle.hex.specs.Hex.{IsBytes}
use Rattle.wc_chunk.specs.declared.chunk.Chunk.{Chunk}
use Rattle.wc_demux.specs.Within.{IsSmallChunk, MediaAreSmall}
use Rattle.script_types.specs.Sound.{most_media}
use Rattle.media_files.specs.Media.{AreChunks, media_of, FileGives, FilesGive}
use Rattle.media_files.specs.Within.{HoldBytes, MediaAreWithin}

file_small : MediaAreSmall → (bytes : List ℕ) (chunks : List Chunk) → IsBytes bytes → AreChunks bytes chunks → AllByRecursion IsSmallChunk chunks
file_small law bytes chunks h a = subst (AllByRecursion IsSmallChunk) (sym a.holds) (law bytes a.medium h a.short a.file)

given_small : MediaAreSmall → (room : ℕ) (name : List ℕ) (o : Option (List ℕ)) (chunks : List Chunk) → ((bytes : List ℕ) → o ≡ Some bytes → IsBytes bytes) → FileGives room name o (Ok chunks) → AllByRecursion IsSmallChunk chunks
given_small law room name None chunks h g = absurd g
given_small law room name (Some bytes) chunks h g = file_small law bytes chunks (h bytes refl) g.0

files_small : MediaAreSmall → (files : List ℕ → Option (List ℕ)) → HoldBytes files → (room : ℕ) (names : List (List ℕ)) (media : List (List Chunk)) → FilesGive files room names (Ok media) → AllByRecursion (AllByRecursion IsSmallChunk) media
files_small law files h room [] media g = subst (AllByRecursion (AllByRecursion IsSmallChunk)) (sym g) tt
files_small law files h room (name ∷ names) [] g = absurd g
files_small law files h room (name ∷ names) (chunks ∷ media) g =
    (given_small law room name (files name) chunks (h name) g.0, files_small law files h (room - media_of chunks) names media g.1)

pub media_small : MediaAreSmall → MediaAreWithin
media_small law files s media h g = files_small law files h (most_media - s.inline) s.chunk_files media g
