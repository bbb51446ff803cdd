-- What the chunks of files hold is within the types that carry it, where files hold bytes.
use Rattle.std.specs.Prelude.{◌≡◌, ℕ, List, Option, Some, Ok}
use Rattle.std.specs.List.{AllByRecursion}
use Rattle.hex.specs.Hex.{IsBytes}
use Rattle.wc_chunk.specs.declared.chunk.Chunk.{Chunk}
use Rattle.wc_demux.specs.Within.{IsSmallChunk}
use Rattle.script_types.specs.declared.script.ScriptData.{ScriptData}
use Rattle.media_files.specs.Media.{GivesMedia}

-- what the files hold is bytes
abbrev pub HoldBytes : (List ℕ → Option (List ℕ)) → Type 0
HoldBytes files = (name bytes : List ℕ) → files name ≡ Some bytes → IsBytes bytes

abbrev pub MediaAreWithin : Type 0
MediaAreWithin =
    (files : List ℕ → Option (List ℕ)) (s : ScriptData) (media : List (List Chunk)) → HoldBytes files → GivesMedia files s (Ok media)
    → AllByRecursion (AllByRecursion IsSmallChunk) media
