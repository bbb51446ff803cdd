-- What the chunks of media files hold is within the types that carry it, where files hold bytes (our choice: 64 bits, and
-- bytes).
use Rattle.std.specs.Prelude.{◌<◌, ◌≤◌, ◌^◌, ℕ, List, length}
use Rattle.std.specs.Option.{IfSome}
use Rattle.std.specs.List.{AllByRecursion}
use Rattle.std.specs.Int.Signed.{mag}
use Rattle.hex.specs.Hex.{IsBytes}
use Rattle.wc_chunk.specs.declared.chunk.Chunk.{Chunk}
use Rattle.wc_demux.specs.Media.{IsMediaFile, media_chunks}
use Rattle.wc_demux.specs.declared.media.MediaFile.{MediaFile}

-- a timestamp has 64 bits with its sign, a duration 64, and the chunk holds bytes
pub record IsSmallChunk (c : Chunk) : Type 0 where
  pub timestamp : mag c.timestamp < 2 ^ 63
  pub duration : IfSome c.duration (λ n. n < 2 ^ 64)
  pub content : IsBytes c.bytes

-- the same of all chunks of a medium, where the file is as long as a file may be
abbrev pub MediaAreSmall : Type 0
MediaAreSmall =
    (bytes : List ℕ) (medium : MediaFile) → IsBytes bytes → length bytes ≤ 268435456 → IsMediaFile medium bytes
    → AllByRecursion IsSmallChunk (media_chunks medium)
