-- How the head of a stream is read: its description, and then block by block.
use Rattle.std.specs.Prelude.{ℕ, ◌≡◌, Bool, is_some, List, ◌∷◌, ◌++◌, drop, length, replicate, Option, Some, None, Ok}
use Rattle.wc_config.specs.Streams.{streaminfo_of}
use Rattle.wc_demux.specs.Flac.{place_behind, blocks_from}
use Rattle.flac_stream.specs.Head.{seek_table_in}
use Rattle.flac_stream.specs.declared.head.Blocks.{Blocks}

-- a description of which each bit that may differ is 1
abbrev pub all_ones : List ℕ
all_ones = 0x66 ∷ 0x4c ∷ 0x61 ∷ 0x43 ∷ 0x80 ∷ 0 ∷ 0 ∷ 34 ∷ replicate 34 255

-- fewer bytes than a description has are the first of one, if they are so with all its last bits 1
abbrev pub is_begun : List ℕ → Bool
is_begun bytes = is_some (streaminfo_of (bytes ++ drop (length bytes) all_ones))

-- the place behind the metadata blocks, and the first seek table; none where the blocks are cut
abbrev pub FindsBlocks : List ℕ → Option Blocks → Type 0
FindsBlocks bytes (Some b) =
    (place_behind (length bytes) (blocks_from bytes 4) ≡ Ok b.end) × (b.seek_table ≡ seek_table_in (blocks_from bytes 4))
FindsBlocks bytes None = (place : ℕ) → place_behind (length bytes) (blocks_from bytes 4) ≡ Ok place → ⊥
