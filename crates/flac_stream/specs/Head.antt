-- The head of a native FLAC stream (RFC 9639, sections 6 to 8), read from bytes that may end within it. Heads are those of
-- native FLAC files: the mark, a STREAMINFO block, and other metadata blocks up to one that is marked as the last.
use Rattle.std.specs.Prelude.{ℕ, ◌≡◌, ◌+◌, ◌-◌, ◌/◌, ◌%◌, ◌==◌, nat_le, List, [], ◌∷◌, ◌++◌, slice_index, Option, Some, None, Ok, if◌then◌else◌}
use Rattle.flac_definitions.specs.BitLaws.{IsBytes}
use Rattle.wc_config.specs.declared.stream_info.StreamInfo.{StreamInfo}
use Rattle.wc_demux.specs.Parts.{Part}
use Rattle.wc_demux.specs.Flac.{head_of, blocks_from, block_size}
use Rattle.flac_stream.specs.declared.head.SeekTable.{SeekTable}
use Rattle.flac_stream.specs.declared.head.HeadRead.{HeadRead}
use Rattle.flac_stream.specs.declared.head.HeadRead.TheVariants as read

-- with some bytes behind them, bytes begin with a head
pub record GoesOn (bytes : List ℕ) : Type 0 where
  pub more : List ℕ
  pub are_bytes : IsBytes more
  pub head : StreamInfo × ℕ
  pub whole : head_of (bytes ++ more) ≡ Ok head

-- the seek table that a block is (section 8.5): one of type 3, whose points have 18 bytes each
abbrev pub seek_table_at : Part → Option SeekTable
seek_table_at block =
    if slice_index block.bytes 0 % 128 == 3
    then Some (record { at = block.at + 4; count = (block_size block.bytes - 4) / 18 })
    else None

abbrev pub first_of : Option SeekTable → Option SeekTable → Option SeekTable
first_of None other = other
first_of (Some table) other = Some table

-- the first seek table among blocks, up to the last block
abbrev pub seek_table_in : List Part → Option SeekTable
seek_table_in [] = None
seek_table_in (block ∷ blocks) =
    first_of (seek_table_at block) (if nat_le 128 (slice_index block.bytes 0) then None else seek_table_in blocks)

-- The head with which bytes begin, and its seek table; or that they go on to one; or that they do not, whatever follows.
abbrev pub IsHeadRead : List ℕ → HeadRead → Type 0
IsHeadRead bytes (read.Head h) =
    (head_of bytes ≡ Ok (h.info, h.first_frame)) × (h.seek_table ≡ seek_table_in (blocks_from bytes 4))
IsHeadRead bytes read.NeedMore = ((h : StreamInfo × ℕ) → head_of bytes ≡ Ok h → ⊥) × GoesOn bytes
IsHeadRead bytes read.Refused = GoesOn bytes → ⊥
