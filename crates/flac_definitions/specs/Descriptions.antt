-- The description of a FLAC stream: its mark, and the block STREAMINFO with its header (RFC 9639, sections 6, 8.1 and 8.2).
use Rattle.std.specs.Prelude.{◌<◌, ◌≤◌, ◌-◌, ◌^◌, Bool, List, [], ◌∷◌, ◌++◌, codes}
use Rattle.flac_definitions.specs.Bits.{bits_of, bits_in}
use Rattle.wc_config.specs.declared.stream_info.StreamInfo.{StreamInfo}

-- each field fits its bits
pub record CanBeWritten (info : StreamInfo) : Type 0 where
  pub min_block : info.min_block < 2 ^ 16
  pub max_block : info.max_block < 2 ^ 16
  pub min_frame : info.min_frame < 2 ^ 24
  pub max_frame : info.max_frame < 2 ^ 24
  pub rate : info.rate < 2 ^ 20
  pub some_channels : 1 ≤ info.channels
  pub few_channels : info.channels ≤ 8
  pub some_depth : 1 ≤ info.depth
  pub few_depth : info.depth ≤ 32
  pub total : info.total < 2 ^ 36

-- the mark, and the header of a block of type 0 with 34 bytes, which is the last block or is not
abbrev pub head_bits : Bool → List Bool
head_bits last = bits_in (codes "fLaC") ++ (last ∷ []) ++ bits_of 7 0 ++ bits_of 24 34

-- the fields before the sum, each in its width
abbrev pub field_bits : StreamInfo → List Bool
field_bits info =
    bits_of 16 info.min_block ++ bits_of 16 info.max_block ++ bits_of 24 info.min_frame ++ bits_of 24 info.max_frame
    ++ bits_of 20 info.rate ++ bits_of 3 (info.channels - 1) ++ bits_of 5 (info.depth - 1) ++ bits_of 36 info.total

-- all of it
abbrev pub description_bits : Bool → StreamInfo → List Bool
description_bits last info = head_bits last ++ field_bits info ++ bits_in info.md5
