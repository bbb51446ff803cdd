-- What the search for the first mode of least length goes by.
use Rattle.std.specs.Prelude.{ℕ, ℤ, ◌<◌, ◌+◌, List}
use Rattle.flac_definitions.specs.Candidates.{best_candidate, IsChoice}
use Rattle.flac_definitions.specs.SubframeWriting.{HaveDepth}
use Rattle.flac_definitions.specs.Modes.{channel_of, coded_depth}
use Rattle.flac_definitions.specs.declared.candidate.Choice.{Choice}
use Rattle.flac_definitions.specs.declared.mode.BlockFormat.{BlockFormat}
use Rattle.flac_definitions.specs.declared.mode.ChannelMode.{ChannelMode}
use Rattle.flac_definitions.specs.declared.mode.ChannelMode.TheVariants.{Independent, LeftSide, SideRight, MidSide}

-- the first and the second of a mode's coded channels, of what is known of the left one, the right one, the side and the mid
abbrev pub first_of : {A : Type 0} → A → A → A → A → ChannelMode → A
first_of left right side mid Independent = left
first_of left right side mid LeftSide = left
first_of left right side mid SideRight = side
first_of left right side mid MidSide = mid

abbrev pub second_of : {A : Type 0} → A → A → A → A → ChannelMode → A
second_of left right side mid Independent = right
second_of left right side mid LeftSide = side
second_of left right side mid SideRight = right
second_of left right side mid MidSide = side

-- the bits of both
abbrev pub pair_bits : ℕ → ℕ → ℕ → ℕ → ChannelMode → ℕ
pair_bits left right side mid mode = first_of left right side mid mode + second_of left right side mid mode

-- a choice is the first of least length
abbrev pub IsBest : ℕ → ℕ → List ℤ → Choice → Type 0
IsBest depth level xs choice = IsChoice depth xs (best_candidate depth level xs) choice

-- samples whose coded channels all have their depth
abbrev pub AreFitting : BlockFormat → ChannelMode → ℕ → List ℤ → Type 0
AreFitting f mode block coded = (c : ℕ) → c < f.channels → HaveDepth (coded_depth f mode c) (channel_of block coded c)
