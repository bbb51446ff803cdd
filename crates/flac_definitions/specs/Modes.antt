-- How the channels of a block are coded, and the first mode of least length (RFC 9639, sections 4.2 and 9.1.3; the choice is ours).
use Rattle.std.specs.Prelude.{ℕ, ℤ, pos, ◌≡◌, ◌<◌, ◌≤◌, ◌-◌, ◌*◌, ◌+ℤ◌, ◌-ℤ◌, ◌==◌, ◌&&◌, ◌||◌, nat_lt, nat_le, Bool, List, [], ◌∷◌, ◌++◌, length, take, drop, sum_by, slice_index_or, if◌then◌else◌, IsTrue}
use Rattle.std.specs.Int.{int_div_euclid}
use Rattle.std.specs.List.{range_with_len}
use Rattle.flac_definitions.specs.Stereo.{channel_depth}
use Rattle.flac_definitions.specs.Candidates.{candidate_bits, best_candidate, first_shortest, IsChoice}
use Rattle.flac_definitions.specs.SubframeWriting.{HaveDepth}
use Rattle.flac_definitions.specs.declared.candidate.Candidate.{Candidate}
use Rattle.flac_definitions.specs.declared.candidate.Choice.{Choice}
use Rattle.flac_definitions.specs.declared.mode.BlockFormat.{BlockFormat}
use Rattle.flac_definitions.specs.declared.mode.ChannelMode.{ChannelMode}
use Rattle.flac_definitions.specs.declared.mode.ChannelMode.TheVariants.{Independent, LeftSide, SideRight, MidSide}
use Rattle.flac_definitions.specs.declared.mode.BlockChoice.{BlockChoice}

-- a channel of a block, whose channels stand one after another
abbrev pub channel_of : ℕ → List ℤ → ℕ → List ℤ
channel_of block xs c = take block (drop (c * block) xs)

-- two channels, sample by sample
abbrev pub pairwise : (ℤ → ℤ → ℤ) → List ℤ → List ℤ → List ℤ
pairwise f [] ys = []
pairwise f (x ∷ xs) [] = []
pairwise f (x ∷ xs) (y ∷ ys) = f x y ∷ pairwise f xs ys

abbrev pub side_of : ℤ → ℤ → ℤ
side_of left right = left -ℤ right

-- half of the sum, rounded down
abbrev pub mid_of : ℤ → ℤ → ℤ
mid_of left right = int_div_euclid (left +ℤ right) (pos 2)

-- the coded channels of a block, one after another
abbrev pub coded_of : ChannelMode → ℕ → List ℤ → List ℤ
coded_of Independent block xs = xs
coded_of LeftSide block xs = take block xs ++ pairwise side_of (take block xs) (drop block xs)
coded_of SideRight block xs = pairwise side_of (take block xs) (drop block xs) ++ drop block xs
coded_of MidSide block xs = pairwise mid_of (take block xs) (drop block xs) ++ pairwise side_of (take block xs) (drop block xs)

-- the assignment in the frame's header (section 9.1.3)
abbrev pub assignment_of : ℕ → ChannelMode → ℕ
assignment_of channels Independent = channels - 1
assignment_of channels LeftSide = 8
assignment_of channels SideRight = 9
assignment_of channels MidSide = 10

-- the bits a sample of a coded channel
abbrev pub coded_depth : BlockFormat → ChannelMode → ℕ → ℕ
coded_depth f mode c = channel_depth (assignment_of f.channels mode) f.depth c

-- the first candidate of least length of a coded channel, and its bits
abbrev pub channel_candidate : BlockFormat → ChannelMode → ℕ → List ℤ → ℕ → Candidate
channel_candidate f mode block coded c = best_candidate (coded_depth f mode c) f.level (channel_of block coded c)

abbrev pub channel_bits : BlockFormat → ChannelMode → ℕ → List ℤ → ℕ → ℕ
channel_bits f mode block coded c =
    candidate_bits (coded_depth f mode c) (channel_of block coded c) (channel_candidate f mode block coded c)

-- the bits of all subframes of a block in a mode
abbrev pub mode_bits : BlockFormat → ℕ → List ℤ → ChannelMode → ℕ
mode_bits f block xs mode = sum_by (channel_bits f mode block (coded_of mode block xs)) (range_with_len 0 f.channels)

-- whether a pair of channels may be coded otherwise than each by itself
abbrev pub has_pairs : BlockFormat → Bool
has_pairs f = (f.channels == 2) && (nat_lt f.depth 32 && nat_le 2 f.level)

-- the modes behind the first, in order
abbrev pub pair_modes : List ChannelMode
pair_modes = LeftSide ∷ SideRight ∷ MidSide ∷ []

abbrev pub other_modes : BlockFormat → List ChannelMode
other_modes f = if has_pairs f then pair_modes else []

-- the first mode of least length
abbrev pub best_mode : BlockFormat → ℕ → List ℤ → ChannelMode
best_mode f block xs = first_shortest (mode_bits f block xs) Independent (other_modes f)

-- a mode that a format's blocks may have
abbrev pub IsModeOf : BlockFormat → ChannelMode → Type 0
IsModeOf f Independent = Unit {0}
IsModeOf f _ = f.channels ≡ 2

-- a format: 1 to 8 channels of 8, 16, 24 or 32 bits a sample, and a level of 0 to 8
pub record IsFormat (f : BlockFormat) : Type 0 where
  pub some : 1 ≤ f.channels
  pub few : f.channels ≤ 8
  pub depth : IsTrue ((f.depth == 8) || (f.depth == 16) || (f.depth == 24) || (f.depth == 32))
  pub level : f.level ≤ 8

-- a block: 1 to 65535 samples of each channel, all of the format's depth
pub record IsBlock (f : BlockFormat) (block : ℕ) (xs : List ℤ) : Type 0 where
  pub some : 0 < block
  pub few : block ≤ 65535
  pub count : length xs ≡ f.channels * block
  pub samples : HaveDepth f.depth xs

-- choices for the coded channels, each of them the first of least length
abbrev pub AreChoices : BlockFormat → ChannelMode → ℕ → List ℤ → List Choice → Type 0
AreChoices f mode block coded choices =
    (c : ℕ) (d : Choice) → c < f.channels
    → IsChoice (coded_depth f mode c) (channel_of block coded c) (channel_candidate f mode block coded c) (slice_index_or choices c d)

-- the best block: the first mode of least length, its coded channels, and the first subframe of least length of each
pub record IsBestBlock (f : BlockFormat) (block : ℕ) (xs : List ℤ) (choice : BlockChoice) : Type 0 where
  pub mode : choice.mode ≡ best_mode f block xs
  pub coded : choice.coded.items ≡ coded_of choice.mode block xs
  pub count : length choice.choices.items ≡ f.channels
  pub choices : AreChoices f choice.mode block choice.coded.items choice.choices.items
