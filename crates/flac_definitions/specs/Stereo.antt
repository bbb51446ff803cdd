-- Channels that are coded as a pair (RFC 9639, section 4.2).
use Rattle.std.specs.Prelude.{ℕ, ℤ, pos, ◌+ℤ◌, ◌-ℤ◌, ◌*ℤ◌, ◌+◌, ◌==◌, Bool, true, false, List, [], ◌∷◌, take, drop, Option, Some, None, if◌then◌else◌}
use Rattle.std.specs.Int.{int_div_euclid, int_rem_euclid}
use Rattle.flac_definitions.specs.Prediction.{fits_depth, with_sample, one_after_other}

-- left/side: the right sample
abbrev pub right_of_side : ℤ → ℤ → ℤ
right_of_side left side = left -ℤ side

-- side/right: the left sample
abbrev pub left_of_side : ℤ → ℤ → ℤ
left_of_side right side = side +ℤ right

-- mid/side: twice the middle, with the bit that halving lost, which is the side's last one
abbrev pub twice_of : ℤ → ℤ → ℤ
twice_of mid side = (pos 2 *ℤ mid) +ℤ int_rem_euclid side (pos 2)

abbrev pub left_of_mid : ℤ → ℤ → ℤ
left_of_mid side mid = int_div_euclid (twice_of mid side +ℤ side) (pos 2)

abbrev pub right_of_mid : ℤ → ℤ → ℤ
right_of_mid mid side = int_div_euclid (twice_of mid side -ℤ side) (pos 2)

-- a channel computed sample by sample from two; none where a sample does not fit the depth (our choice)
abbrev pub channel_by : (ℤ → ℤ → ℤ) → ℕ → List ℤ → List ℤ → Option (List ℤ)
channel_by f depth [] ys = Some []
channel_by f depth (x ∷ xs) [] = Some []
channel_by f depth (x ∷ xs) (y ∷ ys) =
    if fits_depth depth (f x y) then with_sample (f x y) (channel_by f depth xs ys) else None

-- two channels one after the other
abbrev pub channel_pair : Option (List ℤ) → Option (List ℤ) → Option (List ℤ)
channel_pair None right = None
channel_pair (Some left) right = one_after_other left right

-- The channels of a frame, one after another, from its coded ones: 8 is left/side, 9 side/right, 10 mid/side, and the
-- others leave them as they are (RFC 9639, section 9.1.3). None where a sample does not fit the depth (our choice).
unfoldable pub plain_channels : ℕ → ℕ → ℕ → List ℤ → Option (List ℤ)
plain_channels assignment depth block coded =
    let first = take block coded in
    let second = drop block coded in
    if assignment == 8 then one_after_other first (channel_by right_of_side depth first second)
    else if assignment == 9 then channel_pair (channel_by left_of_side depth second first) (Some second)
    else if assignment == 10
    then channel_pair (channel_by left_of_mid depth second first) (channel_by right_of_mid depth first second)
    else Some coded

-- the channels that are a difference
abbrev pub is_side : ℕ → ℕ → Bool
is_side assignment channel =
    if channel == 0 then assignment == 9
    else if channel == 1 then (if assignment == 8 then true else assignment == 10)
    else false

-- the bits a sample of a coded channel: a difference has one more
abbrev pub channel_depth : ℕ → ℕ → ℕ → ℕ
channel_depth assignment depth channel = if is_side assignment channel then depth + 1 else depth
