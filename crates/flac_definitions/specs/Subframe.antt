-- Subframes as they are read (RFC 9639, section 9.2): the samples and the place behind them, or none.
use Rattle.std.specs.Prelude.{ℕ, zero, suc, ℤ, pos, ◌*ℤ◌, ◌+◌, ◌-◌, ◌/◌, ◌%◌, ◌^◌, ◌==◌, ◌&&◌, nat_lt, not, List, [], ◌∷◌, ◌++◌, reverse, replicate, map, length, Option, Some, None, if◌then◌else◌}
use Rattle.flac_definitions.specs.Bits.{Place, number_at, zeros_at}
use Rattle.flac_definitions.specs.Options.{◌>>=◌}
use Rattle.flac_definitions.specs.Results.{without_fault}
use Rattle.flac_definitions.specs.Residual.{signed_number, residual_at}
use Rattle.flac_definitions.specs.Prediction.{samples_behind, fixed_coefficients}
use Rattle.flac_definitions.specs.Stereo.{channel_depth}

-- a number in two's complement of so many bits
abbrev pub signed_at : ℕ → Place → Option (ℤ × Place)
signed_at size p = number_at size p >>= λ x. Some (signed_number size x.0, x.1)

-- samples in front of those that were read
abbrev pub in_front_of : List ℤ → Option (List ℤ × Place) → Option (List ℤ × Place)
in_front_of front None = None
in_front_of front (Some x) = Some (front ++ x.0, x.1)

-- samples that are kept as they are: a verbatim subframe, or those that a predictor starts from
abbrev pub samples_at : ℕ → ℕ → Place → Option (List ℤ × Place)
samples_at depth zero p = Some ([], p)
samples_at depth (suc n) p = signed_at depth p >>= λ x. in_front_of (x.0 ∷ []) (samples_at depth n x.1)

abbrev pub with_place : List ℤ → Place → Option (List ℤ) → Option (List ℤ × Place)
with_place front p None = None
with_place front p (Some tail) = Some (front ++ tail, p)

-- a residual, and the samples that it gives behind those in front
abbrev pub predictor_at : List ℤ → ℕ → ℕ → ℕ → List ℤ → Place → Option (List ℤ × Place)
predictor_at coefficients shift depth block front p =
    without_fault (residual_at block (length coefficients) p) >>= λ x.
    with_place front x.1 (samples_behind coefficients shift depth (reverse front) x.0)

unfoldable pub fixed_at : ℕ → ℕ → ℕ → Place → Option (List ℤ × Place)
fixed_at order depth block p =
    if nat_lt block order then None
    else (samples_at depth order p >>= λ front.
    predictor_at (fixed_coefficients order) 0 depth block front.0 front.1)

-- coefficients and a shift: a precision of 16 bits and a negative shift are forbidden
abbrev pub coefficients_at : ℕ → Place → Option ((List ℤ × ℕ) × Place)
coefficients_at order p =
    number_at 4 p >>= λ precision.
    number_at 5 precision.1 >>= λ shift.
    if nat_lt precision.0 15 && nat_lt shift.0 16
    then (samples_at (precision.0 + 1) order shift.1 >>= λ x. Some ((x.0, shift.0), x.1))
    else None

unfoldable pub linear_at : ℕ → ℕ → ℕ → Place → Option (List ℤ × Place)
linear_at order depth block p =
    if nat_lt block order then None
    else (samples_at depth order p >>= λ front.
    coefficients_at order front.1 >>= λ c.
    predictor_at c.0.0 c.0.1 depth block front.0 c.1)

unfoldable pub constant_at : ℕ → ℕ → Place → Option (List ℤ × Place)
constant_at depth block p = signed_at depth p >>= λ x. Some (replicate block x.0, x.1)

-- by the type in a subframe's header: the others are reserved
abbrev pub body_at : ℕ → ℕ → ℕ → Place → Option (List ℤ × Place)
body_at kind depth block p =
    if kind == 0 then constant_at depth block p
    else if kind == 1 then samples_at depth block p
    else if nat_lt kind 8 then None
    else if nat_lt kind 13 then fixed_at (kind - 8) depth block p
    else if nat_lt kind 32 then None
    else linear_at (kind - 31) depth block p

-- how many low bits of each sample are 0 and not kept
abbrev pub wasted_bits_at : ℕ → Place → Option (ℕ × Place)
wasted_bits_at flag p = if flag == 0 then Some (0, p) else (zeros_at p >>= λ k. Some (k.0 + 1, k.1))

abbrev pub with_wasted_bits : ℕ → List ℤ → List ℤ
with_wasted_bits wasted samples = map (λ s. s *ℤ pos (2 ^ wasted)) samples

-- a subframe: a 0, its type in 6 bits, a flag, the wasted bits that it announces, and the body; the depth that is left is
-- at least 1
unfoldable pub subframe_at : ℕ → ℕ → Place → Option (List ℤ × Place)
subframe_at depth block p =
    number_at 8 p >>= λ head.
    if not (nat_lt head.0 128) then None
    else (wasted_bits_at (head.0 % 2) head.1 >>= λ wasted.
    if not (nat_lt wasted.0 depth) then None
    else (body_at (head.0 / 2) (depth - wasted.0) block wasted.1 >>= λ x.
    Some (with_wasted_bits wasted.0 x.0, x.1)))

-- so many coded channels one after another, from a channel on
abbrev pub channels_at : ℕ → ℕ → ℕ → ℕ → ℕ → Place → Option (List ℤ × Place)
channels_at assignment depth block channel zero p = Some ([], p)
channels_at assignment depth block channel (suc n) p =
    subframe_at (channel_depth assignment depth channel) block p >>= λ x.
    in_front_of x.0 (channels_at assignment depth block (channel + 1) n x.1)
