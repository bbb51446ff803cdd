-- Where the reading of a frame ends for want of bits: a field, or zeros that a 1 ends, goes on behind the last bit. Readings
-- are those of RFC 9639, section 9, in their order.
use Rattle.std.specs.Prelude.{ℕ, zero, suc, ◌+◌, ◌-◌, ◌/◌, ◌%◌, ◌==◌, ◌&&◌, nat_lt, not, Bool, true, false, List, ℤ, take, Option, Some, None, Result, Ok, Err, if◌then◌else◌}
use Rattle.wc_config.specs.declared.stream_info.StreamInfo.{StreamInfo}
use Rattle.flac_definitions.specs.Bits.{Place, number_at, start_of}
use Rattle.flac_definitions.specs.Header.{header_at, channels_of}
use Rattle.flac_definitions.specs.Residual.{residual_at}
use Rattle.flac_definitions.specs.Subframe.{signed_at, samples_at, coefficients_at, wasted_bits_at, subframe_at, channels_at}
use Rattle.flac_definitions.specs.Stereo.{channel_depth}
use Rattle.flac_definitions.specs.Frame.{footer_at}
use Rattle.flac_definitions.specs.declared.fault.HeaderFault.{HeaderFault}
use Rattle.flac_definitions.specs.declared.fault.HeaderFault.TheVariants as header
use Rattle.flac_definitions.specs.declared.fault.ResidualFault.{ResidualFault}
use Rattle.flac_definitions.specs.declared.fault.ResidualFault.TheVariants as residual
use Rattle.flac_definitions.specs.declared.header.FrameHeader.{FrameHeader}
use Rattle.flac_decode.specs.FrameEnd.{most}

-- a reading of two parts, by the second where the first was read, and else by what is said of the first
abbrev pub in_order : {X : Type 0} → Option X → (X → Bool) → Bool → Bool
in_order (Some x) second first = second x
in_order None second first = first

-- a reading that nothing but want of bits ends
abbrev pub is_missing : {X : Type 0} → Option X → Bool
is_missing x = in_order x (λ _. false) true

abbrev pub short_residual : Result (List ℤ × Place) ResidualFault → Bool
short_residual (Ok x) = false
short_residual (Err (residual.Short bit)) = true
short_residual (Err e) = false

abbrev pub short_fixed : ℕ → ℕ → ℕ → Place → Bool
short_fixed order depth block p =
    if nat_lt block order then false
    else in_order (samples_at depth order p) (λ front. short_residual (residual_at block order front.1)) true

abbrev pub short_coefficients : ℕ → Place → Bool
short_coefficients order p =
    in_order (number_at 4 p) (λ precision.
    in_order (number_at 5 precision.1) (λ shift.
    if nat_lt precision.0 15 && nat_lt shift.0 16 then is_missing (samples_at (precision.0 + 1) order shift.1) else false) true) true

abbrev pub short_linear : ℕ → ℕ → ℕ → Place → Bool
short_linear order depth block p =
    if nat_lt block order then false
    else in_order (samples_at depth order p) (λ front.
    in_order (coefficients_at order front.1) (λ c. short_residual (residual_at block order c.1)) (short_coefficients order front.1)) true

-- by the subframe's type; the reserved ones are refused
abbrev pub short_body : ℕ → ℕ → ℕ → Place → Bool
short_body kind depth block p =
    if kind == 0 then is_missing (signed_at depth p)
    else if kind == 1 then is_missing (samples_at depth block p)
    else if nat_lt kind 8 then false
    else if nat_lt kind 13 then short_fixed (kind - 8) depth block p
    else if nat_lt kind 32 then false
    else short_linear (kind - 31) depth block p

abbrev pub short_subframe : ℕ → ℕ → Place → Bool
short_subframe depth block p =
    in_order (number_at 8 p) (λ head.
    if not (nat_lt head.0 128) then false
    else in_order (wasted_bits_at (head.0 % 2) head.1) (λ wasted.
    if not (nat_lt wasted.0 depth) then false
    else short_body (head.0 / 2) (depth - wasted.0) block wasted.1) true) true

abbrev pub short_channels : ℕ → ℕ → ℕ → ℕ → ℕ → Place → Bool
short_channels assignment depth block channel zero p = false
short_channels assignment depth block channel (suc n) p =
    let size = channel_depth assignment depth channel in
    in_order (subframe_at size block p) (λ x. short_channels assignment depth block (channel + 1) n x.1) (short_subframe size block p)

abbrev pub short_footer : Place → Bool
short_footer p =
    in_order (number_at ((8 - p.at % 8) % 8) p) (λ zeros. if not (zeros.0 == 0) then false else is_missing (number_at 16 zeros.1)) true

-- what stands behind a header
abbrev pub short_behind : FrameHeader × Place → Bool
short_behind h =
    let n = channels_of h.0.assignment in
    in_order (channels_at h.0.assignment h.0.depth h.0.block 0 n h.1) (λ coded. in_order (footer_at coded.1) (λ _. false) (short_footer coded.1))
    (short_channels h.0.assignment h.0.depth h.0.block 0 n h.1)

abbrev pub short_with : Result (FrameHeader × Place) HeaderFault → Bool
short_with (Ok h) = short_behind h
short_with (Err (header.Short bit)) = true
short_with (Err e) = false

abbrev pub short_frame : StreamInfo → Place → Bool
short_frame info p = short_with (header_at info p)

-- the reading of a frame at the front of bytes ends so
abbrev pub is_short : StreamInfo → List ℕ → Bool
is_short info bytes = short_frame info (start_of (take most bytes))
