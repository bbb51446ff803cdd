-- Laws of the codes and intervals of both laws (ITU-T G.711).
use Rattle.std.specs.Prelude.{ℕ, ℤ, ◌≡◌, ◌≢◌, ◌≤◌, ◌<◌, ◌^◌, Bool}
use Rattle.codec_definitions.specs.G711.{ulaw_magnitude, ulaw_value, ulaw_code, IsInUlawInterval, IsUlawCodeOf, IsUlawCode, alaw_magnitude, alaw_value, alaw_code, IsInAlawInterval, IsAlawCodeOf, IsAlawCode}

-- the intervals of a sign meet nowhere: two codes that hold one magnitude are one
abbrev pub UlawIntervalsAreApart : Type 0
UlawIntervalsAreApart =
    (negative : Bool) (magnitude code other : ℕ) → IsUlawCodeOf negative magnitude code → IsUlawCodeOf negative magnitude other → code ≡ other

-- the intervals of a sign cover each magnitude up to where it is clipped
abbrev pub UlawIntervalsCover : Type 0
UlawIntervalsCover = (negative : Bool) (magnitude : ℕ) → magnitude ≤ 32635 → (code : ℕ) × IsUlawCodeOf negative magnitude code

-- so each value has a code, and no other
abbrev pub UlawEncodes : Type 0
UlawEncodes = (value : ℤ) → IsUlawCode value (ulaw_code value)

abbrev pub UlawEncodesOnce : Type 0
UlawEncodesOnce = (value : ℤ) (code : ℕ) → IsUlawCode value code → code ≡ ulaw_code value

-- what a code stands for lies in its interval
abbrev pub UlawDecodesWithin : Type 0
UlawDecodesWithin = (code : ℕ) → code < 256 → IsInUlawInterval code (ulaw_magnitude (ulaw_value code))

-- and has that code, but for the negative code of 0, since 0 is positive
abbrev pub UlawComesBack : Type 0
UlawComesBack = (code : ℕ) → code < 256 → code ≢ 0x7F → ulaw_code (ulaw_value code) ≡ code

abbrev pub AlawIntervalsAreApart : Type 0
AlawIntervalsAreApart =
    (negative : Bool) (magnitude code other : ℕ) → IsAlawCodeOf negative magnitude code → IsAlawCodeOf negative magnitude other → code ≡ other

-- the intervals of a sign cover each magnitude of a 16-bit value
abbrev pub AlawIntervalsCover : Type 0
AlawIntervalsCover = (negative : Bool) (magnitude : ℕ) → magnitude < 2 ^ 15 → (code : ℕ) × IsAlawCodeOf negative magnitude code

abbrev pub AlawEncodes : Type 0
AlawEncodes = (value : ℤ) → alaw_magnitude value < 2 ^ 15 → IsAlawCode value (alaw_code value)

abbrev pub AlawEncodesOnce : Type 0
AlawEncodesOnce = (value : ℤ) (code : ℕ) → IsAlawCode value code → code ≡ alaw_code value

abbrev pub AlawDecodesWithin : Type 0
AlawDecodesWithin = (code : ℕ) → code < 256 → IsInAlawInterval code (alaw_magnitude (alaw_value code))

abbrev pub AlawComesBack : Type 0
AlawComesBack = (code : ℕ) → code < 256 → alaw_code (alaw_value code) ≡ code
