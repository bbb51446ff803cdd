-- The next frame of a stream, behind damage: the first place at which a frame's header is read (RFC 9639, section 9.1: the
-- sync code, the fields, and the sum of the header's bytes), of a frame of the stream that is described.
use Rattle.std.specs.Prelude.{ℕ, ◌≡◌, ◌<◌, ◌≤◌, Bool, true, false, is_ok, List, take, drop, Option, Some, None, Result, Ok, Err}
use Rattle.wc_config.specs.declared.stream_info.StreamInfo.{StreamInfo}
use Rattle.flac_definitions.specs.Bits.{Place, start_of}
use Rattle.flac_definitions.specs.Header.{header_at}
use Rattle.flac_definitions.specs.declared.fault.HeaderFault.{HeaderFault}
use Rattle.flac_definitions.specs.declared.fault.HeaderFault.TheVariants as fault
use Rattle.flac_definitions.specs.declared.header.FrameHeader.{FrameHeader}
use Rattle.flac_decode.specs.FrameEnd.{most}
use Rattle.flac_stream.specs.declared.next.NextFrame.{NextFrame}
use Rattle.flac_stream.specs.declared.next.NextFrame.TheVariants as next

-- what reading a header from a place on gives; the first 2 ^ 61 - 1 bytes from there on are looked at (our choice)
abbrev pub header_from : StreamInfo → List ℕ → ℕ → Result (FrameHeader × Place) HeaderFault
header_from info bytes at = header_at info (start_of (take most (drop at bytes)))

-- reading it ended for want of bytes
abbrev pub is_short : HeaderFault → Bool
is_short (fault.Short bit) = true
is_short e = false

abbrev pub is_cut : {X : Type 0} → Result X HeaderFault → Bool
is_cut (Ok x) = false
is_cut (Err e) = is_short e

-- a header begins at a place; one may begin there that the end of the bytes cuts
abbrev pub has_header : StreamInfo → List ℕ → ℕ → Bool
has_header info bytes at = is_ok (header_from info bytes at)

abbrev pub has_cut_header : StreamInfo → List ℕ → ℕ → Bool
has_cut_header info bytes at = is_cut (header_from info bytes at)

-- a test fails at all places from one on and before another
abbrev pub FailsBetween : (ℕ → Bool) → ℕ → ℕ → Type 0
FailsBetween test from end = (i : ℕ) → from ≤ i → i < end → test i ≡ false

-- the first place from another on at which a test holds
pub record IsFirst (test : ℕ → Bool) (from at : ℕ) : Type 0 where
  pub behind : from ≤ at
  pub holds : test at ≡ true
  pub none : FailsBetween test from at

-- The first header from a place on; or that there is none, and the first that may be cut.
abbrev pub IsNextFrame : StreamInfo → List ℕ → ℕ → NextFrame → Type 0
IsNextFrame info bytes from (next.Found at) = IsFirst (has_header info bytes) from at
IsNextFrame info bytes from (next.Missing at) =
    ((i : ℕ) → from ≤ i → has_header info bytes i ≡ false) × IsFirst (has_cut_header info bytes) from at

-- the first header from a place on, if there is one
abbrev pub IsFirstHeader : StreamInfo → List ℕ → ℕ → Option ℕ → Type 0
IsFirstHeader info bytes from (Some at) = IsFirst (has_header info bytes) from at
IsFirstHeader info bytes from None = (i : ℕ) → from ≤ i → has_header info bytes i ≡ false
