-- What calls that read a header answer.
use Rattle.std.specs.Prelude.{◌≡◌, ◌≤◌, Result, Ok, Err}
use Rattle.flac_definitions.specs.Bits.{Place}
use Rattle.flac_definitions.specs.Header.{if_described}
use Rattle.flac_definitions.specs.declared.fault.HeaderFault.{HeaderFault}
use Rattle.flac_definitions.specs.declared.header.FrameHeader.{FrameHeader}
use Rattle.wc_config.specs.declared.stream_info.StreamInfo.{StreamInfo}

-- what a call returned, and where the reader stands then, is what reading gives
abbrev pub Gives : {X : Type 0} → Result (X × Place) HeaderFault → Result X HeaderFault → Place → Type 0
Gives read (Ok x) new = read ≡ Ok (x, new)
Gives read (Err e) new = read ≡ Err e

-- what a test of a header answered, whatever place is behind it
abbrev pub Agrees : StreamInfo → FrameHeader → Result FrameHeader HeaderFault → Type 0
Agrees info h (Ok x) = (p : Place) → if_described info (h, p) ≡ Ok (x, p)
Agrees info h (Err e) = (p : Place) → if_described info (h, p) ≡ Err e

-- the same bytes, at no earlier place
pub record Onward (old new : Place) : Type 0 where
  pub same : new.bytes ≡ old.bytes
  pub later : old.at ≤ new.at
