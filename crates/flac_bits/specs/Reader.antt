-- What the calls of a reader of bits answer.
use Rattle.std.specs.Prelude.{◌≡◌, Option, Some, None, Result, Ok, Err}
use Rattle.flac_definitions.specs.Bits.{Place}
use Rattle.flac_bits.specs.declared.reader.End.{End}

-- what a call answered, and where the reader stands then; it stays where it was where the call failed
abbrev pub Takes : {X : Type 0} → Option (X × Place) → Result X End → Place → Place → Type 0
Takes read (Ok x) old new = read ≡ Some (x, new)
Takes read (Err e) old new = (read ≡ None) × (new ≡ old)
