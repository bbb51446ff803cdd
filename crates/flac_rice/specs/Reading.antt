-- What calls that read values answer.
use Rattle.std.specs.Prelude.{ℕ, ℤ, ◌≡◌, ◌-◌, ◌≤◌, List, ◌++◌, Result, Ok, Err}
use Rattle.flac_definitions.specs.Bits.{Place}
use Rattle.flac_definitions.specs.declared.fault.ResidualFault.{ResidualFault}
use Rattle.flac_definitions.specs.declared.fault.ResidualFault.TheVariants as fault
use Rattle.flac_bits.specs.Window.{IsWindow}
use Rattle.flac_rice.specs.declared.value.Ahead.{Ahead}

-- the place of a bit of some bytes
abbrev pub place_in : List ℕ → ℕ → Place
place_in bytes at = record { bytes = bytes; at = at }

-- what was filled in, and the place behind it
abbrev pub Fills : Result (List ℤ × Place) ResidualFault → Result ℕ ResidualFault → List ℕ → List ℤ → Type 0
Fills read (Ok at) bytes values = read ≡ Ok (values, record { bytes = bytes; at = at })
Fills read (Err e) bytes values = read ≡ Err e

-- the same, of a reader
abbrev pub FillsIn : Result (List ℤ × Place) ResidualFault → Result (Unit {0}) ResidualFault → List ℤ → Place → Type 0
FillsIn read (Ok t) values p = read ≡ Ok (values, p)
FillsIn read (Err e) values p = read ≡ Err e

-- a value, and the place behind it
abbrev pub ReadsValue : Result (ℤ × Place) ResidualFault → Result (ℤ × ℕ) ResidualFault → List ℕ → Type 0
ReadsValue read (Ok x) bytes = read ≡ Ok (x.0, record { bytes = bytes; at = x.1 })
ReadsValue read (Err e) bytes = read ≡ Err e

-- The bits before `end`, of which `valid` are in the window.
pub record IsAhead (bytes : List ℕ) (end word valid : ℕ) : Type 0 where
  pub behind : valid ≤ end
  pub window : IsWindow bytes (end - valid) word valid

-- the bits at hand are those ahead of a place
abbrev pub AreAhead : List ℕ → Ahead → Type 0
AreAhead bytes a = IsAhead bytes a.end a.window.word a.window.valid

-- that place
abbrev pub place_before : Ahead → ℕ
place_before a = a.end - a.window.valid

-- a value that is read there, and the bits ahead of the place behind it
abbrev pub ReadsAhead : (Place → Result (ℤ × Place) ResidualFault) → List ℕ → Ahead → Result (ℤ × Ahead) ResidualFault → Type 0
ReadsAhead read bytes a (Ok x) = read (place_in bytes (place_before a)) ≡ Ok (x.0, place_in bytes (place_before x.1))
ReadsAhead read bytes a (Err e) = read (place_in bytes (place_before a)) ≡ Err e

-- what was appended, and the place behind it; a fault appends nothing
abbrev pub Appends : Result (List ℤ × Place) ResidualFault → Result (Unit {0}) ResidualFault → List ℤ → List ℤ → Place → Type 0
Appends read (Ok t) old new p = (values : List ℤ) × (read ≡ Ok (values, p)) × (new ≡ old ++ values)
Appends read (Err fault.NoMemory) old new p = new ≡ old
Appends read (Err e) old new p = (read ≡ Err e) × (new ≡ old)

-- what was appended, and the number of the place behind it
abbrev pub Places : Result (List ℤ × Place) ResidualFault → Result ℕ ResidualFault → List ℕ → List ℤ → List ℤ → Type 0
Places read (Ok at) bytes old new = (values : List ℤ) × (read ≡ Ok (values, record { bytes = bytes; at = at })) × (new ≡ old ++ values)
Places read (Err fault.NoMemory) bytes old new = Unit {0}
Places read (Err e) bytes old new = read ≡ Err e
