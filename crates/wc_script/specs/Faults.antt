-- What is wrong at a place of a script. The first fault alone decides.
use Rattle.std.specs.Prelude.{Result, Ok, Err}
use Rattle.script_types.specs.declared.fault.Counted.TheVariants as counted
use Rattle.script_types.specs.declared.fault.Fault.{Fault}
use Rattle.script_types.specs.declared.fault.Fault.TheVariants as fault
use Rattle.script_types.specs.declared.fault.Place.{Place}
use Rattle.chunk_files.specs.declared.fault.Stop.{Stop}
use Rattle.chunk_files.specs.declared.fault.Stop.TheVariants as stop
use Rattle.script_types.specs.declared.fault.Wrong.{Wrong}

abbrev pub fault_at : Place → Stop Wrong → Stop Fault
fault_at p (stop.Fault w) = stop.Fault (fault.At p w)
fault_at p stop.NoMemory = stop.NoMemory

abbrev pub at : {A : Type 0} → Place → Result A (Stop Wrong) → Result A (Stop Fault)
at p (Ok a) = Ok a
at p (Err e) = Err (fault_at p e)

abbrev pub proceed : {A B : Type 0} → Result A (Stop Fault) → (A → Result B (Stop Fault)) → Result B (Stop Fault)
proceed (Err e) f = Err e
proceed (Ok a) f = f a

-- a fault that a script has by itself, and not by the file in which it stands or those that it mentions
abbrev pub IsOfScript : Stop Fault → Type 0
IsOfScript (stop.Fault (fault.TooMany counted.Script)) = ⊥
IsOfScript (stop.Fault (fault.TooMany counted.File)) = ⊥
IsOfScript (stop.Fault (fault.TooMany counted.Report)) = ⊥
IsOfScript (stop.Fault (fault.Unread name)) = ⊥
IsOfScript (stop.Fault (fault.Chunks name e)) = ⊥
IsOfScript (stop.Fault (fault.NoIndex name p)) = ⊥
IsOfScript _ = Unit {0}
