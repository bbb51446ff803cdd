-- Why there is no value: a fault, or want of memory.
use Rattle.chunk_files.specs.declared.fault.Stop.{Stop}
use Rattle.chunk_files.specs.declared.fault.Stop.TheVariants as stop

-- P holds of the fault, if it is one
abbrev pub IfFault : {F : Type 0} → Stop F → (F → Type 0) → Type 0
IfFault (stop.Fault f) P = P f
IfFault stop.NoMemory P = Unit {0}
