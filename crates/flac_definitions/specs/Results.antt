-- Readers that name a fault, one after another.
use Rattle.std.specs.Prelude.{Option, Some, None, Result, Ok, Err}

infixl 10 ◌>>=◌
abbrev pub ◌>>=◌ : {A B E : Type 0} → Result A E → (A → Result B E) → Result B E
(Ok x) >>= f = f x
(Err e) >>= f = Err e

-- what was read, or else a fault
abbrev pub or_fault : {A E : Type 0} → E → Option A → Result A E
or_fault e None = Err e
or_fault e (Some x) = Ok x

-- what was read, whatever the fault
abbrev pub without_fault : {A E : Type 0} → Result A E → Option A
without_fault (Ok x) = Some x
without_fault (Err e) = None
