-- Histories in which each item is served: no error call comes but for want of memory.
use Rattle.std.specs.Prelude.{ℕ, ◌≡◌, true, List, [], ◌∷◌, Option, Some, None, is_some, IfSome}
use Rattle.std.specs.List.{AllByRecursion}
use Rattle.wc_base.specs.declared.error.DomError.TheVariants as dom
use Rattle.codec_model.specs.declared.entry.Opening.{Opening}
use Rattle.codec_model.specs.declared.entry.Running.{Running}
use Rattle.codec_model.specs.declared.entry.Outcome.{Outcome}
use Rattle.codec_model.specs.declared.entry.Outcome.TheVariants as outcome
use Rattle.codec_model.specs.declared.entry.Entry.{Entry}
use Rattle.codec_model.specs.declared.entry.Entry.TheVariants as entry
use Rattle.codec_model.specs.declared.entry.Event.{Event}
use Rattle.codec_model.specs.declared.entry.Event.TheVariants as event
use Rattle.codec_model.specs.Replay.{State, Given, opening_state, answer_to, step, IsLegal}
use Rattle.codec_model.specs.Shown.{shown}

-- the codec's definition takes the running item, after what it was given: a config that is supported, or an input
abbrev pub IsTaken : Option Running → Given → Type 0
IsTaken None given = Unit {0}
IsTaken (Some r) given = is_some (answer_to r.kind given) ≡ true

-- an item is served: a box was free for it, and the codec's definition takes it
abbrev pub IsServedEnd : Outcome → Option Running → Given → Type 0
IsServedEnd (outcome.NoSlot entry) running given = ⊥
IsServedEnd o running given = IsTaken running given

-- an entry is no reclaim, and where it ends an item, that item is served
abbrev pub IsServed : Entry → State → Type 0
IsServed (entry.Done epoch item moment o) s = IsServedEnd o s.control.running s.running_given
IsServed (entry.Reclaim moment) s = ⊥
IsServed _ s = Unit {0}

abbrev pub AreServedFrom : List Entry → State → Type 0
AreServedFrom [] s = Unit {0}
AreServedFrom (e ∷ es) s = IsServed e s × IfSome (step e s) (AreServedFrom es)

-- in this history no codec is reclaimed, and each item that ends is served
abbrev pub AreServed : Opening → List Entry → Type 0
AreServed o history = AreServedFrom history (opening_state o)

-- an error call says that memory was wanted
abbrev pub IsForMemory : Event → Type 0
IsForMemory (event.ErrorCall error) = error ≡ dom.OutOfMemory
IsForMemory _ = Unit {0}

-- where each item is served, an error call comes only for want of memory
abbrev pub ServedGiveNoError : Type 0
ServedGiveNoError = (o : Opening) (h : List Entry) → IsLegal o h → AreServed o h → AllByRecursion (λ (x : ℕ × Event). IsForMemory x.1) (shown o h)
