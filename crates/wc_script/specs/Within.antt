-- What the script that bytes spell holds is within the types that carry it (our choice: 32 and 64 bits, and bytes).
use Rattle.std.specs.Prelude.{◌≡◌, ◌<◌, ◌^◌, ℕ, List, Ok}
use Rattle.std.specs.Option.{IfSome}
use Rattle.std.specs.List.{AllByRecursion}
use Rattle.script_types.specs.declared.script.CallerItem.{CallerItem}
use Rattle.script_types.specs.declared.script.OrderItem.{OrderItem}
use Rattle.script_types.specs.declared.script.OrderItem.TheVariants as order
use Rattle.script_types.specs.declared.script.ScriptData.{ScriptData}
use Rattle.script_steps.specs.Within.{IsStepWithin}
use Rattle.wc_script.specs.Read.{script_of}

-- an item's moment, if it has one, has 64 bits
abbrev pub HasSmallMoment : OrderItem → Type 0
HasSmallMoment (order.Done codec moment) = moment < 2 ^ 64
HasSmallMoment (order.Reclaim codec moment) = moment < 2 ^ 64
HasSmallMoment _ = Unit {0}

abbrev pub HasSmallSteps : CallerItem → Type 0
HasSmallSteps c = AllByRecursion IsStepWithin c.steps

-- all steps of all callers, and the order's moments
pub record IsScriptWithin (s : ScriptData) : Type 0 where
  pub callers : AllByRecursion HasSmallSteps s.callers
  pub order : IfSome s.order (λ items. AllByRecursion HasSmallMoment items)

abbrev pub ScriptsAreWithin : Type 0
ScriptsAreWithin = (bytes : List ℕ) (s : ScriptData) → script_of bytes ≡ Ok s → IsScriptWithin s
