-- The script that a JSON value spells, or its first fault. The walk goes through the top value, the codecs, each caller
-- with its steps, the order items, and the ports; at each place it tries the counts first, then the shape, then names that stand
-- twice, then unknown names. How often each caller's name stands in the order is tried last.
use Rattle.std.specs.Prelude.{◌-◌, nat_le, Bool, true, false, List, [], codes, if◌then◌else◌, Option, Some, None, Result, Ok, Err}
use Rattle.serde_json.specs.Data.{Data, Items}
use Rattle.script_types.specs.declared.fault.Place.TheVariants as place
use Rattle.script_types.specs.declared.fault.Counted.{Counted}
use Rattle.script_types.specs.declared.fault.Counted.TheVariants as counted
use Rattle.chunk_files.specs.declared.fault.Stop.{Stop}
use Rattle.script_types.specs.declared.fault.Fault.{Fault}
use Rattle.chunk_files.specs.declared.fault.Stop.TheVariants as stop
use Rattle.script_types.specs.declared.fault.Fault.TheVariants as fault
use Rattle.script_types.specs.declared.script.CodecItem.{CodecItem}
use Rattle.script_types.specs.declared.script.CallerItem.{CallerItem}
use Rattle.script_types.specs.declared.script.OrderItem.{OrderItem}
use Rattle.script_types.specs.declared.script.ScriptData.{ScriptData}
use Rattle.script_types.specs.Limits.{limit_of}
use Rattle.script_types.specs.Sound.{most_steps, most_media, counts_agree}
use Rattle.script_types.specs.declared.fault.Wrong.{Wrong}
use Rattle.script_types.specs.declared.fault.Wrong.TheVariants as wrong
use Rattle.script_steps.specs.Counts.{count_of}
use Rattle.script_steps.specs.Members.{and_then, needed, array_in}
use Rattle.script_steps.specs.Sources.{has}
use Rattle.wc_script.specs.declared.callers.Room.{Room}
use Rattle.wc_script.specs.Faults.{at, proceed}
use Rattle.wc_script.specs.Codecs.{codecs_of}
use Rattle.wc_script.specs.Callers.{callers_of}
use Rattle.wc_script.specs.Order.{order_of}
use Rattle.wc_script.specs.Ports.{named_ports, ports_of}

-- ---- the top value

-- an array within its limit, if it is one
abbrev pub few : Counted → Option Items → Result (Option Items) (Stop Fault)
few what None = Ok None
few what (Some ds) = if nat_le (count_of ds) (limit_of what) then Ok (Some ds) else Err (stop.Fault (fault.TooMany what))

-- the arrays of a script; that of its ports is looked at behind the order's items
pub record Parts : Type 0 where
  pub codecs : Items
  pub callers : Items
  pub order : Option Items
  pub ports : Option Items

-- the order may be absent, and may not be another thing than an array
abbrev pub order_if_there : Bool → Option Items → Result (Option Items) (Stop Wrong)
order_if_there there (Some ds) = Ok (Some ds)
order_if_there true None = Err (stop.Fault wrong.Shape)
order_if_there false None = Ok None

-- the arrays that are there
abbrev pub parts_with : Option Items → Option Items → Bool → Option Items → Option Items → Result Parts (Stop Wrong)
parts_with maybe_codecs maybe_callers there maybe_order ports =
    and_then (needed maybe_codecs) (λ codecs. and_then (needed maybe_callers) (λ callers.
    and_then (order_if_there there maybe_order) (λ order. Ok (record { codecs = codecs; callers = callers; order = order; ports = ports }))))

unfoldable pub parts_of : Data → Result Parts (Stop Fault)
parts_of d =
    proceed (few counted.Codecs (array_in (codes "codecs") d)) (λ maybe_codecs.
    proceed (few counted.Callers (array_in (codes "callers") d)) (λ maybe_callers.
    proceed (few counted.Order (array_in (codes "order") d)) (λ maybe_order.
    at place.Top (parts_with maybe_codecs maybe_callers (has (codes "order") d) maybe_order (array_in (codes "ports") d)))))

-- ---- the whole

-- the items of the order, which may be absent
unfoldable pub ordered : List CodecItem → List CallerItem → Option Items → Result (Option (List OrderItem)) (Stop Fault)
ordered codecs callers None = Ok None
ordered codecs callers (Some ds) = proceed (order_of codecs callers 0 [] ds) (λ items. Ok (Some items))

-- each caller stands in the order as often as it has steps
abbrev pub checked_order : List CallerItem → Option (List OrderItem) → Result (Option (List OrderItem)) (Stop Fault)
checked_order callers None = Ok None
checked_order callers (Some items) = if counts_agree 0 callers items then Ok (Some items) else Err (stop.Fault (fault.At place.Top wrong.Shape))

-- what may come at the first step
abbrev pub whole_room : Room
whole_room = record { steps = most_steps; media = most_media }

unfoldable pub walk_of : Data → Result ScriptData (Stop Fault)
walk_of d =
    proceed (parts_of d) (λ parts.
    proceed (codecs_of 0 [] parts.codecs) (λ codecs.
    proceed (callers_of codecs (named_ports parts.ports) [] [] whole_room parts.callers) (λ r.
    proceed (ordered codecs r.0 parts.order) (λ items.
    proceed (at place.Top (ports_of codecs r.0 (has (codes "ports") d) parts.ports)) (λ ports.
    proceed (checked_order r.0 items) (λ order.
    Ok (record {
      codecs = codecs;
      callers = r.0;
      order = order;
      ports = ports;
      chunk_files = r.1.0;
      inline = most_media - r.1.1.media;
    })))))))
