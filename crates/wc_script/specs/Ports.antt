-- The ports of a script (our choice). What is wrong with them is told behind the items of the order: first what is no port, then
-- a name that a codec, a caller or an earlier port has.
use Rattle.std.specs.Prelude.{nat_le, ◌&&◌, ◌||◌, not, Bool, true, false, List, [], ◌∷◌, ◌++◌, length, if◌then◌else◌, Option, Some, None, Result, Ok, Err}
use Rattle.serde_json.specs.Data.{Items, no_items, item}
use Rattle.script_types.specs.declared.script.CodecItem.{CodecItem}
use Rattle.script_types.specs.declared.script.CallerItem.{CallerItem}
use Rattle.script_types.specs.declared.script.PortItem.{PortItem}
use Rattle.script_types.specs.Names.{is_codec_name, is_caller_name}
use Rattle.script_types.specs.Sound.{most_ports, is_port_name}
use Rattle.chunk_files.specs.declared.fault.Stop.{Stop}
use Rattle.chunk_files.specs.declared.fault.Stop.TheVariants as stop
use Rattle.script_types.specs.declared.fault.Wrong.{Wrong}
use Rattle.script_types.specs.declared.fault.Wrong.TheVariants as wrong
use Rattle.script_steps.specs.Members.{and_then, needed}
use Rattle.script_steps.specs.Ports.{port_of}

-- what stands at each place
abbrev pub items_of : Items → List (Option PortItem)
items_of no_items = []
items_of (item d ds) = port_of d ∷ items_of ds

-- the ports that steps may name; none where there is no array
abbrev pub named_ports : Option Items → List (Option PortItem)
named_ports None = []
named_ports (Some ds) = items_of ds

-- all of them, where each place has one
abbrev pub with_port : Option PortItem → Option (List PortItem) → Option (List PortItem)
with_port (Some p) (Some ps) = Some (p ∷ ps)
with_port _ _ = None

abbrev pub all_ports : List (Option PortItem) → Option (List PortItem)
all_ports [] = Some []
all_ports (p ∷ ps) = with_port p (all_ports ps)

-- not too many
abbrev pub few_ports : List (Option PortItem) → Option (List PortItem)
few_ports ps = if nat_le (length ps) most_ports then all_ports ps else None

-- nothing before has the name of a port
abbrev pub is_free_port : List CodecItem → List CallerItem → List PortItem → PortItem → Bool
is_free_port codecs callers before p =
    not (is_codec_name codecs p.name || (is_caller_name callers p.name || is_port_name before p.name))

abbrev pub are_free_ports : List CodecItem → List CallerItem → List PortItem → List PortItem → Bool
are_free_ports codecs callers before [] = true
are_free_ports codecs callers before (p ∷ ps) = is_free_port codecs callers before p && are_free_ports codecs callers (before ++ p ∷ []) ps

abbrev pub free_ports : List CodecItem → List CallerItem → List PortItem → Result (List PortItem) (Stop Wrong)
free_ports codecs callers ps = if are_free_ports codecs callers [] ps then Ok ps else Err (stop.Fault wrong.Twice)

-- the ports, which may be absent, and may not be another thing than an array
abbrev pub ports_of : List CodecItem → List CallerItem → Bool → Option Items → Result (List PortItem) (Stop Wrong)
ports_of codecs callers there (Some ds) = and_then (needed (few_ports (items_of ds))) (free_ports codecs callers)
ports_of codecs callers true None = Err (stop.Fault wrong.Shape)
ports_of codecs callers false None = Ok []
