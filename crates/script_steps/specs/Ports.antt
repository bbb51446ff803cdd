-- The ports that steps name (our choice). What stands at a place where no port is spelled is told last of all, so steps may
-- name the ports beside it.
use Rattle.std.specs.Prelude.{ℕ, Bool, true, false, List, bytes_eq, codes, Option, Some, None, option_and_then, slice_get, position, Result, Ok}
use Rattle.serde_json.specs.Data.{Data}
use Rattle.script_types.specs.declared.script.PortItem.{PortItem}
use Rattle.script_types.specs.declared.script.PortKind.{PortKind}
use Rattle.script_types.specs.declared.script.PortKind.TheVariants as port
use Rattle.script_types.specs.declared.steps.Step.{Step}
use Rattle.script_types.specs.declared.steps.Step.TheVariants as step
use Rattle.script_types.specs.declared.steps.MediaStep.{MediaStep}
use Rattle.script_types.specs.declared.steps.MediaStep.TheVariants as media
use Rattle.script_types.specs.Names.{port_named, posted_at}
use Rattle.script_types.specs.Sound.{is_port_of}
use Rattle.chunk_files.specs.declared.fault.Stop.{Stop}
use Rattle.script_types.specs.declared.fault.Wrong.{Wrong}
use Rattle.script_steps.specs.Members.{and_then, known, checked_name, text_in, name_in}
use Rattle.script_steps.specs.References.{unused, variable_if, variable_of}
use Rattle.script_steps.specs.declared.references.Needed.{Needed}
use Rattle.script_steps.specs.declared.references.Needed.TheVariants as needed
use Rattle.script_steps.specs.declared.ports.FoundPort.{FoundPort}

-- ---- ports

abbrev pub port_with : Option (List ℕ) → Option PortKind → Option PortItem
port_with (Some name) (Some of) = Some (record { name = name; of = of })
port_with _ _ = None

-- the port that an object spells, if it spells one
abbrev pub port_of : Data → Option PortItem
port_of d = port_with (option_and_then checked_name (text_in (codes "name") d)) (option_and_then port_named (text_in (codes "of") d))

abbrev pub has_name : List ℕ → Option PortItem → Bool
has_name name None = false
has_name name (Some p) = bytes_eq p.name name

abbrev pub found_of : ℕ → Option PortItem → Option FoundPort
found_of n None = None
found_of n (Some p) = Some (record { number = n; of = p.of })

abbrev pub found_at : ℕ → Option (Option PortItem) → Option FoundPort
found_at n None = None
found_at n (Some p) = found_of n p

-- the first port of this name
abbrev pub port_named_in : List (Option PortItem) → List ℕ → Option FoundPort
port_named_in ports name = option_and_then (λ n. found_at n (slice_get ports n)) (position (λ p. has_name name p) ports)

-- ---- steps that name them

-- what is posted at a port that was found; where none was, any medium
abbrev pub posted_by_kind : PortKind → Needed
posted_by_kind port.Audio = needed.Audio
posted_by_kind port.Frame = needed.Frame

abbrev pub posted_by : Option FoundPort → Needed
posted_by None = needed.Medium
posted_by (Some p) = posted_by_kind p.of

abbrev pub post_of : List (Option PortItem) → List Step → Data → Result MediaStep (Stop Wrong)
post_of ports before d =
    and_then (name_in (codes "to") d) (λ to. and_then (name_in (codes "data") d) (λ name.
    and_then (variable_if (posted_by (port_named_in ports to)) before name) (λ maybe_variable.
    and_then (known (port_named_in ports to)) (λ p. and_then (known maybe_variable) (λ found.
    Ok (media.Post p.number (variable_of name found)))))))

abbrev pub receive_of : List (Option PortItem) → List Step → Data → Result MediaStep (Stop Wrong)
receive_of ports before d =
    and_then (name_in (codes "from") d) (λ from. and_then (name_in (codes "as") d) (λ name.
    and_then (unused before name) (λ bind. and_then (known (port_named_in ports from)) (λ p.
    Ok (media.Receive p.number bind (posted_at p.of))))))

-- a step that posts or receives does so at a port of its kind
abbrev pub joined : Option (Option PortItem) → Option PortItem
joined p = option_and_then (λ x. x) p

abbrev pub is_right_use : List (Option PortItem) → Step → Bool
is_right_use ports (step.Media (media.Post to content)) = is_port_of content.kind (joined (slice_get ports to))
is_right_use ports (step.Media (media.Receive from bind kind)) = is_port_of kind (joined (slice_get ports from))
is_right_use ports _ = true
