-- The ports of a replay.
use Rattle.std.specs.Prelude.{List, []}
use Rattle.script_types.specs.declared.script.PortItem.{PortItem}
use Rattle.media_variables.specs.Variables.{Received}

-- nothing waits in a port at first
abbrev pub no_port : PortItem → List Received
no_port p = []
