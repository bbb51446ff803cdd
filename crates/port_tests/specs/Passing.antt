-- Passes of a port as they are used.
use Rattle.std.specs.Prelude.{◌≡◌}
use Rattle.shared_port.specs.declared.port.PortPass.{PortPass}
use Rattle.shared_port.specs.Ports.{PortId, IsPassOf, seen}

-- it is a pass of this port, with as many parts as before
pub record Keeps {M : Type 0} (port : PortId) (a b : PortPass M) : Type 0 where
  pub pass : IsPassOf port b
  pub parts : (seen b).parts ≡ (seen a).parts
