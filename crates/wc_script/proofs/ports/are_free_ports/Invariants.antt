use Rattle.std.proofs.Common.{◌≡◌, [], take, drop}
use Rattle.wc_script.specs.Ports.{are_free_ports}
use Rattle.wc_script.proofs.ports.are_free_ports.Given as goal

abbrev pub invariant-loop-i : goal.invariant-loop-i
invariant-loop-i l =
    are_free_ports l.codecs l.callers [] l.ports ≡ are_free_ports l.codecs l.callers (take l.i l.ports) (drop l.i l.ports)
