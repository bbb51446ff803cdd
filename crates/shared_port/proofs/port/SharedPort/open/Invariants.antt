use Rattle.std.specs.Prelude.{Some}
use Rattle.shared_port.proofs.port.SharedPort.open.Given as goal

abbrev pub ghosts-give_pool : goal.ghosts-give_pool
ghosts-give_pool g a = record { pool = Some a.pool.now }
