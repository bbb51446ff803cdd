use Rattle.std.proofs.Common.{◌≡◌, ◌*◌, take}
use Rattle.sample_conversion.specs.Layouts.{strided_samples}
use Rattle.sample_conversion.proofs.copy.run.Given as goal

abbrev pub invariant-loop-i : goal.invariant-loop-i
invariant-loop-i g l = take (g.row.D * l.i) l.to ≡ strided_samples g.row.S g.row.D l.from l.first l.step l.i
