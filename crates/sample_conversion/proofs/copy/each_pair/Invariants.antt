use Rattle.std.proofs.Common.{◌≡◌, ◌*◌, take}
use Rattle.sample_conversion.specs.Layouts.{plane_frames}
use Rattle.sample_conversion.proofs.copy.each_pair.Given as goal

abbrev pub invariant-loop-k : goal.invariant-loop-k
invariant-loop-k g l = take (g.row.D * 2 * l.k) l.to ≡ plane_frames g.row.S g.row.D l.from l.first l.step l.k 2
