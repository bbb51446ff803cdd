use Rattle.flac_subframes.specs.Leasts.{AreLeasts}
use Rattle.flac_subframes.proofs.leasts.all_leasts.Given as goal

abbrev pub invariant-loop-j : goal.invariant-loop-j
invariant-loop-j l = AreLeasts l.samples l.parts.size l.j l.sums
