use Rattle.std.proofs.Common.{◌≡◌}
use Rattle.std.specs.Prelude.{length}
use Rattle.media_tests.proofs.lent_media_tests.each_comes_to.Given as goal

abbrev pub invariant-loop-act : goal.invariant-loop-act
invariant-loop-act l = length l.media.variables ≡ 2
