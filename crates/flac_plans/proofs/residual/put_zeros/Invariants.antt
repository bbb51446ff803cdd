use Rattle.std.proofs.Common.{◌≡◌, ◌++◌, ◌*◌}
use Rattle.flac_definitions.specs.Bits.{bits_of}
use Rattle.flac_plans.proofs.residual.put_zeros.Given as goal

abbrev pub invariant-loop-i : goal.invariant-loop-i
invariant-loop-i l = l.w ≡ l.fn.w ++ bits_of (32 * l._i) 0
