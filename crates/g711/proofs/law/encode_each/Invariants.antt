use Rattle.std.proofs.Common.{◌≡◌, ◌+◌, ◌*◌, ◌++◌, length, take}
use Rattle.g711.specs.Slices.{codes_of}
use Rattle.g711.proofs.law.encode_each.Given as goal

abbrev pub invariant-loop-rest : goal.invariant-loop-rest
invariant-loop-rest l =
    record {
      room : length l.rest + 2 * l.done ≡ 2 * length l.out;
      done : take l.done l.out ++ codes_of l.law l.rest ≡ codes_of l.law l.samples;
    }

abbrev pub decreases-loop-rest : goal.decreases-loop-rest
decreases-loop-rest l = length l.rest
