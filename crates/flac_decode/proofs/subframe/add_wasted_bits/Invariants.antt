use Rattle.std.proofs.Common.{◌≡◌, ◌+◌, ◌-◌, ◌++◌, take, drop}
use Rattle.flac_decode.specs.Bounds.{AreSmall}
use Rattle.flac_definitions.specs.Subframe.{with_wasted_bits}
use Rattle.flac_decode.proofs.subframe.add_wasted_bits.Given as goal

abbrev pub invariant-loop-s : goal.invariant-loop-s
invariant-loop-s l =
    record {
      done : l.samples ≡ with_wasted_bits l.wasted (take l.s-index l.fn.samples) ++ drop l.s-index l.fn.samples;
      narrow : AreSmall (l.depth + l.wasted - 1) (with_wasted_bits l.wasted (take l.s-index l.fn.samples));
    }
