use Rattle.std.proofs.Common.{◌≡◌, take}
use Rattle.std.specs.Prelude.{sum}
use Rattle.load_summary.proofs.tally.sum_of.Given as goal

abbrev pub invariant-loop-byte : goal.invariant-loop-byte
invariant-loop-byte l = l.all ≡ sum (take l.byte-index l.bytes)
