use Rattle.std.proofs.Common.{◌≡◌, ◌≤◌, ◌++◌}
use Rattle.flac_definitions.specs.HeaderWriting.{further_bits, long_number_bits}
use Rattle.flac_write.proofs.header.write_long_number.Given as goal

abbrev pub invariant-loop-left : goal.invariant-loop-left
invariant-loop-left l = (l.w ++ further_bits l.left l.n ≡ l.fn.w ++ long_number_bits l.fn.count l.fn.n) × (l.left ≤ 5)

abbrev pub decreases-loop-left : goal.decreases-loop-left
decreases-loop-left l = l.left
