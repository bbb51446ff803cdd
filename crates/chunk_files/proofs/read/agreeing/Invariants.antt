use Rattle.std.proofs.Common.{◌≡◌, ◌≤◌, ◌+◌, ◌-◌, length, drop}
use Rattle.chunk_files.specs.Grammar.{agreeing}
use Rattle.chunk_files.proofs.read.agreeing.Given as goal

abbrev pub invariant-loop-n : goal.invariant-loop-n
invariant-loop-n l =
    record {
      within : l.n ≤ length l.mark;
      rest : agreeing l.mark l.bytes ≡ agreeing (drop l.n l.mark) (drop l.n l.bytes) + l.n;
    }

abbrev pub decreases-loop-n : goal.decreases-loop-n
decreases-loop-n l = length l.mark - l.n
