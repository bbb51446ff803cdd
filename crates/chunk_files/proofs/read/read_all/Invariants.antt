use Rattle.std.proofs.Common.{◌≤◌, ◌-◌, length, drop}
use Rattle.chunk_files.specs.Grammar.{BeginsWithAll}
use Rattle.chunk_files.proofs.read.read_all.Given as goal

abbrev pub invariant-loop-at : goal.invariant-loop-at
invariant-loop-at l =
    record {
      past_mark : 4 ≤ l.at;
      within : l.at ≤ length l.bytes;
      before : BeginsWithAll l.chunks.items (drop 4 l.bytes) (drop l.at l.bytes);
    }

abbrev pub decreases-loop-at : goal.decreases-loop-at
decreases-loop-at l = length l.bytes - l.at
