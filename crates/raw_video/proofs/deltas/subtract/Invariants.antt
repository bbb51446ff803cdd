use Rattle.std.proofs.Common.{ℕ, ◌≡◌, ◌<◌, ◌+◌, ◌-◌, ◌%◌, length, get_or}
use Rattle.raw_video.proofs.deltas.subtract.Given as goal

abbrev pub invariant-loop-i : goal.invariant-loop-i
invariant-loop-i l = record {
  long : length l.to ≡ length l.fn.to;
  done : (j : ℕ) → j < l.i → get_or l.to j 0 ≡ (get_or l.picture j 0 + 256 - get_or l.last j 0) % 256;
}
