use Rattle.std.proofs.Common.{ℕ, ◌≡◌, ◌<◌, ◌+◌, ◌*◌, ◌/◌, length}
use Rattle.flac_definitions.specs.FixedPredictors.{at}
use Rattle.flac_encode.proofs.block.fill_each.Given as goal

abbrev pub invariant-loop-i : goal.invariant-loop-i
invariant-loop-i l = record {
  count : length l.out ≡ length l.values / l.channels;
  values : (k : ℕ) → k < l.i → at l.out k ≡ at l.values (k * l.channels + l.channel);
}
