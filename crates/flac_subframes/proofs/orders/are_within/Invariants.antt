use Rattle.std.proofs.Common.{ℕ, ◌≡◌, ◌<◌, true, false}
use Rattle.flac_definitions.specs.FixedPredictors.{at}
use Rattle.flac_subframes.specs.Search.{IsWithin, AreWithin}
use Rattle.flac_subframes.proofs.orders.are_within.Given as goal

abbrev pub invariant-loop-value : goal.invariant-loop-value
invariant-loop-value l = record {
  yes : l.all ≡ true → (k : ℕ) → k < l.value-index → IsWithin l.most (at l.values k);
  no : l.all ≡ false → AreWithin l.most l.values → ⊥;
}
