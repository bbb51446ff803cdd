use Rattle.std.proofs.Common.{◌≡◌, ◌*◌, ◌^◌}
use Rattle.flac_definitions.specs.FixedPredictors.{residuals}
use Rattle.flac_subframes.specs.Search.{AreWithin}
use Rattle.flac_subframes.proofs.orders.small_residual.Given as goal

abbrev pub invariant-loop-o : goal.invariant-loop-o
invariant-loop-o l = record {
  current : l.current.items ≡ residuals l.o l.samples;
  bound : l.bound ≡ 2 ^ 25 * 2 ^ l.o;
  within : AreWithin l.bound l.current.items;
}
