use Rattle.std.proofs.Common.{◌≡◌, ◌+◌, ◌-◌, ◌*◌, ◌^◌}
use Rattle.std.specs.List.{flat_map, range_with_len}
use Rattle.flac_definitions.specs.FixedPredictors.{residuals}
use Rattle.flac_subframes.specs.Search.{AreWithin}
use Rattle.flac_definitions.specs.Candidates.{IsChoice, candidate_bits, first_shortest, fixed_candidates}
use Rattle.flac_subframes.proofs.choice.with_later.Given as goal

abbrev pub invariant-loop-order : goal.invariant-loop-order
invariant-loop-order l = record {
  best : IsChoice l.depth l.samples (first_shortest (candidate_bits l.depth l.samples) l.fn.first.candidate (flat_map (fixed_candidates l.most l.samples) (range_with_len (l.from + 1) (l.order - l.from)))) l.best;
  residual : l.residual.items ≡ residuals l.order l.samples;
  bound : l.wide ≡ 2 ^ 25 * 2 ^ l.order;
  within : AreWithin l.wide l.residual.items;
}
