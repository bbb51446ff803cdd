use Rattle.std.proofs.Common.{◌+◌, ◌-◌}
use Rattle.std.specs.List.{flat_map, range_with_len}
use Rattle.flac_definitions.specs.Candidates.{IsChoice, candidate_bits, first_shortest, fixed_candidates}
use Rattle.flac_subframes.proofs.choice.with_more.Given as goal

abbrev pub invariant-loop-order : goal.invariant-loop-order
invariant-loop-order l = IsChoice l.depth l.samples (first_shortest (candidate_bits l.depth l.samples) l.fn.first.candidate (flat_map (fixed_candidates l.most l.samples) (range_with_len (l.from + 1) (l.order - l.from)))) l.best
