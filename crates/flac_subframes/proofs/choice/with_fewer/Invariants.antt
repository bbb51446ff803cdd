use Rattle.std.proofs.Common.{◌+◌, ◌-◌}
use Rattle.std.specs.List.{flat_map, range_with_len}
use Rattle.flac_definitions.specs.Candidates.{IsChoice, candidate_bits, first_shortest, fixed_candidates}
use Rattle.flac_subframes.specs.Search.{best_of_order}
use Rattle.flac_subframes.proofs.choice.with_fewer.Given as goal

abbrev pub invariant-loop-j : goal.invariant-loop-j
invariant-loop-j l = IsChoice l.depth l.samples (first_shortest (candidate_bits l.depth l.samples) (best_of_order l.most l.samples (l.from - l.j)) (flat_map (fixed_candidates l.most l.samples) (range_with_len (l.from - l.j + 1) (l.last - (l.from - l.j))))) l.best
