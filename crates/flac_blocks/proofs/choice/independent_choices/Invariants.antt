use Rattle.std.proofs.Common.{ℕ, ◌≡◌, ◌<◌, length}
use Rattle.std.specs.Prelude.{slice_index_or}
use Rattle.flac_definitions.specs.declared.candidate.Choice.{Choice}
use Rattle.flac_definitions.specs.Modes.{channel_of}
use Rattle.flac_blocks.specs.Search.{IsBest}
use Rattle.flac_blocks.proofs.choice.independent_choices.Given as goal

abbrev pub invariant-loop-c : goal.invariant-loop-c
invariant-loop-c l = record {
  count : length l.choices.items ≡ l.c;
  best : (k : ℕ) (d : Choice) → k < l.c → IsBest l.format.depth l.format.level (channel_of l.block l.samples k) (slice_index_or l.choices.items k d);
}
