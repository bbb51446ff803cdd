use Rattle.std.proofs.Common.{ℕ, List, ◌++◌, take}
use Rattle.std.specs.List.{flat_map}
use Rattle.md5.specs.Md5.{Holds}
use Rattle.flac_stream.specs.Sums.{sample_bytes}
use Rattle.flac_stream.proofs.sum.add_samples.Given as goal

abbrev pub invariant-loop-i : goal.invariant-loop-i
invariant-loop-i l = (message : List ℕ) → Holds l.fn.hasher message → Holds l.hasher (message ++ flat_map (sample_bytes l.size) (take l.i l.samples))
