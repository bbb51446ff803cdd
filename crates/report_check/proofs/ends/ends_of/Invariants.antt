use Rattle.std.proofs.Common.{◌≡◌, map, take}
use Rattle.report_check.specs.Ends.{all_ends}
use Rattle.report_check.proofs.ends.ends_of.Given as goal

abbrev pub invariant-loop-trace : goal.invariant-loop-trace
invariant-loop-trace l = record {
  so_far : l.ends.items ≡ all_ends 0 (map (λ c. c.entries) (take l.trace-index l.codecs));
  number : l.codec ≡ l.trace-index;
}
