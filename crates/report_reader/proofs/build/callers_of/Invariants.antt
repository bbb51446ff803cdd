use Rattle.std.proofs.Common.{◌≡◌, ◌++◌, ◌-◌}
use Rattle.report_reader.specs.Read.{callers_in}
use Rattle.report_reader.proofs.build.callers_of.Given as goal

abbrev pub invariant-loop : goal.invariant-loop
invariant-loop l = let more = callers_in (l.count - l.counter) l.rest in callers_in l.count l.lines ≡ (l.callers.items ++ more.0, more.1)
