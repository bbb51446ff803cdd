use Rattle.std.proofs.Common.{◌≡◌, ◌++◌, ◌-◌}
use Rattle.report_reader.specs.Read.{all_outputs_in}
use Rattle.report_reader.proofs.build.all_outputs_of.Given as goal

abbrev pub invariant-loop : goal.invariant-loop
invariant-loop l = let more = all_outputs_in (l.count - l.counter) l.rest in all_outputs_in l.count l.lines ≡ (l.outputs.items ++ more.0, more.1)
