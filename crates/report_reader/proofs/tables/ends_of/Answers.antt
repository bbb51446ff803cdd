use Rattle.std.proofs.Common.{◌≤◌, length, ◌∙◌, arith}
use Rattle.report_reader.specs.Arguments.{results_of}
use Rattle.report_reader.proofs.TableLaws.{callers_all}
use Rattle.report_reader.proofs.tables.ends_of.Goals as goal

pub returns : goal.returns
returns c = λ k j.
    let all : length c.args.script.now.callers ≤ c.loop-caller.caller = omega (arith, c.loop-caller-test.false, c.len-caller-end.ensures, c.loop-caller.auto.caller-end) in
    c.loop-caller.invariant k j ∙ callers_all c.args.script.now (results_of c.args.callers.now k) c.loop-caller.caller k j all
