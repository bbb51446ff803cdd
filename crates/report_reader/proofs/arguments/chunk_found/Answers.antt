use Rattle.std.proofs.Common.{sym, ◌∙◌}
use Rattle.report_reader.specs.Arguments.{from_in, depth_of}
use Rattle.report_reader.proofs.PlaceLaws.{taken_at}
use Rattle.report_reader.proofs.arguments.chunk_found.Goals as goal

pub returns-in-None : goal.returns-in-None
returns-in-None c =
    let known = c.args.known.now in
    let caller = c.args.who.caller in
    rw (sym (rw c.steps_of.ensures at c.in_ok-chunk.ensures) ∙ c.in-None.is, taken_at c.args.script.now known (depth_of known) caller c.args.who.step) (c.chunk_given.ensures (from_in c.args.script.now known (depth_of known) caller))
