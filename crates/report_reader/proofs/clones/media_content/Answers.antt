use Rattle.report_reader.specs.Places.{from_at}
use Rattle.report_reader.proofs.PlaceLaws.{buffered_own}
use Rattle.report_reader.proofs.clones.media_content.Goals as goal

pub returns-in-Buffered : goal.returns-in-Buffered
returns-in-Buffered c =
    let s = c.args.script.now in
    let known = c.args.known.now in
    let own = rw c.steps_of.ensures at (c.buffered_content.ensures (from_at s known c.args.at)) in
    rw (c.in-Buffered.is, buffered_own s known c.args.at c.in-Buffered.bind c.in-Buffered.init) own
