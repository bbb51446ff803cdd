use Rattle.codec_live.proofs.Ends.{coded_ends}
use Rattle.codec_live.proofs.work.coded_end.Goals as goal

pub returns-in-Some : goal.returns-in-Some
returns-in-Some g c =
    rw c.in-Some.is (coded_ends c.in-Some.b c.input_end-end.new.coder c.input_end-end.result c.label_end.result c.args.input.now c.input_end-end.ensures c.label_end.ensures)
