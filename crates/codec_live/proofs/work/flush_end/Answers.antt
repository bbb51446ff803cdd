use Rattle.codec_live.proofs.Ends.{flush_ends}
use Rattle.codec_live.proofs.work.flush_end.Goals as goal

pub returns-in-Some : goal.returns-in-Some
returns-in-Some g c =
    rw c.in-Some.is (flush_ends c.in-Some.b c.drain_end-end.new.coder c.drain_end-end.result c.label_end.result c.drain_end-end.ensures c.label_end.ensures)
