use Rattle.report_reader.proofs.clones.buffered_content.Goals as goal

pub returns : goal.returns
returns c = λ from. rw (← c.in_ok-bytes.ensures from) c.init_content.ensures
