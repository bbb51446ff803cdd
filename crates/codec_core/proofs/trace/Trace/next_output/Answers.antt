use Rattle.codec_core.proofs.trace.Trace.next_output.Goals as goal

pub returns : goal.returns
returns c = rw (← c.self.view_is, ← c.seek-entry.ensures.same) c.output_at.ensures
