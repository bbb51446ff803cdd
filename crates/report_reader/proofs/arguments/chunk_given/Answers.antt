use Rattle.std.proofs.Common.{sym, ◌∙◌}
use Rattle.report_reader.proofs.arguments.chunk_given.Goals as goal

pub returns-in-None : goal.returns-in-None
returns-in-None c = λ from. rw (sym c.in_ok-chunk.ensures ∙ c.in-None.is) (c.chunk_made.ensures from)
