use Rattle.trace_text.proofs.report.write_report.Goals as goal

pub returns : goal.returns
returns g c = rw (c.data.ensures.data, c.of-lines.ensures) at c.write_lines.ensures
