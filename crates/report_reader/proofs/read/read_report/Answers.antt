use Rattle.report_reader.proofs.{ReadLaws.read_again, NameLaws.sound_names}
use Rattle.report_reader.proofs.read.read_report.Goals as goal

pub returns-clause-only : goal.returns-clause-only
returns-clause-only c run told e =
    read_again c.lines_are_read_again.ensures.again c.args.script.now c.args.media.now (sound_names c.args.script.now c.run_or_fault.ensures.sound) run told c.args.bytes.now c.run_or_fault.result c.run_or_fault.ensures.ok c.run_or_fault.ensures.bad e
