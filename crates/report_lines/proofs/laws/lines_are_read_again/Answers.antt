use Rattle.report_lines.proofs.{LineLaws.line_again, LineLaws.line_sound, FeedLaws.line_one}
use Rattle.report_lines.proofs.laws.lines_are_read_again.Goals as goal

pub returns : goal.returns
returns c = record { again = line_again; sound = line_sound; one = line_one }
