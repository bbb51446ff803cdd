use Rattle.report_lines.proofs.WordLaws.{upto_again, after_again, after_only, word_again}
use Rattle.report_lines.proofs.field_laws.words_are_read_again.Goals as goal

pub returns : goal.returns
returns c = record { upto = upto_again; after = after_again; after_only = after_only; word = word_again }
