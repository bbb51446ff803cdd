use Rattle.flac_bits.specs.WindowLaws.{fresh_window}
use Rattle.flac_bits.proofs.window.window_at.Goals as goal

pub returns-clause-window : goal.returns-clause-window
returns-clause-window c = fresh_window c.args.bytes.now c.args.at c.word_at.result c.requires c.word_at.ensures
