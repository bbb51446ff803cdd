use Rattle.flac_blocks.proofs.Choices.{three_modes}
use Rattle.flac_blocks.proofs.choice.pair_mode.Goals as goal

pub returns : goal.returns
returns c = three_modes _ c.shorter_mode-first.result c.shorter_mode-second.result c.shorter_mode.result c.shorter_mode-first.ensures c.shorter_mode-second.ensures c.shorter_mode.ensures
