use Rattle.flac_description.proofs.Writing.{two_fields}
use Rattle.flac_description.proofs.description.block_sizes.Goals as goal

pub returns : goal.returns
returns c = two_fields 16 16 c.args.info.now.min_block c.args.info.now.max_block c.requires.max_block
