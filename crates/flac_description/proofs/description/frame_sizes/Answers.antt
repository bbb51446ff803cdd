use Rattle.flac_description.proofs.Writing.{two_fields}
use Rattle.flac_description.proofs.description.frame_sizes.Goals as goal

pub returns : goal.returns
returns c = two_fields 24 24 c.args.info.now.min_frame c.args.info.now.max_frame c.requires.max_frame
