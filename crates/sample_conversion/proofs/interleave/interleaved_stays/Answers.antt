use Rattle.sample_conversion.proofs.{Shared.are_bytes, Layouts.copied}
use Rattle.sample_conversion.proofs.interleave.interleaved_stays.Goals as goal

pub returns : goal.returns
returns c = copied c.args.size c.args.shape.now c.args.bytes.now (are_bytes c.args.bytes.now c.type_inv.bytes) c.requires.same c.requires.whole
