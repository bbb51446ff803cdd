use Rattle.sample_conversion.proofs.Shared.{are_bytes, shared}
use Rattle.sample_conversion.proofs.resize.stays.Goals as goal

pub returns : goal.returns
returns c = shared c.args.size c.args.bytes.now (are_bytes c.args.bytes.now c.type_inv.bytes) c.requires.whole
