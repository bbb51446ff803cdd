use Rattle.codec_laws.proofs.ResolveLaws.{resolved_last}
use Rattle.codec_laws.proofs.laws.flushes_resolve_last.Goals as goal

pub returns : goal.returns
returns c = resolved_last
