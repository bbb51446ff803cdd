use Rattle.codec_laws.proofs.IndexLaws as laws
use Rattle.codec_laws.proofs.laws.indexes_rise.Goals as goal

pub returns : goal.returns
returns c = laws.indexes_rise
