use Rattle.flac_rice.proofs.ValueLaws.{nothing_ahead}
use Rattle.flac_rice.proofs.value.value_behind.Goals as goal

pub returns-in-Ok-clause-ahead : goal.returns-in-Ok-clause-ahead
returns-in-Ok-clause-ahead c = (nothing_ahead c.args.bytes.now c.in-Ok.next c.none_ahead.result c.none_ahead.ensures c.in-Ok.ensures.there).0
