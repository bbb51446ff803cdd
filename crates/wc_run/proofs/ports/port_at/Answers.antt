use Rattle.std.proofs.Common.{length, refl}
use Rattle.std.proofs.lemmas.Option.{slice_get_read}
use Rattle.wc_run.proofs.ports.port_at.Goals as goal

pub returns : goal.returns
returns c = slice_get_read c.args.ports.now (length c.args.ports.now) c.args.place c.index-ports-place.result refl c.requires c.index-ports-place.is
