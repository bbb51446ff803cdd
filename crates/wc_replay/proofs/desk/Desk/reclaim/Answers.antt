use Rattle.std.proofs.Common.{map, true}
use Rattle.media_variables.specs.Held.{pair_of}
use Rattle.wc_replay.proofs.{Desks.seen, Lent.apart_waiting}
use Rattle.wc_replay.proofs.desk.Desk.reclaim.Goals as goal

pub let_go-requires-clause-lent : goal.let_go-requires-clause-lent
let_go-requires-clause-lent g c κs within =
    let d = c.self.inside in
    apart_waiting c.args.media.now (seen d.core.codec d.job d.refusal) c.args.self.now true (map pair_of c.in-Some.removed.media) c.self.view_is c.in-Some.ensures.gone.pairs c.requires.lent
