use Rattle.std.proofs.Common.{true}
use Rattle.std.proofs.lemmas.Result.{IfOk-at_ok}
use Rattle.wc_replay.proofs.desk.Desk.take.Goals as goal

pub returns-in_ok-start-in-Start : goal.returns-in_ok-start-in-Start
returns-in_ok-start-in-Start g c = rw c.in-Start.is (IfOk-at_ok _ c.in_ok-start-in-Start.was (c.start.ensures c.args.media.now))
