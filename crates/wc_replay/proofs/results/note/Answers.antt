use Rattle.std.proofs.Common.{rules}
use Rattle.std.proofs.lemmas.Result.{on_ok_weaker}
use Rattle.codec_accounts.specs.Places.{append_is_set, append_past}
use Rattle.wc_replay.proofs.results.note.Goals as goal

pub returns-in-Some : goal.returns-in-Some
returns-in-Some c =
    let read = c.in-Some.ensures in
    on_ok_weaker c.push.result
    (append_is_set c.args.caller c.args.came c.args.callers.now.items c.in-Some.results.now c.push.new.self read.item.3.0 read.value) c.push.ensures

pub returns-in-None : goal.returns-in-None
returns-in-None c = append_past c.args.caller c.args.came c.args.callers.now.items (search rules)
