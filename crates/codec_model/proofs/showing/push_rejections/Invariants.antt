use Rattle.std.proofs.Common.{◌≡◌, ◌++◌, drop}
use Rattle.codec_model.specs.Shown.{rejections}
use Rattle.codec_model.proofs.showing.push_rejections.Given as goal

abbrev pub invariant-loop-promise : goal.invariant-loop-promise
invariant-loop-promise l = l.events.items ++ rejections l.error (drop l.promise-index l.promises) ≡ l.initial.events.items ++ rejections l.error l.promises
