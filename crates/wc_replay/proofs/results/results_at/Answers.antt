use Rattle.std.proofs.Common.{◌∙◌, sym}
use Rattle.codec_accounts.specs.Places.{at_read, at_past}
use Rattle.wc_replay.proofs.results.results_at.Goals as goal

pub returns-in-Some : goal.returns-in-Some
returns-in-Some c =
    let read = c.in-Some.ensures.lookup in
    c.as_slice.ensures.value ∙ c.results.view_is ∙ sym (at_read c.args.caller c.args.callers.now c.in-Some.results.now read.3.0 read.1)

pub returns-in-None : goal.returns-in-None
returns-in-None c = sym (at_past c.args.caller c.args.callers.now c.in-None.ensures.lookup.3)
