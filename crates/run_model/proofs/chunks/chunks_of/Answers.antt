use Rattle.std.proofs.Common.{sym, ◌∙◌}
use Rattle.codec_accounts.specs.Places.{at_read, at_past}
use Rattle.run_model.proofs.chunks.chunks_of.Goals as goal

pub returns-in-Some : goal.returns-in-Some
returns-in-Some c =
    let read = c.in-Some.ensures.lookup in
    c.as_slice.ensures ∙ sym (at_read c.args.file c.args.media.now c.in-Some.chunks.now read.3.0 read.1)

pub returns-in-None : goal.returns-in-None
returns-in-None c = sym (at_past c.args.file c.args.media.now c.in-None.ensures.lookup.3)
