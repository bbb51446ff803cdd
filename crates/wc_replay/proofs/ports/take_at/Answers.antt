use Rattle.std.proofs.Common.{List, drop, ap, sym, ◌∙◌}
use Rattle.std.specs.Prelude.{slice_set}
use Rattle.codec_accounts.specs.Places.{at_read}
use Rattle.media_variables.specs.Variables.{Received}
use Rattle.run_model.specs.Follow.{front_of}
use Rattle.wc_replay.proofs.ports.take_at.Goals as goal

pub returns-in-Some-clause-front : goal.returns-in-Some-clause-front
returns-in-Some-clause-front c =
    let read = c.in-Some.ensures in
    c.take.ensures.front ∙ ap front_of (sym (at_read c.args.port c.args.ports.now.items c.in-Some.port.now read.item.3.0 read.value))

pub returns-in-Some-clause-rest : goal.returns-in-Some-clause-rest
returns-in-Some-clause-rest c =
    let read = c.in-Some.ensures in
    ap (λ (l : List Received). slice_set c.args.ports.now.items c.args.port l) (c.take.ensures.rest ∙ ap (drop 1) (sym (at_read c.args.port c.args.ports.now.items c.in-Some.port.now read.item.3.0 read.value)))
