use Rattle.std.proofs.Common.{Option, ap, sym, ◌∙◌}
use Rattle.std.specs.Prelude.{option_map}
use Rattle.std.proofs.lemmas.Result.{on_ok_weaker}
use Rattle.codec_accounts.specs.Places.{append_is_set}
use Rattle.media_variables.specs.Held.{WholeMedium, seen}
use Rattle.run_model.specs.Follow.{posted_as}
use Rattle.wc_replay.proofs.ports.put_at.Goals as goal

pub returns-in-Some-get_mut : goal.returns-in-Some-get_mut
returns-in-Some-get_mut c =
    let read = c.in-Some-get_mut.ensures in
    let port = c.args.port in
    let items = c.args.ports.now.items in
    on_ok_weaker c.put.result
    (λ stored. append_is_set port (record { poster = c.args.poster; medium = seen c.in-Some.medium }) items c.in-Some-get_mut.port.now c.put.new.self read.item.3.0 read.value stored
    ∙ ap (λ (o : Option WholeMedium). posted_as c.args.poster port (option_map seen o) items) (sym c.in-Some.is)) c.put.ensures.ok
