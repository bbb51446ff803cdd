use Rattle.std.proofs.Common.{ap, sym, subst, ◌∙◌}
use Rattle.std.proofs.lemmas.Result.{IfOk-weaker}
use Rattle.codec_accounts.specs.Codec.{codec_at, state_of}
use Rattle.codec_model.specs.Held.{held_in}
use Rattle.media_variables.specs.Held.{AreApart}
use Rattle.run_model.specs.Follow.{Course, after_move, advance, item_entry}
use Rattle.wc_replay.proofs.{Looks.advance_is, Lent.codec_apart}
use Rattle.wc_replay.proofs.steps.Player.advance.Goals as goal

pub take_at-requires-clause-lent : goal.take_at-requires-clause-lent
take_at-requires-clause-lent g c κs within =
    subst (λ (u : Course). AreApart u.media.pool u.media.variables (held_in (state_of (codec_at c.args.codec u.codecs)))) (sym c.self.view_is) (codec_apart c.args.self.now c.args.codec c.requires.codec c.requires.lent)

pub returns : goal.returns
returns g c =
    let p = c.self.inside in
    let v : Course = record { callers = p.callers.items; codecs = p.desks.items; media = p.media; slots = p.slots; ports = p.ports.items } in
    let k = c.args.codec in
    IfOk-weaker c.take_at.result _ _
    (λ wants made. advance_is v k (item_entry wants c.args.item (codec_at k v.codecs)) c.take_at.new.desks.items c.take_at.new.media c.take_at.new.slots made.0 made.1 made.2 ∙ ap (λ (u : Course). after_move (advance k (item_entry wants c.args.item (codec_at k u.codecs))) u) c.self.view_is)
    c.take_at.ensures
