use Rattle.std.proofs.Common.{subst, sym}
use Rattle.codec_model.specs.Held.{held_in}
use Rattle.codec_accounts.specs.Codec.{codec_at, state_of}
use Rattle.media_variables.specs.Held.{AreApart}
use Rattle.run_model.specs.Follow.{Course}
use Rattle.wc_replay.proofs.Lent.{apart_gone, codec_apart}
use Rattle.wc_replay.proofs.steps.Player.call.Goals as goal

pub call_at-requires-clause-lent : goal.call_at-requires-clause-lent
call_at-requires-clause-lent g c κs within =
    let p = c.self.inside in
    apart_gone p.media (codec_at c.args.codec p.desks.items) c.args.who c.args.call
    (subst (λ (u : Course). AreApart u.media.pool u.media.variables (held_in (state_of (codec_at c.args.codec u.codecs)))) (sym c.self.view_is) (codec_apart c.args.self.now c.args.codec c.requires.codec c.requires.lent))
