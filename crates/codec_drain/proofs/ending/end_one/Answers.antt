use Rattle.std.proofs.Common.{◌∷◌, ◌++◌, [], Option, is_some, map, refl, subst}
use Rattle.codec_media.specs.Holding.{pair_of}
use Rattle.codec_model.specs.Held.{in_order}
use Rattle.wc_pool.specs.declared.reference.MediaRef.{MediaRef}
use Rattle.codec_drain.specs.Drains.{AreLive}
use Rattle.codec_drain.proofs.DrainLaws.{ended_one, ended_others}
use Rattle.codec_drain.proofs.ending.end_one.Goals as goal

pub returns-in-Some-clause-others : goal.returns-in-Some-clause-others
returns-in-Some-clause-others c = λ ps live.
    ended_others c.args.codec (c.in-Some.r ∷ []) [] c.args.pool.now c.end.new.self refl (ended_one c.args.codec c.args.place (is_some c.end.result) c.in-Some.r c.args.pool.now c.end.new.self c.end.ensures.ended c.end.ensures.kept) ps
    (subst (λ (o : Option MediaRef). AreLive c.args.pool.now (map pair_of (in_order o) ++ ps)) c.in-Some.is live)
