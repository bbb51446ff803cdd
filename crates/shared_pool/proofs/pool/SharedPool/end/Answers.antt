use Rattle.std.proofs.Common.{[], ◌∷◌, subst}
use Rattle.std.specs.Prelude.{is_some}
use Rattle.wc_pool.specs.Pools.{ended_by}
use Rattle.wc_pool.specs.declared.reference.MediaRef.{MediaRef}
use Rattle.seat_lock.specs.Since.{MadeSince}
use Rattle.seat_lock.specs.SinceLaws.{made_then}
use Rattle.shared_pool.proofs.pool.SharedPool.end.Goals as goal

pub returns-clause-ended : goal.returns-clause-ended
returns-clause-ended g c =
    subst (λ (m : MediaRef). MadeSince c.args.seat.now.me.0 c.end_in.new.seat.me.0 (ended_by c.args.by m (is_some c.end_in.result) ∷ [])) c.take_in.ensures.rest
    (made_then c.args.seat.now.me.0 c.take_in.new.seat.me.0 c.end_in.new.seat.me.0 [] _ c.take_in.ensures.taken.since c.end_in.ensures.end.since)
