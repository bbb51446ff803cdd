use Rattle.std.proofs.Common.{◌≡◌, ◌∷◌, [], ap, sym, subst}
use Rattle.wc_pool.specs.Pools.{made_by}
use Rattle.wc_pool.specs.declared.entry.PoolEntry.{PoolEntry}
use Rattle.seat_lock.specs.Since.{MadeSince}
use Rattle.seat_lock.specs.SinceLaws.{made_then, cut_since}
use Rattle.shared_pool.proofs.pool.SharedPool.make.Goals as goal

pub returns-in-Ok-clause-made : goal.returns-in-Ok-clause-made
returns-in-Ok-clause-made g c =
    let same : made_by c.args.by c.in-Ok.made ≡ made_by c.args.by c.give_out.new.r = ap (made_by c.args.by) (sym c.give_out.ensures.rest) in
    subst (λ (e : PoolEntry). MadeSince c.args.seat.now.me.0 c.give_out.new.seat.me.0 (e ∷ [])) same
    (made_then c.args.seat.now.me.0 c.make_in.new.seat.me.0 c.give_out.new.seat.me.0 _ [] c.in-Ok.ensures.make.since (cut_since _ c.make_in.new.seat c.give_out.new.seat c.give_out.ensures.given.1))
