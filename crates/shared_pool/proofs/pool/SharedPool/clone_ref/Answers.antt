use Rattle.std.proofs.Common.{◌≡◌, ◌∷◌, [], ap, sym, subst}
use Rattle.wc_pool.specs.Pools.{cloned_by}
use Rattle.wc_pool.specs.declared.entry.PoolEntry.{PoolEntry}
use Rattle.seat_lock.specs.Since.{MadeSince}
use Rattle.seat_lock.specs.SinceLaws.{made_then, cut_since}
use Rattle.shared_pool.proofs.pool.SharedPool.clone_ref.Goals as goal

pub returns-in-Ok-clause-made : goal.returns-in-Ok-clause-made
returns-in-Ok-clause-made g c =
    let same : cloned_by c.args.by c.in-Ok.clone ≡ cloned_by c.args.by c.give_out-in-Ok.new.r = ap (cloned_by c.args.by) (sym c.give_out-in-Ok.ensures.rest) in
    let one = made_then c.args.seat.now.me.0 c.take_in.new.seat.me.0 c.clone_in.new.seat.me.0 [] _ c.take_in.ensures.taken.since c.in-Ok.ensures.clone.since in
    let two = made_then c.args.seat.now.me.0 c.clone_in.new.seat.me.0 c.give_out.new.seat.me.0 _ [] one (cut_since _ c.clone_in.new.seat c.give_out.new.seat c.give_out.ensures.given.1) in
    let three = made_then c.args.seat.now.me.0 c.give_out.new.seat.me.0 c.give_out-in-Ok.new.seat.me.0 _ [] two (cut_since _ c.give_out.new.seat c.give_out-in-Ok.new.seat c.give_out-in-Ok.ensures.given.1) in
    subst (λ (e : PoolEntry). MadeSince c.args.seat.now.me.0 c.give_out-in-Ok.new.seat.me.0 (e ∷ [])) same three

pub returns-in-Err-clause-err : goal.returns-in-Err-clause-err
returns-in-Err-clause-err g c =
    let one = made_then c.args.seat.now.me.0 c.take_in.new.seat.me.0 c.clone_in.new.seat.me.0 [] [] c.take_in.ensures.taken.since c.in-Err.ensures.clone.since in
    made_then c.args.seat.now.me.0 c.clone_in.new.seat.me.0 c.give_out-in-Err.new.seat.me.0 [] [] one (cut_since _ c.clone_in.new.seat c.give_out-in-Err.new.seat c.give_out-in-Err.ensures.given.1)
