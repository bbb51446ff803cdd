use Rattle.std.proofs.Common.{◌≡◌, sym, subst, ◌∙◌}
use Rattle.std.specs.Prelude.{is_some}
use Rattle.seat_lock.specs.Own.{inside_of, view_of_passage, claims_of}
use Rattle.wc_base.specs.declared.seat.Passage.TheVariants.{Made}
use Rattle.wc_pool.specs.Bag.{mints}
use Rattle.wc_pool.specs.Pools.{Adds, ended_by}
use Rattle.wc_pool.specs.declared.entry.PoolEntry.{PoolEntry}
use Rattle.wc_pool.specs.declared.entry.PoolOp.TheVariants as op
use Rattle.shared_pool.specs.declared.pool.LockedPool.{LockedPool}
use Rattle.shared_pool.specs.Refs.{ends, IsPoolLog}
use Rattle.shared_pool.proofs.Passages.{live_inside, pool_made, ends_in, end_spends}
use Rattle.shared_pool.proofs.pool.SharedPool.end_in.Goals as goal

pub end-bytes-requires : goal.end-bytes-requires
end-bytes-requires g c =
    let e = c.enter-held.ensures.log in
    live_inside c.references_are_apart.ensures.made c.args.r c.args.seat.now.me.0.numbers c.args.seat.now.me.0.log e.log c.args.seat.now.me.0.claims c.state.result.now.pool c.requires.claim e.continues c.requires.known e.live
    (subst (λ (x : LockedPool). IsPoolLog x.pool e.log) (sym c.state.ensures.value) e.stands)

pub leave-requires-clause-log : goal.leave-requires-clause-log
leave-requires-clause-log g c =
    let e = c.enter-held.ensures.log in
    let st = subst (λ (x : LockedPool). IsPoolLog x.pool e.log) (sym c.state.ensures.value) e.stands in
    let is : c.of.result.value ≡ ended_by c.args.by c.args.r (is_some c.end-bytes.result) = c.of.ensures ∙ (λ i. record { by = c.args.by; op = op.End (c.resource-resource.ensures i) (c.number-reference.ensures i) (c.is_some-last.ensures i) }) in
    record {
      log = e.log;
      inside = inside_of e.log _ _ e.goes_in;
      stands = pool_made c.state.result.now.pool c.end-bytes.new.self e.log _ c.of.result.value (subst (λ (x : PoolEntry). Adds c.state.result.now.pool c.end-bytes.new.self x) (sym is) c.end-bytes.ensures.ended) st;
      has_claim = end_spends c.args.by c.args.r (is_some c.end-bytes.result) c.of.result.value e.log c.enter-held.new.seat.me.0.claims is (claims_of e.log c.args.seat.now c.enter-held.new.seat e.goes_in ∙ c.requires.claim);
    }

pub returns-clause-end : goal.returns-clause-end
returns-clause-end g c =
    let e = c.enter-held.ensures.log in
    let is : c.of.result.value ≡ ended_by c.args.by c.args.r (is_some c.end-bytes.result) = c.of.ensures ∙ (λ i. record { by = c.args.by; op = op.End (c.resource-resource.ensures i) (c.number-reference.ensures i) (c.is_some-last.ensures i) }) in
    let view = view_of_passage mints ends (Made c.of.result.value) e.log c.args.seat.now c.enter-held.new.seat c.leave.new.seat e.goes_in c.leave.ensures.log in
    ends_in c.args.by c.args.r (is_some c.end-bytes.result) c.of.result.value c.args.seat.now c.leave.new.seat e.log is view e.continues e.has_number c.requires.claim
