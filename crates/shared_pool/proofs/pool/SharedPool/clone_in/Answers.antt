use Rattle.std.proofs.Common.{sym, subst}
use Rattle.seat_lock.specs.Own.{inside_of, view_of_passage}
use Rattle.seat_lock.specs.Passages.{passage_of}
use Rattle.wc_pool.specs.Bag.{mints}
use Rattle.wc_pool.specs.Pools.{IsLive}
use Rattle.wc_pool.specs.declared.reference.MediaRef.{MediaRef}
use Rattle.shared_pool.specs.declared.pool.LockedPool.{LockedPool}
use Rattle.shared_pool.specs.Refs.{ends, IsPoolLog}
use Rattle.shared_pool.proofs.Passages.{live_inside, pool_cloned, clone_spends, clones_in}
use Rattle.shared_pool.proofs.pool.SharedPool.clone_in.Goals as goal

pub clone_ref-clone-requires : goal.clone_ref-clone-requires
clone_ref-clone-requires g c =
    let e = c.enter-held.ensures.log in
    live_inside c.references_are_apart.ensures.made c.args.r.now c.args.seat.now.me.0.numbers c.args.seat.now.me.0.log e.log c.args.seat.now.me.0.claims c.state.result.now.pool c.requires.claim e.continues c.requires.known e.live
    (subst (λ (x : LockedPool). IsPoolLog x.pool e.log) (sym c.state.ensures.value) e.stands)

pub leave-requires-clause-log : goal.leave-requires-clause-log
leave-requires-clause-log g c =
    let e = c.enter-held.ensures.log in
    let st = subst (λ (x : LockedPool). IsPoolLog x.pool e.log) (sym c.state.ensures.value) e.stands in
    record {
      log = e.log;
      inside = inside_of e.log _ _ e.goes_in;
      stands = pool_cloned c.args.by c.clone_ref-clone.result c.state.result.now.pool c.clone_ref-clone.new.self e.log _ (passage_of c.clone_passage-passage.result) c.clone_ref-clone.ensures.made c.clone_ref-clone.ensures.err c.clone_passage-passage.ensures st;
      has_claim = clone_spends c.args.by c.clone_ref-clone.result e.log (passage_of c.clone_passage-passage.result) _ c.clone_passage-passage.ensures;
    }

pub returns-clause-clone : goal.returns-clause-clone
returns-clause-clone g c =
    let e = c.enter-held.ensures.log in
    let p = passage_of c.clone_passage-passage.result in
    let st = subst (λ (x : LockedPool). IsPoolLog x.pool e.log) (sym c.state.ensures.value) e.stands in
    let next = pool_cloned c.args.by c.clone_ref-clone.result c.state.result.now.pool c.clone_ref-clone.new.self e.log c.args.seat.now.me.0.number p c.clone_ref-clone.ensures.made c.clone_ref-clone.ensures.err c.clone_passage-passage.ensures st in
    let view = view_of_passage mints ends p e.log c.args.seat.now c.enter-held.new.seat c.leave.new.seat e.goes_in c.leave.ensures.log in
    clones_in c.args.by c.args.r.now c.clone_ref-clone.result c.state.result.now.pool c.clone_ref-clone.new.self c.args.seat.now c.leave.new.seat e.log p view e.continues e.has_number c.requires.claim
    c.clone_ref-clone.ensures.made c.clone_ref-clone.ensures.clone c.clone_ref-clone.ensures.of c.clone_ref-clone.ensures.err
    (subst (λ (m : MediaRef). IsLive c.clone_ref-clone.new.self m) c.clone_ref-clone.ensures.same c.clone_ref-clone.ensures.still) c.clone_passage-passage.ensures st next
