use Rattle.std.proofs.Common.{sym, subst}
use Rattle.seat_lock.specs.Own.{inside_of, view_of_passage}
use Rattle.seat_lock.specs.Passages.{passage_of}
use Rattle.wc_pool.specs.Bag.{mints}
use Rattle.shared_pool.specs.declared.pool.LockedPool.{LockedPool}
use Rattle.shared_pool.specs.Refs.{ends, IsPoolLog}
use Rattle.shared_pool.proofs.Passages.{pool_made_by, make_spends, makes_in}
use Rattle.shared_pool.proofs.pool.SharedPool.make_in.Goals as goal

pub leave-requires-clause-log : goal.leave-requires-clause-log
leave-requires-clause-log g c =
    let e = c.enter-held.ensures.log in
    let st = subst (λ (x : LockedPool). IsPoolLog x.pool e.log) (sym c.state.ensures.value) e.stands in
    record {
      log = e.log;
      inside = inside_of e.log _ _ e.goes_in;
      stands = pool_made_by c.args.by c.make-made.result c.state.result.now.pool c.make-made.new.self e.log _ (passage_of c.make_passage-passage.result) c.make-made.ensures.made c.make-made.ensures.err c.make_passage-passage.ensures st;
      has_claim = make_spends c.args.by c.make-made.result e.log (passage_of c.make_passage-passage.result) _ c.make_passage-passage.ensures;
    }

pub returns-clause-make : goal.returns-clause-make
returns-clause-make g c =
    let e = c.enter-held.ensures.log in
    let p = passage_of c.make_passage-passage.result in
    let st = subst (λ (x : LockedPool). IsPoolLog x.pool e.log) (sym c.state.ensures.value) e.stands in
    let next = pool_made_by c.args.by c.make-made.result c.state.result.now.pool c.make-made.new.self e.log c.args.seat.now.me.0.number p c.make-made.ensures.made c.make-made.ensures.err c.make_passage-passage.ensures st in
    let view = view_of_passage mints ends p e.log c.args.seat.now c.enter-held.new.seat c.leave.new.seat e.goes_in c.leave.ensures.log in
    makes_in c.args.by c.make-made.result c.state.result.now.pool c.make-made.new.self c.args.seat.now c.leave.new.seat e.log p view e.continues e.has_number c.requires.seat.1
    c.make-made.ensures.made c.make-made.ensures.of c.make_passage-passage.ensures st next
