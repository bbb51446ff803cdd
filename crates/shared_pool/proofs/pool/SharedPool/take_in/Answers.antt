use Rattle.std.proofs.Common.{◌≡◌, sym, subst, ◌∙◌, Some}
use Rattle.atomic_table.specs.declared.badge.Badge.{Badge}
use Rattle.wc_base.specs.Views.{IsTokenWith}
use Rattle.wc_base.specs.declared.seat.View.{View}
use Rattle.wc_pool.specs.declared.entry.PoolEntry.{PoolEntry}
use Rattle.shared_pool.proofs.Passages.{takes_ref}
use Rattle.shared_pool.proofs.pool.SharedPool.take_in.Goals as goal

pub returns-clause-taken : goal.returns-clause-taken
returns-clause-taken c =
    let t = c.requires.token in
    let same : t.token ≡ c.in-Some.token = (let q : Some t.token ≡ Some c.in-Some.token = sym t.has ∙ (sym c.take_token.ensures.token ∙ c.in-Some.is) in cc) in
    takes_ref _ c.args.r.now t c.args.seat.now c.join_token.new.seat (c.join_token.ensures.union t.view (subst (λ (b : Badge (View PoolEntry)). IsTokenWith t.view b) same t.is_token)) c.requires.seat.1
