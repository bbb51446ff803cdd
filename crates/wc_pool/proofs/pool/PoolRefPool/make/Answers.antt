use Rattle.std.proofs.Common.{◌≡◌, ◌+◌, ◌≤◌, ◌++◌, ◌∷◌, [], List, ap, sym, subst, ◌∙◌, arith, Some, None, vec_len, vec_capacity}
use Rattle.wc_pool.specs.declared.entry.PoolEntry.{PoolEntry}
use Rattle.wc_pool.specs.declared.entry.PoolOp.TheVariants as op
use Rattle.slab.specs.Slab.{Slab, get, Updates}
use Rattle.wc_pool.specs.declared.pool.Resource.{Resource}
use Rattle.wc_pool.specs.Pools.{IsLive, KeepsAll}
use Rattle.wc_pool.specs.Shared.{IsPool}
use Rattle.wc_pool.proofs.Steps.{mints_of_make}
use Rattle.wc_pool.proofs.Moves.{held_few, after_make, make_next, adds_next, mint_keeps_all, numbered}
use Rattle.wc_pool.proofs.pool.PoolRefPool.make.Goals as goal

pub overflow_add-self-3 : goal.overflow_add-self-3
overflow_add-self-3 c =
    let i = c.self.inside in
    let few = held_few i.resources i.entries.items i.made i.minted i.held i.live c.self.invariant.0 in
    omega (arith, few)

pub invariant_of-self-2 : goal.invariant_of-self-2
invariant_of-self-2 c =
    let i = c.self.inside in
    let h = i.entries.items in
    let e : PoolEntry = record { by = c.args.by; op = op.Make i.made i.minted } in
    let more : c.push_reserved.new.self.items ≡ h ++ e ∷ [] = c.push_reserved.ensures.items ∙ ap (λ (l : List PoolEntry). l ++ e ∷ []) c.reserve.ensures.items in
    let ok : vec_len c.reserve.new.self + (i.live + 2) ≤ vec_capacity c.reserve.new.self = c.in_ok-reserve.ensures.ok in
    let updates : Updates i.resources c.insert_reserved-key.new.self c.insert_reserved-key.result (Some (record { number = i.made; count = 1 })) = record { changed = c.insert_reserved-key.ensures.updates.changed; others = λ k apart. c.insert_reserved-key.ensures.updates.others k apart ∙ ap (λ (s : Slab Resource). get s k) c.reserve-2.ensures.rest_kept } in
    let vacant : get i.resources c.insert_reserved-key.result ≡ None = ap (λ (s : Slab Resource). get s c.insert_reserved-key.result) (sym c.reserve-2.ensures.rest_kept) ∙ c.insert_reserved-key.ensures.was_vacant in
    (after_make i.resources c.insert_reserved-key.new.self h c.push_reserved.new.self.items i.made i.minted i.held i.live c.insert_reserved-key.result c.args.by c.self.invariant.0 vacant updates more, omega (arith, ok, c.push_reserved.ensures.len, c.push_reserved.ensures.capacity))

pub returns-clause-made : goal.returns-clause-made
returns-clause-made c =
    let i = c.self.inside in
    let e : PoolEntry = record { by = c.args.by; op = op.Make i.made i.minted } in
    let more : c.push_reserved.new.self.items ≡ c.args.self.now ++ e ∷ [] = c.push_reserved.ensures.items ∙ ap (λ (l : List PoolEntry). l ++ e ∷ []) (c.reserve.ensures.items ∙ c.self.view_is) in
    let P : List PoolEntry → Type 0 = λ l. IsPool i.resources l i.made i.minted i.held i.live in
    let kept = subst P c.self.view_is c.self.invariant.0 in
    adds_next c.args.self.now c.push_reserved.new.self.items e kept.kept.legal (make_next i.resources c.args.self.now i.made i.minted i.held i.live c.args.by kept) more

pub returns-clause-kept : goal.returns-clause-kept
returns-clause-kept c =
    let i = c.self.inside in
    let e : PoolEntry = record { by = c.args.by; op = op.Make i.made i.minted } in
    let more : c.push_reserved.new.self.items ≡ c.args.self.now ++ e ∷ [] = c.push_reserved.ensures.items ∙ ap (λ (l : List PoolEntry). l ++ e ∷ []) (c.reserve.ensures.items ∙ c.self.view_is) in
    let P : List PoolEntry → Type 0 = λ l. IsPool i.resources l i.made i.minted i.held i.live in
    let kept = subst P c.self.view_is c.self.invariant.0 in
    let K : List PoolEntry → Type 0 = λ l. KeepsAll (IsLive c.args.self.now) (IsLive l) in
    subst K (sym more) (mint_keeps_all c.args.self.now (c.args.self.now ++ e ∷ []) i.made i.minted (numbered i.resources c.args.self.now kept.kept) (mints_of_make c.args.self.now c.args.by i.made i.minted kept.all_minted))
