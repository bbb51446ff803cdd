use Rattle.std.proofs.Common.{◌≡◌, ◌+◌, ◌≤◌, ◌++◌, ◌∷◌, [], List, ap, subst, ◌∙◌, arith, Some, vec_len, vec_capacity}
use Rattle.wc_pool.specs.declared.entry.PoolEntry.{PoolEntry}
use Rattle.wc_pool.specs.declared.entry.PoolOp.TheVariants as op
use Rattle.wc_pool.specs.Bag.{resource_of}
use Rattle.wc_pool.specs.Shared.{IsPool}
use Rattle.wc_pool.proofs.Moves.{key_there, count_few, after_clone, clone_next, adds_next}
use Rattle.wc_pool.proofs.pool.PoolRefPool.clone_ref.Goals as goal

pub key_of-key-requires : goal.key_of-key-requires
key_of-key-requires c =
    let i = c.self.inside in
    let r = c.args.r.now in
    let was : resource_of r.number i.entries.items ≡ Some r.resource = ap (λ (l : List PoolEntry). resource_of r.number l) c.self.view_is ∙ c.requires in
    key_there i.resources i.entries.items r.resource r.number c.self.invariant.0.kept was

pub add_reference-requires-clause-few : goal.add_reference-requires-clause-few
add_reference-requires-clause-few c = λ x at.
    let i = c.self.inside in
    let few = count_few i.resources i.entries.items c.key_of-key.result x c.self.invariant.0.kept at in
    omega (arith, few)

pub invariant_of-self-2 : goal.invariant_of-self-2
invariant_of-self-2 c =
    let i = c.self.inside in
    let r = c.args.r.now in
    let e : PoolEntry = record { by = c.args.by; op = op.Clone r.resource i.minted } in
    let more : c.push_reserved.new.self.items ≡ i.entries.items ++ e ∷ [] = c.push_reserved.ensures.items ∙ ap (λ (l : List PoolEntry). l ++ e ∷ []) c.reserve.ensures.items in
    let was : resource_of r.number i.entries.items ≡ Some r.resource = ap (λ (l : List PoolEntry). resource_of r.number l) c.self.view_is ∙ c.requires in
    let ok : vec_len c.reserve.new.self + (i.live + 2) ≤ vec_capacity c.reserve.new.self = c.in_ok-reserve.ensures.ok in
    (after_clone i.resources c.add_reference.new.resources i.entries.items c.push_reserved.new.self.items i.made i.minted i.held i.live r.resource r.number c.key_of-key.result c.args.by c.self.invariant.0 was c.add_reference.ensures more, omega (arith, ok, c.push_reserved.ensures.len, c.push_reserved.ensures.capacity))

pub returns-clause-made : goal.returns-clause-made
returns-clause-made c =
    let i = c.self.inside in
    let r = c.args.r.now in
    let e : PoolEntry = record { by = c.args.by; op = op.Clone r.resource i.minted } in
    let more : c.push_reserved.new.self.items ≡ c.args.self.now ++ e ∷ [] = c.push_reserved.ensures.items ∙ ap (λ (l : List PoolEntry). l ++ e ∷ []) (c.reserve.ensures.items ∙ c.self.view_is) in
    let P : List PoolEntry → Type 0 = λ l. IsPool i.resources l i.made i.minted i.held i.live in
    let kept = subst P c.self.view_is c.self.invariant.0 in
    adds_next c.args.self.now c.push_reserved.new.self.items e kept.kept.legal (clone_next i.resources c.args.self.now i.made i.minted i.held i.live r.resource r.number c.args.by kept c.requires) more
