use Rattle.std.proofs.Common.{ℕ, ◌≡◌, ◌-◌, ◌++◌, ◌∷◌, [], List, ap, sym, subst, ◌∙◌, arith, Some}
use Rattle.wc_pool.specs.declared.entry.PoolEntry.{PoolEntry}
use Rattle.wc_pool.specs.declared.entry.PoolOp.TheVariants as op
use Rattle.wc_pool.specs.Bag.{resource_of}
use Rattle.wc_pool.specs.Shared.{IsPool}
use Rattle.wc_pool.proofs.Moves.{key_there, some_live, some_held, after_end, end_next, adds_next}
use Rattle.wc_pool.proofs.pool.Pool.end_pair.Goals as goal

pub key_of-key-requires : goal.key_of-key-requires
key_of-key-requires c =
    let i = c.self.inside in
    let was : resource_of c.args.reference i.entries.items ≡ Some c.args.resource = ap (λ (l : List PoolEntry). resource_of c.args.reference l) c.self.view_is ∙ c.requires in
    key_there i.resources i.entries.items c.args.resource c.args.reference c.self.invariant.0.kept was

pub push_reserved-requires : goal.push_reserved-requires
push_reserved-requires c =
    let i = c.self.inside in
    let was : resource_of c.args.reference i.entries.items ≡ Some c.args.resource = ap (λ (l : List PoolEntry). resource_of c.args.reference l) c.self.view_is ∙ c.requires in
    let some = some_live i.resources i.entries.items i.made i.minted i.held i.live c.args.resource c.args.reference c.self.invariant.0 was in
    omega (arith, some, c.self.invariant.1)

pub overflow_sub-self : goal.overflow_sub-self
overflow_sub-self c =
    let i = c.self.inside in
    let was : resource_of c.args.reference i.entries.items ≡ Some c.args.resource = ap (λ (l : List PoolEntry). resource_of c.args.reference l) c.self.view_is ∙ c.requires in
    let some = some_live i.resources i.entries.items i.made i.minted i.held i.live c.args.resource c.args.reference c.self.invariant.0 was in
    omega (arith, some)

pub fewer-self-inside-requires : goal.fewer-self-inside-requires
fewer-self-inside-requires c = λ is.
    let i = c.self.inside in
    let was : resource_of c.args.reference i.entries.items ≡ Some c.args.resource = ap (λ (l : List PoolEntry). resource_of c.args.reference l) c.self.view_is ∙ c.requires in
    some_held i.resources i.entries.items i.made i.minted i.held i.live c.args.resource c.args.reference c.self.invariant.0 was

pub invariant_of-self : goal.invariant_of-self
invariant_of-self c =
    let i = c.self.inside in
    let was : resource_of c.args.reference i.entries.items ≡ Some c.args.resource = ap (λ (l : List PoolEntry). resource_of c.args.reference l) c.self.view_is ∙ c.requires in
    let after = after_end i.resources c.drop_reference-last.new.resources i.entries.items c.push_reserved.new.self.items i.made i.minted i.held i.live c.args.resource c.args.reference c.key_of-key.result c.drop_reference-last.result c.args.by c.self.invariant.0 was c.drop_reference-last.ensures c.push_reserved.ensures.items in
    let some = some_live i.resources i.entries.items i.made i.minted i.held i.live c.args.resource c.args.reference c.self.invariant.0 was in
    let P = λ (n : ℕ). IsPool c.drop_reference-last.new.resources c.push_reserved.new.self.items i.made i.minted n (i.live - 1) in
    (subst P (sym c.fewer-self-inside.ensures) after, omega (arith, some, c.self.invariant.1, c.push_reserved.ensures.len, c.push_reserved.ensures.capacity))

pub returns-clause-ended : goal.returns-clause-ended
returns-clause-ended c =
    let i = c.self.inside in
    let e : PoolEntry = record { by = c.args.by; op = op.End c.args.resource c.args.reference c.drop_reference-last.result } in
    let more : c.push_reserved.new.self.items ≡ c.args.self.now ++ e ∷ [] = c.push_reserved.ensures.items ∙ ap (λ (l : List PoolEntry). l ++ e ∷ []) c.self.view_is in
    let P : List PoolEntry → Type 0 = λ l. IsPool i.resources l i.made i.minted i.held i.live in
    let kept = subst P c.self.view_is c.self.invariant.0 in
    adds_next c.args.self.now c.push_reserved.new.self.items e kept.kept.legal (end_next i.resources c.drop_reference-last.new.resources c.args.self.now i.made i.minted i.held i.live c.args.resource c.args.reference c.key_of-key.result c.drop_reference-last.result c.args.by kept c.requires c.drop_reference-last.ensures) more
