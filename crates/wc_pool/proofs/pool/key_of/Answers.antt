use Rattle.std.proofs.Common.{◌<◌, length, arith, refl, sym, subst, Option, IsSome}
use Rattle.slab.proofs.SlabLemmas.{ContainsKey-within}
use Rattle.wc_pool.specs.declared.pool.Resource.{Resource}
use Rattle.wc_pool.proofs.pool.key_of.Goals as goal

pub unreachable-requires : goal.unreachable-requires
unreachable-requires c =
    let P : Option Resource → Type 0 = λ o. IsSome o in
    let within : c.requires.key < length c.args.resources.now.slots = ContainsKey-within c.args.resources.now c.requires.key (subst P (sym c.requires.there) refl) in
    c.loop-key.invariant c.requires.key c.requires.kept (omega (arith, within)) c.requires.there c.requires.same
