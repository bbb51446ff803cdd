use Rattle.std.proofs.Common.{List, map, sym, subst}
use Rattle.codec_model.specs.Held.{in_order}
use Rattle.wc_pool.specs.declared.entry.PoolEntry.{PoolEntry}
use Rattle.media_variables.specs.Variables.{Media}
use Rattle.media_variables.specs.Held.{pair_of, seen_in, AreHeld, AreApart}
use Rattle.media_variables.proofs.LendLaws.{ended_held}
use Rattle.media_variables.proofs.callers.CallerMedia.end_one.Goals as goal

pub invariant_of-self : goal.invariant_of-self
invariant_of-self c =
    let inner = c.self.inside in
    let ps = map pair_of (in_order c.args.media) in
    let apart : AreApart inner.pool (map seen_in inner.callers.items) ps = subst (λ (m : Media). AreApart m.pool m.variables ps) (sym c.self.view_is) c.requires in
    subst (λ (l : List PoolEntry). AreHeld l (map seen_in inner.callers.items)) (sym c.end_if.ensures) (ended_held c.args.by inner.pool (map seen_in inner.callers.items) ps apart c.self.invariant)
