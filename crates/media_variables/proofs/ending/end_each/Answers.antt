use Rattle.std.proofs.Common.{◌≡◌, ◌∷◌, [], ◌++◌, ◌∙◌, List, ap, sym, subst, refl, length, map, arith, append-nil}
use Rattle.std.specs.Vec.Iter.{into_iter_items}
use Rattle.wc_pool.specs.declared.entry.PoolEntry.{PoolEntry}
use Rattle.wc_pool.specs.declared.reference.MediaRef.{MediaRef}
use Rattle.media_variables.specs.Held.{pair_of, ends_behind, AreApart}
use Rattle.media_variables.proofs.LendLaws.{apart_next, goes_on, none_left}
use Rattle.media_variables.proofs.ending.end_each.Goals as goal

pub end_reference-requires : goal.end_reference-requires
end_reference-requires c =
    let at = c.loop-r in
    let steps : into_iter_items at.r-iterator ≡ c.in-Some.r ∷ into_iter_items c.next.new.self = c.in-Some.ensures.steps.0 in
    let P : List MediaRef → Type 0 = λ l. AreApart at.pool [] (map pair_of l) in
    (subst P steps at.invariant.apart).lives 0 (pair_of c.in-Some.r) refl

pub loop-r-preserved : goal.loop-r-preserved
loop-r-preserved c =
    let at = c.loop-r in
    let r = c.in-Some.r in
    let rs = into_iter_items c.next.new.self in
    let steps : into_iter_items at.r-iterator ≡ r ∷ rs = c.in-Some.ensures.steps.0 in
    let short = ap length steps in
    let P : List MediaRef → Type 0 = λ l. AreApart at.pool [] (map pair_of l) in
    let apart = subst P steps at.invariant.apart in
    let so_far = ap (λ (l : List MediaRef). at.pool ++ ends_behind c.args.by at.pool (map pair_of l)) (sym steps) ∙ at.invariant.done in
    let ended = c.end_reference.ensures.ended in
    record {
      long = omega (arith, short, c.in-Some.ensures.steps.1, at.invariant.long);
      apart = subst (λ (l : List PoolEntry). AreApart l [] (map pair_of rs)) (sym ended) (apart_next c.args.by at.pool [] (pair_of r) (map pair_of rs) apart);
      done = goes_on c.args.by at.pool c.end_reference.new.pool (pair_of r) (map pair_of rs) _ ended so_far;
    }

pub returns : goal.returns
returns c =
    let at = c.loop-r in
    let none : into_iter_items at.r-iterator ≡ [] = none_left (into_iter_items at.r-iterator) (sym at.invariant.long ∙ c.in-None.ensures.steps.0) in
    sym (append-nil at.pool) ∙ (ap (λ (l : List MediaRef). at.pool ++ ends_behind c.args.by at.pool (map pair_of l)) (sym none) ∙ at.invariant.done)
