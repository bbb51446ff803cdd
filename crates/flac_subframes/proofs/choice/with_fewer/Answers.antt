use Rattle.std.proofs.Common.{ℕ, ◌≡◌, ◌+◌, ◌-◌, subst, arith}
use Rattle.std.specs.List.{flat_map, range_with_len}
use Rattle.flac_definitions.specs.Candidates.{IsChoice, candidate_bits, first_shortest, fixed_candidates}
use Rattle.flac_subframes.specs.Search.{best_of_order}
use Rattle.flac_subframes.proofs.Shortest.{own_choice}
use Rattle.flac_subframes.proofs.Skipped.{order_range}
use Rattle.flac_subframes.proofs.Earlier.{earlier_choice}
use Rattle.flac_subframes.proofs.choice.with_fewer.Goals as goal

pub loop-j-init : goal.loop-j-init
loop-j-init c =
    let a = c.args in
    let xs = a.samples.now in
    let here : a.from ≡ a.from - 0 = omega arith in
    subst (λ (o : ℕ). IsChoice a.depth xs (first_shortest (candidate_bits a.depth xs) (best_of_order a.most xs o) (flat_map (fixed_candidates a.most xs) (range_with_len (o + 1) (a.last - o)))) a.behind) here c.requires.behind

pub with_earlier-requires-clause-least : goal.with_earlier-requires-clause-least
with_earlier-requires-clause-least c = c.requires.lengths (c.args.from - 1 - c.loop-j.j) (omega (arith, c.requires.from, c.requires.last))

pub with_earlier-requires-clause-behind : goal.with_earlier-requires-clause-behind
with_earlier-requires-clause-behind c = own_choice c.args.depth c.args.samples.now _ c.loop-j.best c.loop-j.invariant

pub loop-j-preserved : goal.loop-j-preserved
loop-j-preserved c =
    let a = c.args in
    let xs = a.samples.now in
    let f = candidate_bits a.depth xs in
    let g = fixed_candidates a.most xs in
    let j = c.loop-j.j in
    let o = a.from - 1 - j in
    let next : a.from - j ≡ o + 1 = omega arith in
    let here : o ≡ a.from - (j + 1) = omega arith in
    let behind = c.loop-j.best in
    let at : IsChoice a.depth xs (first_shortest f (best_of_order a.most xs (o + 1)) (flat_map g (range_with_len (o + 1 + 1) (a.last - (o + 1))))) behind =
    subst (λ (k : ℕ). IsChoice a.depth xs (first_shortest f (best_of_order a.most xs k) (flat_map g (range_with_len (k + 1) (a.last - k)))) behind) next c.loop-j.invariant in
    subst (λ (k : ℕ). IsChoice a.depth xs (first_shortest f (best_of_order a.most xs k) (flat_map g (range_with_len (k + 1) (a.last - k)))) c.in_ok-best.best) here
    (earlier_choice a.depth xs a.most o (a.last - o) (a.last - (o + 1)) behind.candidate c.in_ok-best.best (omega (arith, c.requires.long, c.requires.from, c.requires.last)) (order_range (o + 1) xs (omega (arith, c.requires.from, c.requires.last)) c.requires.within) (omega (arith, c.requires.from)) at.candidate_is c.in_ok-best.ensures)

pub returns : goal.returns
returns c =
    let a = c.args in
    let xs = a.samples.now in
    let end : a.from - c.loop-j.j ≡ 0 = omega arith in
    let same : a.last - 0 ≡ a.last = omega arith in
    subst (λ (n : ℕ). IsChoice a.depth xs (first_shortest (candidate_bits a.depth xs) (best_of_order a.most xs 0) (flat_map (fixed_candidates a.most xs) (range_with_len 1 n))) c.loop-j.best) same
    (subst (λ (k : ℕ). IsChoice a.depth xs (first_shortest (candidate_bits a.depth xs) (best_of_order a.most xs k) (flat_map (fixed_candidates a.most xs) (range_with_len (k + 1) (a.last - k)))) c.loop-j.best) end c.loop-j.invariant)
