use Rattle.std.proofs.Common.{ℕ, ℤ, List, true, ◌≡◌, ◌-◌, ◌^◌, refl, sym, subst, ap, arith, ◌∙◌}
use Rattle.std.specs.List.{flat_map, range_with_len}
use Rattle.flac_definitions.specs.FixedPredictors.{are_in_range, residuals}
use Rattle.flac_subframes.specs.Search.{AreWithin, best_of_order}
use Rattle.flac_definitions.specs.Candidates.{IsChoice, candidate_bits, first_shortest, fixed_candidates}
use Rattle.flac_subframes.proofs.Ranges.{residual_none, bound_at_end, within_range}
use Rattle.flac_subframes.proofs.Earlier.{whole_choice}
use Rattle.flac_subframes.proofs.choice.from_likely.Goals as goal

pub from_order-requires-clause-residual : goal.from_order-requires-clause-residual
from_order-requires-clause-residual c = c.requires.copied ∙ residual_none c.args.samples.now

pub from_order-requires-clause-within : goal.from_order-requires-clause-within
from_order-requires-clause-within c = subst (λ (l : List ℤ). AreWithin (2 ^ 25) l) (sym c.requires.copied) c.requires.within

pub returns : goal.returns
returns c =
    let a = c.args in
    let xs = a.samples.now in
    let range : are_in_range (residuals 0 xs) ≡ true = sym (ap (λ (l : List ℤ). are_in_range l) (residual_none xs)) ∙ within_range (2 ^ 25) xs (bound_at_end 0 (2 ^ 25) (omega arith) refl) c.requires.within in
    let same : a.last - 0 ≡ a.last = omega arith in
    let best = subst (λ (n : ℕ). IsChoice a.depth xs (first_shortest (candidate_bits a.depth xs) (best_of_order a.most xs 0) (flat_map (fixed_candidates a.most xs) (range_with_len 1 n))) c.in_ok-best.best) same c.in_ok-best.ensures in
    whole_choice a.depth xs a.most a.last a.first c.in_ok-best.best c.shorter.result c.requires.some range c.requires.first best c.shorter.ensures.first c.shorter.ensures.second
