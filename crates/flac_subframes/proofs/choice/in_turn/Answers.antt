use Rattle.std.proofs.Common.{ℤ, List, ◌≡◌, ◌+◌, ◌-◌, ◌^◌, refl, sym, subst, ap, arith, ◌∙◌, rules}
use Rattle.std.specs.List.{flat_map, range_with_len}
use Rattle.std.proofs.lemmas.Result.{IfOk-weaker}
use Rattle.flac_definitions.specs.FixedPredictors.{are_in_range}
use Rattle.flac_subframes.specs.Search.{AreWithin}
use Rattle.flac_definitions.specs.Candidates.{IsChoice, candidate_bits, first_shortest, fixed_candidates}
use Rattle.flac_subframes.proofs.Ranges.{residual_none, bound_at_end, within_range}
use Rattle.flac_subframes.proofs.Shortest.{own_choice}
use Rattle.flac_subframes.proofs.Earlier.{first_and_later}
use Rattle.flac_subframes.proofs.choice.in_turn.Goals as goal

pub with_kept-requires-clause-residual : goal.with_kept-requires-clause-residual
with_kept-requires-clause-residual c =
    let xs = c.args.samples.now in
    let items : c.as_slice.result.now ≡ xs = search rules in
    items ∙ residual_none xs

pub with_kept-requires-clause-range : goal.with_kept-requires-clause-range
with_kept-requires-clause-range c =
    let xs = c.args.samples.now in
    sym (ap (λ (l : List ℤ). are_in_range l) (residual_none xs)) ∙ within_range (2 ^ 25) xs (bound_at_end 0 (2 ^ 25) (omega arith) refl) c.requires.within

pub with_later-requires-clause-residual : goal.with_later-requires-clause-residual
with_later-requires-clause-residual c = c.requires.copied ∙ residual_none c.args.samples.now

pub with_later-requires-clause-within : goal.with_later-requires-clause-within
with_later-requires-clause-within c = subst (λ (l : List ℤ). AreWithin (2 ^ 25) l) (sym c.requires.copied) c.requires.within

pub with_later-requires-clause-first : goal.with_later-requires-clause-first
with_later-requires-clause-first c = own_choice c.args.depth c.args.samples.now _ c.in_ok-best.best c.in_ok-best.ensures

pub returns : goal.returns
returns c =
    let a = c.args in
    let xs = a.samples.now in
    let f = candidate_bits a.depth xs in
    let best = c.in_ok-best.best in
    IfOk-weaker c.with_later.result (IsChoice a.depth xs (first_shortest f best.candidate (flat_map (fixed_candidates a.most xs) (range_with_len (0 + 1) (a.last - 0)))))
    (IsChoice a.depth xs (first_shortest f a.first.candidate (flat_map (fixed_candidates a.most xs) (range_with_len 0 (a.last + 1)))))
    (λ choice h. first_and_later a.depth xs a.most a.last (a.last - 0) a.first.candidate best.candidate choice (omega arith) c.in_ok-best.ensures.candidate_is h)
    c.with_later.ensures
