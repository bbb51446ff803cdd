use Rattle.std.proofs.Common.{◌≡◌, ◌≤◌, ◌+◌, ◌-◌, ◌*◌, suc, arith}
use Rattle.std.proofs.lemmas.Result.{IfOk-weaker}
use Rattle.flac_definitions.specs.Candidates.{IsChoice, candidate_bits, shorter, first_shortest, fixed_candidates}
use Rattle.flac_subframes.specs.Search.{best_of_order}
use Rattle.std.specs.List.{flat_map, range_with_len}
use Rattle.flac_subframes.proofs.Ranges.{bound_fits}
use Rattle.flac_subframes.proofs.Shortest.{own_choice}
use Rattle.flac_subframes.proofs.Earlier.{small_range, doubled, earlier_choice}
use Rattle.flac_subframes.proofs.choice.+from_order.Goals as goal

pub fixed_choice-requires-clause-range : goal.fixed_choice-requires-clause-range
fixed_choice-requires-clause-range t c =
    let a = c.args in
    small_range a.order a.bound a.samples.now a.residual.now.items (omega (arith, c.requires.order, c.requires.likely, c.requires.last)) c.requires.bound c.requires.residual c.requires.within

pub with_later-requires-clause-first : goal.with_later-requires-clause-first
with_later-requires-clause-first t c = own_choice c.args.depth c.args.samples.now _ c.in_ok-first.first c.in_ok-first.ensures

pub to_next_order-requires-clause-most : goal.to_next_order-requires-clause-most
to_next_order-requires-clause-most t c = omega (arith, c.requires.bound, bound_fits c.args.order (omega (arith, c.requires.order, c.requires.likely, c.requires.last)))

pub overflow_mul-wide : goal.overflow_mul-wide
overflow_mul-wide t c = omega (arith, c.requires.bound, bound_fits c.args.order (omega (arith, c.requires.order, c.requires.likely, c.requires.last)))

pub with_earlier-requires-clause-behind : goal.with_earlier-requires-clause-behind
with_earlier-requires-clause-behind t c = own_choice c.args.depth c.args.samples.now _ c.in_ok-behind.behind c.in_ok-behind.ensures

pub returns : goal.returns
returns t c =
    let a = c.args in
    let xs = a.samples.now in
    let f = candidate_bits a.depth xs in
    let o = a.order in
    let behind = c.in_ok-behind.behind in
    let less : o + 1 ≤ a.likely = omega arith in
    let range = small_range (o + 1) (2 * a.bound) xs c.to_next_order.new.residual.items (omega (arith, less, c.requires.likely, c.requires.last)) (doubled o a.bound c.requires.bound) c.to_next_order.ensures.value c.to_next_order.ensures.within in
    let count : a.last - o ≡ suc (a.last - (o + 1)) = omega (arith, less, c.requires.likely) in
    IfOk-weaker c.with_earlier.result (IsChoice a.depth xs (shorter f (best_of_order a.most xs o) behind.candidate))
    (IsChoice a.depth xs (first_shortest f (best_of_order a.most xs o) (flat_map (fixed_candidates a.most xs) (range_with_len (o + 1) (a.last - o)))))
    (λ choice h. earlier_choice a.depth xs a.most o (a.last - o) (a.last - (o + 1)) behind.candidate choice (omega (arith, less, c.requires.some)) range count c.in_ok-behind.ensures.candidate_is h)
    c.with_earlier.ensures
