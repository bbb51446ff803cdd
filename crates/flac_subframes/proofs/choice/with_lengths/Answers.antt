use Rattle.std.proofs.Common.{◌+◌, ◌-◌, subst, arith}
use Rattle.std.specs.List.{flat_map, range_with_len}
use Rattle.flac_definitions.specs.Candidates.{IsChoice, candidate_bits, first_shortest, fixed_candidates}
use Rattle.flac_definitions.specs.declared.candidate.Candidate.{Candidate}
use Rattle.flac_subframes.proofs.Shortest.{own_choice}
use Rattle.flac_subframes.proofs.Skipped.{order_range, first_stays}
use Rattle.flac_subframes.proofs.Earlier.{whole_choice}
use Rattle.flac_subframes.proofs.choice.with_lengths.Goals as goal

pub returns-then-first-lengths : goal.returns-then-first-lengths
returns-then-first-lengths c =
    let a = c.args in
    first_stays a.depth a.samples.now a.most a.last a.first c.requires.last c.requires.long c.requires.within c.requires.first
    (λ o l. omega (arith, c.if-first-lengths.true, c.least_place-begin.ensures.least o l, c.requires.lengths o (omega (arith, l, c.requires.last))))

pub with_more-requires-clause-first : goal.with_more-requires-clause-first
with_more-requires-clause-first c = own_choice c.args.depth c.args.samples.now _ c.in_ok-here.here c.in_ok-here.ensures

pub with_fewer-requires-clause-behind : goal.with_fewer-requires-clause-behind
with_fewer-requires-clause-behind c =
    let a = c.args in
    let xs = a.samples.now in
    let b = c.least_place-begin.result in
    subst (λ (x : Candidate). IsChoice a.depth xs (first_shortest (candidate_bits a.depth xs) x (flat_map (fixed_candidates a.most xs) (range_with_len (b + 1) (a.last - b)))) c.in_ok-behind.behind) c.in_ok-here.ensures.candidate_is c.in_ok-behind.ensures

pub returns : goal.returns
returns c =
    let a = c.args in
    let xs = a.samples.now in
    whole_choice a.depth xs a.most a.last a.first c.in_ok-best.best c.shorter.result (omega (arith, c.requires.long)) (order_range 0 xs (omega arith) c.requires.within) c.requires.first c.in_ok-best.ensures c.shorter.ensures.first c.shorter.ensures.second
