use Rattle.std.proofs.Common.{◌≡◌, sym, subst, ◌∙◌}
use Rattle.std.specs.Result.{IfOk}
use Rattle.flac_definitions.specs.Candidates.{IsChoice, best_candidate}
use Rattle.flac_definitions.specs.declared.candidate.Candidate.{Candidate}
use Rattle.flac_definitions.specs.declared.candidate.Candidate.TheVariants.{Constant}
use Rattle.flac_subframes.specs.Search.{plain_candidate}
use Rattle.flac_subframes.proofs.Settled.{settled}
use Rattle.flac_subframes.proofs.Shortest.{choice_as, whole_search}
use Rattle.flac_subframes.proofs.choice.best_choice.Goals as goal

pub returns-then-are_within : goal.returns-then-are_within
returns-then-are_within c =
    let a = c.args in
    let xs = a.samples.now in
    subst (λ (x : Candidate). IfOk c.with_small_orders.result (IsChoice a.depth xs x))
    (whole_search a.depth a.level xs c.min-most.result c.min-last.result c.plain_choice-plain.result.candidate c.requires.some c.plain_choice-plain.ensures.candidate_is c.min-most.ensures c.min-last.ensures)
    c.with_small_orders.ensures

pub returns-else-are_within : goal.returns-else-are_within
returns-else-are_within c =
    let a = c.args in
    let xs = a.samples.now in
    subst (λ (x : Candidate). IfOk c.with_orders.result (IsChoice a.depth xs x))
    (whole_search a.depth a.level xs c.min-most.result c.min-last.result c.plain_choice-plain.result.candidate c.requires.some c.plain_choice-plain.ensures.candidate_is c.min-most.ensures c.min-last.ensures)
    c.with_orders.ensures

pub returns-then-is_settled : goal.returns-then-is_settled
returns-then-is_settled c =
    let a = c.args in
    let xs = a.samples.now in
    let plain = c.plain_choice-plain in
    let e : plain_candidate xs ≡ Constant = sym plain.ensures.candidate_is ∙ c.is_settled.ensures.constant c.if-is_settled.true in
    choice_as a.depth xs (plain_candidate xs) (best_candidate a.depth a.level xs) plain.result
    (settled a.depth a.level xs c.requires.some (c.is_settled.ensures.long c.if-is_settled.true) e) plain.ensures
