use Rattle.std.proofs.Common.{◌≡◌, sym, subst, true, false, rules}
use Rattle.std.specs.Result.{IfOk}
use Rattle.flac_definitions.specs.FixedPredictors.{are_in_range, residuals}
use Rattle.flac_definitions.specs.Candidates.{IsChoice}
use Rattle.flac_definitions.specs.declared.candidate.Candidate.{Candidate}
use Rattle.flac_subframes.proofs.Shortest.{choice_as, order_in_range, order_out_of_range, order_too_large}
use Rattle.flac_subframes.proofs.choice.with_order.Goals as goal

pub returns-then-order-samples : goal.returns-then-order-samples
returns-then-order-samples c =
    let a = c.args in
    choice_as a.depth a.samples.now _ _ a.best (sym (order_too_large a.depth a.samples.now a.most a.order a.best.candidate c.if-order-samples.true)) c.requires.best

pub returns-in-Ok-Some : goal.returns-in-Ok-Some
returns-in-Ok-Some c =
    let a = c.args in
    let range : are_in_range (residuals a.order a.samples.now) ≡ true = search rules in
    subst (λ (x : Candidate). IfOk c.with_residual.result (IsChoice a.depth a.samples.now x)) (sym (order_in_range a.depth a.samples.now a.most a.order a.best.candidate c.if-order-samples.false range)) c.with_residual.ensures

pub returns-in-Ok-None : goal.returns-in-Ok-None
returns-in-Ok-None c =
    let a = c.args in
    let range : are_in_range (residuals a.order a.samples.now) ≡ false = search rules in
    choice_as a.depth a.samples.now _ _ a.best (sym (order_out_of_range a.depth a.samples.now a.most a.order a.best.candidate range)) c.requires.best
