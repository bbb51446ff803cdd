use Rattle.std.proofs.Common.{sym, subst}
use Rattle.std.specs.Result.{IfOk}
use Rattle.flac_definitions.specs.Candidates.{IsChoice}
use Rattle.flac_definitions.specs.declared.candidate.Candidate.{Candidate}
use Rattle.flac_subframes.proofs.Shortest.{choice_as, order_in_range, order_too_large}
use Rattle.flac_subframes.proofs.choice.with_kept.Goals as goal

pub returns-then-order-samples : goal.returns-then-order-samples
returns-then-order-samples c =
    let a = c.args in
    choice_as a.depth a.samples.now _ _ a.best (sym (order_too_large a.depth a.samples.now a.most a.order a.best.candidate c.if-order-samples.true)) c.requires.best

pub returns : goal.returns
returns c =
    let a = c.args in
    subst (λ (x : Candidate). IfOk c.with_residual.result (IsChoice a.depth a.samples.now x)) (sym (order_in_range a.depth a.samples.now a.most a.order a.best.candidate c.if-order-samples.false c.requires.range)) c.with_residual.ensures
