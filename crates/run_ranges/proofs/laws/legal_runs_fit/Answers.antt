use Rattle.run_ranges.proofs.{CodeRanges.CodesAreBytes, RunRanges.lines_fit}
use Rattle.run_ranges.proofs.laws.legal_runs_fit.Goals as goal

pub returns : goal.returns
returns c =
    let laws : CodesAreBytes = record { ulaw = c.ulaw_codes.ensures.encodes; alaw = c.alaw_codes.ensures.encodes } in
    lines_fit laws c.references_are_held.ensures.all c.never_stuck.ensures.facts c.references_are_apart.ensures.live
