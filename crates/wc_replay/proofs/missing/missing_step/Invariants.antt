use Rattle.std.proofs.Common.{◌≡◌, drop}
use Rattle.run_model.specs.Missing.{missing_step}
use Rattle.wc_replay.proofs.missing.missing_step.Given as goal

abbrev pub invariant-loop-j : goal.invariant-loop-j
invariant-loop-j l = missing_step l.media l.caller 0 l.steps ≡ missing_step l.media l.caller l.j (drop l.j l.steps)
