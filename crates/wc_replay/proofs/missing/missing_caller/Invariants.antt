use Rattle.std.proofs.Common.{◌≡◌, drop}
use Rattle.run_model.specs.Missing.{missing_caller}
use Rattle.wc_replay.proofs.missing.missing_caller.Given as goal

abbrev pub invariant-loop-i : goal.invariant-loop-i
invariant-loop-i l = missing_caller l.media 0 l.callers ≡ missing_caller l.media l.i (drop l.i l.callers)
