use Rattle.std.proofs.Common.{◌≡◌, drop}
use Rattle.script_types.specs.Sound.{counts_agree}
use Rattle.wc_script.proofs.walk.counts_agree.Given as goal

abbrev pub invariant-loop-i : goal.invariant-loop-i
invariant-loop-i l = counts_agree 0 l.callers l.order ≡ counts_agree l.i (drop l.i l.callers) l.order
