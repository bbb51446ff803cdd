use Rattle.std.proofs.Common.{◌≡◌, ◌+◌, ◌-◌, ◌++◌}
use Rattle.load_script.specs.Script.{take_steps}
use Rattle.load_script.proofs.chunks.push_takes.Given as goal

abbrev pub invariant-loop-n : goal.invariant-loop-n
invariant-loop-n l = l.steps.items ++ take_steps l.on (l.count - l.n) (l.first + l.n) ≡ l.fn.steps.items ++ take_steps l.on l.count l.first
