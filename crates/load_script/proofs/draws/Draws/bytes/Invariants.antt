use Rattle.std.proofs.Common.{◌≡◌, ◌-◌, ◌++◌}
use Rattle.load_script.specs.Draws.{state_after, bytes_drawn}
use Rattle.load_script.proofs.draws.Draws.bytes.Given as goal

abbrev pub invariant-loop-n : goal.invariant-loop-n
invariant-loop-n l = record {
  bytes : l.bytes.items ++ bytes_drawn (l.count - l._n) l.self.state ≡ bytes_drawn l.count l.fn.self.state;
  state : state_after (l.count - l._n) l.self.state ≡ state_after l.count l.fn.self.state;
}
