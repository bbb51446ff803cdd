use Rattle.std.proofs.Common.{◌≡◌, ◌-◌, ◌*◌, ◌++◌}
use Rattle.load_script.specs.Draws.{state_after}
use Rattle.load_script.specs.Script.{chunk_steps}
use Rattle.load_script.proofs.chunks.push_chunks.Given as goal

abbrev pub invariant-loop-chunk : goal.invariant-loop-chunk
invariant-loop-chunk l = record {
  steps : l.steps.items ++ chunk_steps l.on (l.count - l.chunk) l.chunk l.draws.state ≡ l.fn.steps.items ++ chunk_steps l.on l.count 0 l.fn.draws.state;
  state : state_after ((l.count - l.chunk) * 160) l.draws.state ≡ state_after (l.count * 160) l.fn.draws.state;
}
