use Rattle.load_script.proofs.Loops.{chunk_next, draws_next}
use Rattle.load_script.proofs.chunks.push_chunks.Goals as goal

pub loop-chunk-preserved : goal.loop-chunk-preserved
loop-chunk-preserved c = record {
  steps = chunk_next c.args.on c.args.count c.loop-chunk.chunk c.loop-chunk.draws.state c.makes.new.draws.state c.in_ok-step.step c.in_ok-step-2.step c.loop-chunk.steps.items c.try_push.new.items.items c.try_push-in-loop-chunk.new.items.items _
      c.loop-chunk-test.true c.in_ok-step.ensures.state c.in_ok-step.ensures.step c.in_ok-step-2.ensures c.in_ok-try_push.ensures.ok c.in_ok-try_push-2.ensures.ok c.loop-chunk.invariant.steps;
  state = draws_next c.args.count c.loop-chunk.chunk c.loop-chunk.draws.state c.makes.new.draws.state _ c.loop-chunk-test.true c.in_ok-step.ensures.state c.loop-chunk.invariant.state;
}
