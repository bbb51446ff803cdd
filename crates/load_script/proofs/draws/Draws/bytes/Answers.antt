use Rattle.load_script.proofs.Loops.{bytes_next, state_next}
use Rattle.load_script.proofs.draws.Draws.bytes.Goals as goal

pub loop-n-preserved : goal.loop-n-preserved
loop-n-preserved c = record {
  bytes = bytes_next c.args.count c.loop-n._n c.loop-n.self.state c.draw-byte.new.self.state c.draw-byte.result c.loop-n.bytes.items c.try_push.new.items.items _ c.loop-n-test.true c.draw-byte.ensures.state c.draw-byte.ensures.byte c.in_ok-try_push.ensures.ok c.loop-n.invariant.bytes;
  state = state_next c.args.count c.loop-n._n c.loop-n.self.state c.draw-byte.new.self.state _ c.loop-n-test.true c.draw-byte.ensures.state c.loop-n.invariant.state;
}
