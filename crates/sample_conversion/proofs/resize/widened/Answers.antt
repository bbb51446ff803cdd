use Rattle.sample_conversion.proofs.Shared.{are_bytes, widened_push}
use Rattle.sample_conversion.proofs.resize.widened.Goals as goal

pub loop-i-preserved : goal.loop-i-preserved
loop-i-preserved c =
    widened_push c.args.bytes.now c.loop-i.wide.items c.extend_from_slice.new.self.items c.extend_from_slice-in-loop-i.new.self.items c.loop-i.i (are_bytes c.args.bytes.now c.type_inv.bytes) c.loop-i-test.true c.loop-i.invariant c.in_ok-extend_from_slice.ensures.items c.in_ok-extend_from_slice-2.ensures.items
