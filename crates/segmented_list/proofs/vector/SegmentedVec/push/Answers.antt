use Rattle.std.proofs.Common.{arith}
use Rattle.segmented_list.proofs.SegmentLaws.{has_empty}
use Rattle.segmented_list.proofs.vector.SegmentedVec.push.Goals as goal

-- src/vector.rt:174:17
pub take_empty-spare-requires-clause-some : goal.take_empty-spare-requires-clause-some
take_empty-spare-requires-clause-some g c = has_empty c.self.inside.segments.items _ c.self.invariant.cut (rw c.self.invariant.len at c.if-self-eq0.true) (omega (arith, c.self.inside.segments.ok, rw (← c.self.view_is) at c.requires))
