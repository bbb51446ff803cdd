use Rattle.std.proofs.Common.{arith}
use Rattle.segmented_list.proofs.SegmentLaws.{full_joined, full_then, full_if_whole}
use Rattle.segmented_list.proofs.vector.push_first.Goals as goal

-- src/vector.rt:68:1
pub returns-clause-cut : goal.returns-clause-cut
returns-clause-cut g c =
    let full = full_if_whole 0 _ c.requires.cut c.requires.full in
    rw (c.push_reserved.ensures.items, c.push.ensures, c.at-segment.ensures, c.requires.spare)
    (full_then 0 _ _ full (omega (arith, c.requires.place, full_joined 0 _ full), omega arith, omega arith))
