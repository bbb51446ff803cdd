use Rattle.std.proofs.Common.{◌≡◌}
use Rattle.report_reader.specs.Places.{content_at, room_of}
use Rattle.report_reader.proofs.clones.find_content.Given as goal

abbrev pub invariant-loop-at : goal.invariant-loop-at
invariant-loop-at l = content_at l.script l.known l.at ≡ content_at l.script l.known l.fn.place

abbrev pub decreases-loop-at : goal.decreases-loop-at
decreases-loop-at l = room_of l.at
