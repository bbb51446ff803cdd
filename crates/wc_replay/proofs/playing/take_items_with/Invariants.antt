use Rattle.std.proofs.Common.{◌≡◌, take}
use Rattle.order_laws.specs.Ends.{course_with}
use Rattle.run_model.specs.Follow.{order_items}
use Rattle.wc_replay.proofs.playing.take_items_with.Given as goal

abbrev pub invariant-loop-item : goal.invariant-loop-item
invariant-loop-item g l = l.player ≡ course_with l.listed l.script l.media (take l.item-index (order_items l.script)) l.fn.player
