use Rattle.std.proofs.Common.{take}
use Rattle.run_model.specs.Follow.{order_items, Follows, nothing_yet}
use Rattle.wc_replay.proofs.playing.take_items.Given as goal

abbrev pub invariant-loop-item : goal.invariant-loop-item
invariant-loop-item g l = Follows l.script l.media (take l.item-index (order_items l.script)) (nothing_yet l.script l.fn.player.slots.made) l.player
