use Rattle.std.proofs.Common.{ℕ, take, sym, subst, rules}
use Rattle.std.specs.Prelude.{slice_index_or}
use Rattle.script_types.specs.declared.script.OrderItem.{OrderItem}
use Rattle.run_model.specs.Follow.{order_items, nothing_yet}
use Rattle.wc_replay.specs.Player.{IsInRange}
use Rattle.wc_replay.proofs.{Orders.item_at, Orders.follows_to}
use Rattle.wc_replay.proofs.playing.take_items.Goals as goal

pub take-requires : goal.take-requires
take-requires g c =
    let s = c.args.script.now in
    let i = c.loop-item.item-index in
    let x = slice_index_or c.items_of-item-items.result.now i (OrderItem.Caller 0) in
    let course = c.following_stands.ensures s c.args.media.now c.args.player.now.slots.made (take i (order_items s)) c.loop-item.player c.requires.playable.faultless c.loop-item.invariant in
    let range = subst (λ (n : ℕ). IsInRange n x) (sym course.codecs) (c.requires.playable.items i x (item_at (order_items s) c.items_of-item-items.result.now i (OrderItem.Caller 0) c.items_of-item-items.ensures c.loop-item-test.true)) in
    (search rules, (course.codecs, (course.media, (course.ports, (c.requires.playable, (range, (course.givable, course.lent)))))))

pub loop-item-preserved : goal.loop-item-preserved
loop-item-preserved g c =
    let s = c.args.script.now in
    let i = c.loop-item.item-index in
    let x = slice_index_or c.items_of-item-items.result.now i (OrderItem.Caller 0) in
    follows_to s c.args.media.now i x c.in_ok-take.field-0 (nothing_yet s c.args.player.now.slots.made) c.loop-item.player c.take.new.self
    (item_at (order_items s) c.items_of-item-items.result.now i (OrderItem.Caller 0) c.items_of-item-items.ensures c.loop-item-test.true) c.loop-item.invariant c.in_ok-take.ensures
