use Rattle.std.proofs.Common.{ℕ, ◌≡◌, Bool, true, false, not, take, refl, sym, subst, ap, ◌∙◌, rules}
use mathlib.Core.Bool.{beq}
use Rattle.std.specs.Prelude.{slice_index_or}
use Rattle.script_types.specs.declared.script.OrderItem.{OrderItem}
use Rattle.run_model.specs.Follow.{Follows, order_items, nothing_yet, follow_item}
use Rattle.order_laws.specs.Ends.{course_with}
use Rattle.wc_replay.specs.Player.{IsInRange}
use Rattle.wc_replay.proofs.{Orders.item_at, Orders.course_to, Orders.with_follows}
use Rattle.wc_replay.proofs.playing.take_items_with.Goals as goal

pub is_listed_end-starved-requires-after_bounds : goal.is_listed_end-starved-requires-after_bounds
is_listed_end-starved-requires-after_bounds g c =
    let s = c.args.script.now in
    let i = c.loop-item.item-index in
    let nothing = nothing_yet s c.args.player.now.slots.made in
    let front = take i (order_items s) in
    let x = slice_index_or c.items_of-item-items.result.now i (OrderItem.Caller 0) in
    let made : c.loop-item.player ≡ course_with c.args.listed.now s c.args.media.now front nothing = c.loop-item.invariant ∙ ap (course_with c.args.listed.now s c.args.media.now front) c.requires.nothing in
    let follows = subst (Follows s c.args.media.now front nothing) (sym made) (with_follows c.args.listed.now s c.args.media.now front nothing) in
    let course = c.following_stands.ensures s c.args.media.now c.args.player.now.slots.made front c.loop-item.player c.requires.playable.faultless follows in
    λ _ _. subst (λ (n : ℕ). IsInRange n x) (sym course.codecs) (c.requires.playable.items i x (item_at (order_items s) c.items_of-item-items.result.now i (OrderItem.Caller 0) c.items_of-item-items.ensures c.loop-item-test.true))

pub take-requires : goal.take-requires
take-requires g c =
    let s = c.args.script.now in
    let i = c.loop-item.item-index in
    let nothing = nothing_yet s c.args.player.now.slots.made in
    let front = take i (order_items s) in
    let x = slice_index_or c.items_of-item-items.result.now i (OrderItem.Caller 0) in
    let made : c.loop-item.player ≡ course_with c.args.listed.now s c.args.media.now front nothing = c.loop-item.invariant ∙ ap (course_with c.args.listed.now s c.args.media.now front) c.requires.nothing in
    let follows = subst (Follows s c.args.media.now front nothing) (sym made) (with_follows c.args.listed.now s c.args.media.now front nothing) in
    let course = c.following_stands.ensures s c.args.media.now c.args.player.now.slots.made front c.loop-item.player c.requires.playable.faultless follows in
    let range = subst (λ (n : ℕ). IsInRange n x) (sym course.codecs) (c.requires.playable.items i x (item_at (order_items s) c.items_of-item-items.result.now i (OrderItem.Caller 0) c.items_of-item-items.ensures c.loop-item-test.true)) in
    (search rules, (course.codecs, (course.media, (course.ports, (c.requires.playable, (range, (course.givable, course.lent)))))))

same_test : (a b : Bool) → not (beq a b) ≡ false → a ≡ b
same_test true true h = refl
same_test false false h = refl
same_test true false h = absurd cc
same_test false true h = absurd cc

pub loop-item-preserved : goal.loop-item-preserved
loop-item-preserved g c =
    let s = c.args.script.now in
    let i = c.loop-item.item-index in
    let x = slice_index_or c.items_of-item-items.result.now i (OrderItem.Caller 0) in
    let same = same_test c.in_ok-take.field-0 c.is_listed_end-starved.result c.if-branch-starved.false ∙ c.is_listed_end-starved.ensures in
    course_to c.args.listed.now s c.args.media.now i x c.args.player.now c.loop-item.player c.take.new.self
    (item_at (order_items s) c.items_of-item-items.result.now i (OrderItem.Caller 0) c.items_of-item-items.ensures c.loop-item-test.true) c.loop-item.invariant
    (c.in_ok-take.ensures ∙ ap (λ (wants : Bool). follow_item s c.args.media.now wants x c.loop-item.player) same)
