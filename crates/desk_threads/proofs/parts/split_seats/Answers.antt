use Rattle.std.proofs.Common.{◌≡◌, ℕ, ◌+◌, ◌∙◌, Option, ap, sym, refl, subst, length, length-append, vec_len, set, arith, List, [], ◌∷◌}
use Rattle.std.proofs.lemmas.Option.{slice_get_read}
use Rattle.atomic_table.specs.declared.shared.Seat.{Seat}
use Rattle.wc_base.specs.declared.seat.View.{View}
use Rattle.wc_pool.specs.declared.entry.PoolEntry.{PoolEntry}
use Rattle.coder_api.specs.declared.slot.SlotEntry.{SlotEntry}
use Rattle.slot_registry.specs.Slots.{SlotsValue}
use Rattle.seat_lock.specs.Seats.{Becomes, less_part}
use Rattle.codec_logs.specs.declared.event.Event.{Event}
use Rattle.shared_codec.specs.declared.codec.Locked.{Locked}
use Rattle.shared_pool.specs.declared.pool.LockedPool.{LockedPool}
use Rattle.codec_desk.specs.Desks.{SitsAt}
use Rattle.codec_desk.specs.EachLaws.{pairs_length}
use Rattle.desk_threads.specs.PartLaws.{has_get, sit_left, sit_new, parts_left, parts_new}
use Rattle.desk_threads.specs.AccountLaws.{balanced_left, balanced_new}
use Rattle.desk_threads.specs.CallLaws.{named_left, named_new}
use Rattle.desk_threads.specs.RunLaws.{each_none_left, each_none_new}
use Rattle.desk_threads.proofs.Lists.{FirstSplit, split_length, split_all}
use Rattle.desk_threads.proofs.SeatSteps.{Split, split_at, split_step}
use Rattle.desk_threads.proofs.parts.split_seats.Goals as goal

pub loop-codec-init : goal.loop-codec-init
loop-codec-init g c = record {
  split = subst (λ l. FirstSplit Split c.args.desk.now.codecs.items c.args.seats.now.codecs.items c.args.seats.now.codecs.items l) (sym c.requires.empty) refl;
  pool = refl;
  slots = refl;
  room = refl;
  many = ap (λ l. length l) c.requires.empty;
  end = c.len-codec-end.ensures ∙ c.args.desk.now.codecs.ok.0;
  below = omega arith;
}

pub index_mut-requires : goal.index_mut-requires
index_mut-requires g c =
    let i = c.loop-codec.invariant in
    let l = split_length Split _ _ _ _ i.split in
    let p = pairs_length _ 0 _ _ c.requires.sits.codecs in
    let t = c.loop-codec-test.true in
    let e : vec_len c.loop-codec.seats.codecs ≡ length c.loop-codec.seats.codecs.items = c.loop-codec.seats.codecs.ok.0 in
    let n = i.end in
    omega (arith, l, p, t, e, n)

pub split-seat-requires-clause-seat : goal.split-seat-requires-clause-seat
split-seat-requires-clause-seat g c κs within =
    let i = c.loop-codec.invariant in
    let l = split_length Split _ _ _ _ i.split in
    let p = pairs_length _ 0 _ _ c.requires.sits.codecs in
    let t = c.loop-codec-test.true in
    let n = i.end in
    (split_at c.args.desk.now.pool c.args.desk.now.slots.id c.loop-codec.codec _ _ _ _ c.index.result.now c.index_mut.result.now c.requires.sits.codecs i.split i.many
    (slice_get_read _ _ c.loop-codec.codec c.index.result.now refl (omega (arith, t, n)) c.index.ensures) (slice_get_read _ _ c.loop-codec.codec c.index_mut.result.now refl (omega (arith, l, p, t, n)) c.index_mut.ensures.value)).0.idle

pub split-seat-requires-clause-parts : goal.split-seat-requires-clause-parts
split-seat-requires-clause-parts g c =
    let i = c.loop-codec.invariant in
    let l = split_length Split _ _ _ _ i.split in
    let p = pairs_length _ 0 _ _ c.requires.sits.codecs in
    let t = c.loop-codec-test.true in
    let n = i.end in
    let at = (split_at c.args.desk.now.pool c.args.desk.now.slots.id c.loop-codec.codec _ _ _ _ c.index.result.now c.index_mut.result.now c.requires.sits.codecs i.split i.many
    (slice_get_read _ _ c.loop-codec.codec c.index.result.now refl (omega (arith, t, n)) c.index.ensures) (slice_get_read _ _ c.loop-codec.codec c.index_mut.result.now refl (omega (arith, l, p, t, n)) c.index_mut.ensures.value)).1 in
    let has = has_get c.args.seats.now.pool.me.0.parts c.loop-codec.codec c.args.seats.now.codecs.items c.index_mut.result.now c.requires.parts.codecs at in
    let two = c.requires.two in
    omega (arith, has, two)

pub loop-codec-preserved : goal.loop-codec-preserved
loop-codec-preserved g c =
    let i = c.loop-codec.invariant in
    let l = split_length Split _ _ _ _ i.split in
    let p = pairs_length _ 0 _ _ c.requires.sits.codecs in
    let t = c.loop-codec-test.true in
    let n = i.end in
    let push = c.push_reserved.ensures in
    let L = List (Seat (Option (Locked g.row.C.Denot)) (View Event)) in
    let s = split_step c.loop-codec.codec _ _ _ _ c.index.result.now c.index_mut.result.now c.split-seat.new.seat c.split-seat.result i.split i.many
    (slice_get_read _ _ c.loop-codec.codec c.index.result.now refl (omega (arith, t, n)) c.index.ensures) (slice_get_read _ _ c.loop-codec.codec c.index_mut.result.now refl (omega (arith, l, p, t, n)) c.index_mut.ensures.value)
    (record { left = c.split-seat.ensures.old; at = c.split-seat.ensures.new.0; new = c.split-seat.ensures.new.1 }) in
    record {
      split = subst (λ (x : L). FirstSplit Split c.args.desk.now.codecs.items c.args.seats.now.codecs.items (set c.loop-codec.seats.codecs.items c.loop-codec.codec c.split-seat.new.seat) x) (sym {A = L} push.items) s;
      pool = i.pool;
      slots = i.slots;
      room = push.capacity ∙ i.room;
      many = ap (λ (x : L). length x) push.items ∙ (length-append c.loop-codec.codecs.items (c.split-seat.result ∷ []) ∙ ap (λ (m : ℕ). m + 1) i.many);
      end = n;
      below = omega (arith, t);
    }

pub returns-clause-split : goal.returns-clause-split
returns-clause-split g c =
    let i = c.loop-codec.invariant in
    let t = c.loop-codec-test.false in
    let n = i.end in
    let m = i.many in
    let a = c.args.seats.now in
    record {
      codecs = split_all Split (SitsAt c.args.desk.now.pool c.args.desk.now.slots.id) 0 _ _ _ _ c.requires.sits.codecs i.split (omega (arith, t, n, m));
      pool = record { left = subst (λ (x : Seat (Option LockedPool) (View PoolEntry)). Becomes (less_part a.pool.me.0) a.pool x) (sym i.pool) c.split-pool.ensures.old; at = c.split-pool.ensures.new.0; new = c.split-pool.ensures.new.1 };
      slots = record { left = subst (λ (x : Seat (Option SlotsValue) (View SlotEntry)). Becomes (less_part a.slots.me.0) a.slots x) (sym i.slots) c.split-slots.ensures.old; at = c.split-slots.ensures.new.0; new = c.split-slots.ensures.new.1 };
    }

pub returns-clause-sits : goal.returns-clause-sits
returns-clause-sits g c =
    let s = returns-clause-split g c in
    (sit_left c.args.desk.now c.args.seats.now _ _ c.requires.sits s, sit_new c.args.desk.now c.args.seats.now _ _ c.requires.sits s)

pub returns-clause-parts : goal.returns-clause-parts
returns-clause-parts g c =
    let s = returns-clause-split g c in
    (parts_left c.args.desk.now c.args.seats.now.pool.me.0.parts c.args.seats.now _ _ c.requires.parts s, parts_new c.args.desk.now c.args.seats.now _ _ s)

pub returns-clause-balanced : goal.returns-clause-balanced
returns-clause-balanced g c x = balanced_left c.args.desk.now c.args.seats.now _ _ (returns-clause-split g c) x

pub returns-clause-new : goal.returns-clause-new
returns-clause-new g c = balanced_new c.args.desk.now c.args.seats.now _ _ (returns-clause-split g c)

pub returns-clause-runs : goal.returns-clause-runs
returns-clause-runs g c none = each_none_left c.args.desk.now.codecs.items c.args.seats.now.codecs.items _ _ (returns-clause-split g c).codecs none

pub returns-clause-new_runs : goal.returns-clause-new_runs
returns-clause-new_runs g c = each_none_new c.args.desk.now.codecs.items c.args.seats.now.codecs.items _ _ (returns-clause-split g c).codecs

pub returns-clause-calls : goal.returns-clause-calls
returns-clause-calls g c calls was = named_left c.args.desk.now c.args.seats.now _ _ calls (returns-clause-split g c) was

pub returns-clause-new_calls : goal.returns-clause-new_calls
returns-clause-new_calls g c = named_new c.args.desk.now c.args.seats.now _ _ (returns-clause-split g c)
