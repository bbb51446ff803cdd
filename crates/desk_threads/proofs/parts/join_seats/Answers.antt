use Rattle.std.proofs.Common.{◌≡◌, ◌∙◌, Option, sym, refl, subst, length, vec_len, arith, []}
use Rattle.std.proofs.lemmas.Option.{slice_get_read}
use Rattle.atomic_table.specs.declared.shared.Seat.{Seat}
use Rattle.wc_base.specs.declared.seat.View.{View}
use Rattle.wc_pool.specs.declared.entry.PoolEntry.{PoolEntry}
use Rattle.coder_api.specs.declared.slot.SlotEntry.{SlotEntry}
use Rattle.slot_registry.specs.Slots.{SlotsValue}
use Rattle.shared_pool.specs.declared.pool.LockedPool.{LockedPool}
use Rattle.codec_desk.specs.Desks.{SitsAt}
use Rattle.desk_threads.specs.Parts.{IsJoin}
use Rattle.desk_threads.specs.PartLaws.{sit_joined, parts_joined}
use Rattle.desk_threads.specs.AccountLaws.{balanced_joined}
use Rattle.desk_threads.specs.CallLaws.{named_joined}
use Rattle.desk_threads.specs.RunLaws.{each_none_joined}
use Rattle.desk_threads.proofs.Lists.{LastJoined, join_start}
use Rattle.desk_threads.proofs.SeatSteps.{Join, join_few, join_at, join_step, no_seats}
use Rattle.desk_threads.proofs.parts.join_seats.Goals as goal

pub loop-seat-init : goal.loop-seat-init
loop-seat-init g c = record {
  joined = join_start Join (SitsAt c.args.desk.now.pool c.args.desk.now.slots.id) 0 _ _ _ c.requires.sits.codecs c.requires.other.codecs;
  pool = refl;
  slots = refl;
}

pub index-requires : goal.index-requires
index-requires g c =
    let f = (join_few _ _ _ _ _ _ c.in-Some.seat c.loop-seat.invariant.joined c.in-Some.ensures.items).0 in
    let e : vec_len c.args.desk.now.codecs ≡ length c.args.desk.now.codecs.items = c.args.desk.now.codecs.ok.0 in
    let m : vec_len c.pop.new.self ≡ length c.pop.new.self.items = c.pop.new.self.ok.0 in
    let n = c.len-codec.ensures in
    omega (arith, f, e, m, n)

pub index_mut-requires : goal.index_mut-requires
index_mut-requires g c =
    let f = (join_few _ _ _ _ _ _ c.in-Some.seat c.loop-seat.invariant.joined c.in-Some.ensures.items).1 in
    let e : vec_len c.loop-seat.seats.codecs ≡ length c.loop-seat.seats.codecs.items = c.loop-seat.seats.codecs.ok.0 in
    let m : vec_len c.pop.new.self ≡ length c.pop.new.self.items = c.pop.new.self.ok.0 in
    let n = c.len-codec.ensures in
    omega (arith, f, e, m, n)

pub join-requires-in-Some-clause-into : goal.join-requires-in-Some-clause-into
join-requires-in-Some-clause-into g c κs within =
    let i = c.loop-seat.invariant in
    let k = c.len-codec.result in
    let last = c.in-Some.ensures.items in
    let f = join_few _ _ _ _ _ _ c.in-Some.seat i.joined last in
    let f0 = f.0 in
    let f1 = f.1 in
    let m : length c.pop.new.self.items ≡ k = sym c.pop.new.self.ok.0 ∙ sym c.len-codec.ensures in
    (join_at _ _ _ _ _ _ c.in-Some.seat k c.index.result.now c.index_mut.result.now c.args.desk.now.pool c.args.desk.now.slots.id c.requires.sits.codecs c.requires.other.codecs i.joined last m
    (slice_get_read _ _ k c.index.result.now refl (omega (arith, f0, m)) c.index.ensures) (slice_get_read _ _ k c.index_mut.result.now refl (omega (arith, f1, m)) c.index_mut.ensures.value)).0.idle

pub join-requires-in-Some-clause-from : goal.join-requires-in-Some-clause-from
join-requires-in-Some-clause-from g c κs within =
    let i = c.loop-seat.invariant in
    let k = c.len-codec.result in
    let last = c.in-Some.ensures.items in
    let f = join_few _ _ _ _ _ _ c.in-Some.seat i.joined last in
    let f0 = f.0 in
    let f1 = f.1 in
    let m : length c.pop.new.self.items ≡ k = sym c.pop.new.self.ok.0 ∙ sym c.len-codec.ensures in
    (join_at _ _ _ _ _ _ c.in-Some.seat k c.index.result.now c.index_mut.result.now c.args.desk.now.pool c.args.desk.now.slots.id c.requires.sits.codecs c.requires.other.codecs i.joined last m
    (slice_get_read _ _ k c.index.result.now refl (omega (arith, f0, m)) c.index.ensures) (slice_get_read _ _ k c.index_mut.result.now refl (omega (arith, f1, m)) c.index_mut.ensures.value)).1.idle

pub loop-seat-preserved : goal.loop-seat-preserved
loop-seat-preserved g c =
    let i = c.loop-seat.invariant in
    let k = c.len-codec.result in
    let last = c.in-Some.ensures.items in
    let f = join_few _ _ _ _ _ _ c.in-Some.seat i.joined last in
    let f0 = f.0 in
    let f1 = f.1 in
    let m : length c.pop.new.self.items ≡ k = sym c.pop.new.self.ok.0 ∙ sym c.len-codec.ensures in
    let j = c.join-in-Some.ensures in
    record {
      joined =
          join_step _ _ _ _ _ _ c.in-Some.seat k c.index.result.now c.index_mut.result.now c.join-in-Some.new.into i.joined last m
          (slice_get_read _ _ k c.index.result.now refl (omega (arith, f0, m)) c.index.ensures) (slice_get_read _ _ k c.index_mut.result.now refl (omega (arith, f1, m)) c.index_mut.ensures.value)
          (record { same = j.0; both = j.1 });
      pool = i.pool;
      slots = i.slots;
    }

pub returns-clause-joined : goal.returns-clause-joined
returns-clause-joined g c =
    let i = c.loop-seat.invariant in
    let none : c.loop-seat.codecs.items ≡ [] = no_seats c.loop-seat.codecs.items (sym c.loop-seat.codecs.ok.0 ∙ c.in_default.ensures.cases.0) in
    let a = c.args.seats.now in
    let o = c.args.other in
    record {
      codecs = subst (λ l. LastJoined Join c.args.desk.now.codecs.items a.codecs.items o.codecs.items c.loop-seat.seats.codecs.items l) none i.joined;
      pool = subst (λ (x : Seat (Option LockedPool) (View PoolEntry)). IsJoin a.pool o.pool x) (sym i.pool) (record { same = c.join.ensures.0; both = c.join.ensures.1 });
      slots = subst (λ (x : Seat (Option SlotsValue) (View SlotEntry)). IsJoin a.slots o.slots x) (sym i.slots) (record { same = c.join-2.ensures.0; both = c.join-2.ensures.1 });
    }

pub returns-clause-sits : goal.returns-clause-sits
returns-clause-sits g c = sit_joined c.args.desk.now c.args.seats.now c.args.other _ c.requires.sits c.requires.other (returns-clause-joined g c)

pub returns-clause-parts : goal.returns-clause-parts
returns-clause-parts g c m n has other = parts_joined c.args.desk.now m n c.args.seats.now c.args.other _ has other (returns-clause-joined g c)

pub returns-clause-balanced : goal.returns-clause-balanced
returns-clause-balanced g c x y = balanced_joined c.args.desk.now c.args.seats.now c.args.other _ c.dues_add_up.ensures.slots c.dues_add_up.ensures.media (returns-clause-joined g c) x y

pub returns-clause-runs : goal.returns-clause-runs
returns-clause-runs g c none other = each_none_joined c.args.desk.now.codecs.items c.args.seats.now.codecs.items c.args.other.codecs.items _ (returns-clause-joined g c).codecs none other

pub returns-clause-calls : goal.returns-clause-calls
returns-clause-calls g c xs ys x y = named_joined c.args.desk.now c.args.seats.now c.args.other _ xs ys (returns-clause-joined g c) x y
