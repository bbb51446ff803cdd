use Rattle.std.proofs.Common.{List, refl, subst}
use Rattle.reclaimer.specs.declared.holder.Holder.{Holder}
use Rattle.reclaimer.specs.Picks.{IsPicked, IsUnpicked}
use Rattle.work_moments.specs.Moments.{silent}
use Rattle.codec_desk.specs.ItemLaws.{meanwhile_none, meanwhile_then, meanwhile_given, picked_within}
use Rattle.codec_desk.proofs.rooms.make_room.Goals as goal

pub returns-in_default-clause-meanwhile : goal.returns-in_default-clause-meanwhile
returns-in_default-clause-meanwhile g c = meanwhile_none c.args.desk.now (g.K.Clock.told c.args.clock.now) c.args.seats.now c.requires

pub look_at_holders-requires-clause-sits : goal.look_at_holders-requires-clause-sits
look_at_holders-requires-clause-sits g c κs within = c.requires

pub reclaim_codec-requires-clause-sits : goal.reclaim_codec-requires-clause-sits
reclaim_codec-requires-clause-sits g c κs within = (c.look_at_holders.ensures.meanwhile silent).sits

pub reclaim_codec-requires-clause-codec : goal.reclaim_codec-requires-clause-codec
reclaim_codec-requires-clause-codec g c κs within =
    picked_within c.args.desk.now.codecs.items c.args.seats.now.codecs.items c.look_at_holders.new.seats.codecs.items c.look_at_holders.new.holders.items c.now-now.result c.in-Some.codec c.look_at_holders.ensures.saw
    (subst (λ (l : List Holder). IsPicked c.now-now.result l c.in-Some.codec) c.as_slice.ensures.value c.in-Some.ensures.some)

pub returns-in_default-pick-clause-meanwhile : goal.returns-in_default-pick-clause-meanwhile
returns-in_default-pick-clause-meanwhile g c =
    let told = g.K.Clock.told c.args.clock.now in
    let m = c.look_at_holders.ensures.meanwhile told in
    meanwhile_then c.args.desk.now told told (g.K.Clock.told c.now-now.new.self) c.args.seats.now c.look_at_holders.new.seats c.look_at_holders.new.seats m
    (meanwhile_given c.args.desk.now told (g.K.Clock.told c.now-now.new.self) c.now-now.result c.look_at_holders.new.seats m.sits c.now-now.ensures)

pub returns-in_default-pick-clause-tells : goal.returns-in_default-pick-clause-tells
returns-in_default-pick-clause-tells g c = record {
  looked = c.look_at_holders.new.seats;
  holders = c.look_at_holders.new.holders.items;
  saw = c.look_at_holders.ensures.saw;
  moment = c.now-now.result;
  given = c.now-now.ensures;
  reclaimed = (subst (λ (l : List Holder). IsUnpicked c.now-now.result l) c.as_slice.ensures.value c.in_default-pick.ensures.none, refl);
}

pub returns-clause-meanwhile : goal.returns-clause-meanwhile
returns-clause-meanwhile g c =
    let told = g.K.Clock.told c.args.clock.now in
    let now = g.K.Clock.told c.now-now.new.self in
    meanwhile_then c.args.desk.now told told now c.args.seats.now c.look_at_holders.new.seats c.reclaim_codec.new.seats (c.look_at_holders.ensures.meanwhile told)
    (c.reclaim_codec.ensures.meanwhile told now c.now-now.ensures)

pub returns-clause-tells : goal.returns-clause-tells
returns-clause-tells g c = record {
  looked = c.look_at_holders.new.seats;
  holders = c.look_at_holders.new.holders.items;
  saw = c.look_at_holders.ensures.saw;
  moment = c.now-now.result;
  given = c.now-now.ensures;
  reclaimed = (subst (λ (l : List Holder). IsPicked c.now-now.result l c.in-Some.codec) c.as_slice.ensures.value c.in-Some.ensures.some, (c.reclaim_codec.result, c.reclaim_codec.ensures.reclaimed));
}
