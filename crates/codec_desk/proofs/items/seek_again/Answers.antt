use Rattle.std.proofs.Common.{[], ◌∷◌, Some, refl, sym, subst}
use Rattle.codec_logs.specs.Logs.{acquires_of}
use Rattle.codec_desk.specs.declared.rooms.Room.{Room}
use Rattle.codec_desk.specs.declared.rooms.Room.TheVariants as room
use Rattle.codec_desk.specs.Rooms.{AgainIf}
use Rattle.codec_desk.specs.ItemLaws.{seeks_meanwhile, stand_meanwhile, sought_unpicked, sought_wanting}
use Rattle.codec_desk.proofs.items.seek_again.Goals as goal

pub acquire_again-requires-clause-sits : goal.acquire_again-requires-clause-sits
acquire_again-requires-clause-sits g c κs within = c.make_room.ensures.meanwhile.sits

pub acquire_again-requires-clause-stands : goal.acquire_again-requires-clause-stands
acquire_again-requires-clause-stands g c κs within = stand_meanwhile c.args.desk.now (g.K.Clock.told c.args.clock.now) (g.K.Clock.told c.make_room.new.clock) (c.args.first ∷ []) c.args.seats.now c.make_room.new.seats c.make_room.ensures.meanwhile c.requires.stands

pub returns-in-Picked-clause-sought : goal.returns-in-Picked-clause-sought
returns-in-Picked-clause-sought g c t a x =
    c.acquire_again.ensures.sought t (g.K.Clock.told c.make_room.new.clock) a (seeks_meanwhile c.args.desk.now c.args.codec (Some c.args.id) c.args.job.now (c.args.first ∷ []) t (g.K.Clock.told c.args.clock.now) (g.K.Clock.told c.make_room.new.clock) a c.args.seats.now c.make_room.new.seats x.seeks c.make_room.ensures.meanwhile)

pub returns-in-Unpicked-clause-sought : goal.returns-in-Unpicked-clause-sought
returns-in-Unpicked-clause-sought g c t a x =
    sought_unpicked c.args.desk.now c.args.codec c.args.id c.args.job.now (c.args.first ∷ []) _ c.args.place t (g.K.Clock.told c.args.clock.now) (g.K.Clock.told c.make_room.new.clock) a c.args.seats.now c.make_room.new.seats c.one_acquire.ensures x c.make_room.ensures.meanwhile

pub returns-in-NoMemory-clause-sought : goal.returns-in-NoMemory-clause-sought
returns-in-NoMemory-clause-sought g c t a x =
    sought_wanting c.args.desk.now c.args.codec c.args.id c.args.job.now (c.args.first ∷ []) _ c.args.place t (g.K.Clock.told c.args.clock.now) (g.K.Clock.told c.make_room.new.clock) a c.args.seats.now c.make_room.new.seats c.one_acquire-in-NoMemory.ensures x c.make_room.ensures.meanwhile

pub returns-in-Picked-clause-again : goal.returns-in-Picked-clause-again
returns-in-Picked-clause-again g c = record {
  found = c.make_room.result;
  looked = c.make_room.new.seats;
  tells = c.make_room.ensures.tells;
  again = subst (λ (f : Room). AgainIf f c.args.desk.now c.args.codec c.args.id c.args.first c.args.place c.args.job.now c.acquire_again.new.job (acquires_of c.acquire_again.result.acquires) c.acquire_again.result.lack c.make_room.new.seats c.acquire_again.new.seats) (sym c.in-Picked.is) c.acquire_again.ensures.acquires;
}

pub returns-in-Unpicked-clause-again : goal.returns-in-Unpicked-clause-again
returns-in-Unpicked-clause-again g c = record { found = room.Unpicked; looked = c.make_room.new.seats; tells = c.in-Unpicked.ensures.tells; again = (refl, refl, c.one_acquire.ensures, refl) }

pub returns-in-NoMemory-clause-again : goal.returns-in-NoMemory-clause-again
returns-in-NoMemory-clause-again g c = record { found = room.NoMemory; looked = c.make_room.new.seats; tells = c.in-NoMemory.ensures.tells; again = (refl, refl, c.one_acquire-in-NoMemory.ensures, refl) }
