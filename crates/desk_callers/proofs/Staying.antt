-- A thread's seats at a desk stay, and see more.
use Rattle.std.proofs.Common.{ℕ, ◌≡◌, List, [], Option, Some, sym, subst, set}
use Rattle.std.specs.Prelude.{slice_get, Result, Ok, Err, OnErr, OnOk}
use Rattle.atomic_table.specs.declared.shared.Seat.{Seat}
use Rattle.wc_base.specs.declared.error.NoMemory.{NoMemory}
use Rattle.wc_base.specs.declared.seat.View.{View}
use Rattle.wc_pool.specs.declared.entry.PoolEntry.{PoolEntry}
use Rattle.coder_api.specs.declared.slot.SlotEntry.{SlotEntry}
use Rattle.codec_logs.specs.declared.event.Event.{Event}
use Rattle.codec_media.specs.Holding.{ReplyValue}
use Rattle.shared_pool.specs.Steps as pools
use Rattle.shared_slots.specs.Steps as registries
use Rattle.shared_codec.specs.declared.codec.Locked.{Locked}
use Rattle.shared_codec.specs.Keeps.{Keeps, keeps_none}
use Rattle.shared_codec.specs.Owes.{Owes}
use Rattle.shared_codec.specs.Settles.{SettlesInPool}
use Rattle.shared_codec.specs.Shared.{Shared}
use Rattle.codec_desk.specs.declared.desk.Desk.{Desk}
use Rattle.codec_desk.specs.declared.desk.Seats.{Seats}
use Rattle.codec_desk.specs.Desks.{SitsAt, SitAt, SeesMore, Settled}
use Rattle.codec_desk.specs.DeskLaws.{sees_same, settled_none, sits_more}
use Rattle.codec_desk.specs.Each.{Each}
use Rattle.codec_desk.specs.EachLaws.{each_one, pairs_after}
use Rattle.desk_callers.specs.Acts.{StaySeats, Helped}

module _ {C : Type 0} where
  pub sit_stay : (desk : Desk C) (a b : Seats C) → SitAt desk a → StaySeats desk a b → pools.IsFree desk.pool b.pool → registries.IsFree desk.slots.id b.slots → SitAt desk b
  sit_stay desk a b sits stay pool slots = record {
    codecs = pairs_after (SitsAt desk.pool desk.slots.id) SeesMore (sits_more desk.pool desk.slots.id) 0 desk.codecs.items a.codecs.items b.codecs.items sits.codecs stay.codecs;
    pool = pool;
    slots = slots;
  }

  pub stay_settled : (desk : Desk C) (a b : Seats C) → Settled desk a b → StaySeats desk a b
  stay_settled desk a b x = record { codecs = x.seats; slots = x.slot_seat; pool = x.pool_seat }

  pub stay_helped : (desk : Desk C) (a b : Seats C) → Helped desk a b → StaySeats desk a b
  stay_helped desk a b x = stay_settled desk a b x.settled

  -- nothing was done
  pub stay_none : (desk : Desk C) (a : Seats C) → SitAt desk a → StaySeats desk a a
  stay_none desk a sits = stay_settled desk a a (settled_none desk a sits)

  -- what an encode's seat has seen more
  sees_encode : (s : Shared) (u v : Seat (Option (Locked C)) (View Event)) (r : Result ReplyValue NoMemory) (c : View SlotEntry) (p q : View PoolEntry) → Keeps s.id u v → OnOk r (SettlesInPool s u.me.0 v.me.0 p q) → OnErr r (Owes s [] [] [] u.me.0 v.me.0) → SeesMore s u v
  sees_encode s u v (Ok r) c p q kept ok err = let x = ok c in record { kept = kept; more = x.owes.slots.more; longer = x.owes.slots.longer }
  sees_encode s u v (Err e) c p q kept ok err = record { kept = kept; more = err.slots.more; longer = err.slots.longer }

  -- whatever an encode at one codec answers, the seats stay
  pub stay_encode : (desk : Desk C) (a b : Seats C) (place : ℕ) (s : Shared) (u v : Seat (Option (Locked C)) (View Event)) (r : Result ReplyValue NoMemory) → SitAt desk a → slice_get desk.codecs.items place ≡ Some s → slice_get a.codecs.items place ≡ Some u → b.codecs.items ≡ set a.codecs.items place v → b.slots ≡ a.slots
      → Keeps s.id u v → Keeps desk.pool a.pool b.pool → OnOk r (SettlesInPool s u.me.0 v.me.0 a.pool.me.0 b.pool.me.0) → OnErr r (Owes s [] [] [] u.me.0 v.me.0) → StaySeats desk a b
  stay_encode desk a b place s u v r sits codec seat is slots kept pool ok err = record {
    codecs = subst (λ (l : List (Seat (Option (Locked C)) (View Event))). Each SeesMore desk.codecs.items a.codecs.items l) (sym is)
        (each_one (SitsAt desk.pool desk.slots.id) SeesMore (λ n t w h. sees_same t w h.idle) 0 place desk.codecs.items a.codecs.items s u v sits.codecs codec seat (sees_encode s u v r a.slots.me.0 a.pool.me.0 b.pool.me.0 kept ok err));
    slots = subst (λ x. Keeps desk.slots.id a.slots x) (sym slots) (keeps_none desk.slots.id a.slots sits.slots.0);
    pool = pool;
  }
