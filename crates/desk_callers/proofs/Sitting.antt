-- A thread's seats at a desk.
use Rattle.std.proofs.Common.{ℕ, ◌≡◌, Option, Some, length, arith}
use Rattle.std.specs.Prelude.{slice_get}
use Rattle.atomic_table.specs.declared.shared.Seat.{Seat}
use Rattle.wc_base.specs.declared.seat.View.{View}
use Rattle.codec_logs.specs.declared.event.Event.{Event}
use Rattle.shared_codec.specs.declared.codec.Locked.{Locked}
use Rattle.shared_codec.specs.Shared.{Shared}
use Rattle.codec_desk.specs.declared.desk.Desk.{Desk}
use Rattle.codec_desk.specs.declared.desk.Seats.{Seats}
use Rattle.codec_desk.specs.EachLaws.{pairs_length, pairs_get}
use Rattle.codec_desk.specs.Desks.{SitsAt, SitAt}

module _ {C : Type 0} where
  -- a thread has a seat at each codec
  pub sit_length : (desk : Desk C) (a : Seats C) → SitAt desk a → length desk.codecs.items ≡ length a.codecs.items
  sit_length desk a sits = pairs_length (SitsAt desk.pool desk.slots.id) 0 desk.codecs.items a.codecs.items sits.codecs

  pub sit_get : (desk : Desk C) (a : Seats C) (place : ℕ) (s : Shared) (u : Seat (Option (Locked C)) (View Event)) → SitAt desk a → slice_get desk.codecs.items place ≡ Some s → slice_get a.codecs.items place ≡ Some u → SitsAt desk.pool desk.slots.id place s u
  sit_get desk a place s u sits codec seat = pairs_get (SitsAt desk.pool desk.slots.id) 0 place place desk.codecs.items a.codecs.items s u sits.codecs (omega arith) codec seat
