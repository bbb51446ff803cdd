-- Desks as they are finished.
use Rattle.std.specs.Prelude.{◌≡◌, List, [], ◌∷◌, Option}
use Rattle.atomic_table.specs.declared.shared.Seat.{Seat}
use Rattle.wc_base.specs.declared.seat.View.{View}
use Rattle.codec_media.specs.Holding.{Holding}
use Rattle.codec_accounts.specs.Bags.{SameBag}
use Rattle.seat_lock.specs.Logs.{entries_of}
use Rattle.codec_logs.specs.declared.event.Event.{Event}
use Rattle.shared_codec.specs.Shared.{Shared, FinishedAs}
use Rattle.codec_desk.specs.declared.desk.Desk.{Desk}
use Rattle.codec_desk.specs.declared.desk.Seats.{Seats}
use Rattle.codec_desk.specs.Named.{calls_made}
use Rattle.desk_threads.specs.Accounts.{AllBalanced, all_calls}
use Rattle.desk_threads.specs.Longer.{EachSawAll}
use Rattle.desk_threads.specs.Orders.{WholeInOrder}
use Rattle.desk_threads.specs.Runs.{EachIsQuiet}
use Rattle.desk_run.specs.declared.finishing.Finished.{Finished}

module _ {S : Type 0} where
  -- each codec stands for all that its seat has seen
  abbrev pub AreFinished : List Shared → List (Seat (Option S) (View Event)) → List Holding → Type 0
  AreFinished [] [] [] = Unit {0}
  AreFinished (s ∷ codecs) (a ∷ seats) (h ∷ cores) = FinishedAs s h a.me.0 × AreFinished codecs seats cores
  AreFinished _ _ _ = ⊥

module _ {C : Type 0} where
  -- each codec, the registry and the pool have the histories that these seats have seen
  pub record IsFinished (desk : Desk C) (seats : Seats C) (f : Finished C) : Type 0 where
    pub codecs : AreFinished desk.codecs.items seats.codecs.items f.codecs.items
    pub made : f.slots.made ≡ desk.slots.made
    pub slots : f.slots.history ≡ entries_of seats.slots.me.0.log
    pub pool : f.pool ≡ entries_of seats.pool.me.0.log

  -- A desk that was finished with nothing left to do, at which a thread had all seats before. The
  -- histories begin with what these had seen, and the calls of callers in them are those that the
  -- seats had made. Each codec is quiet. The registry's history and the part of the pool's that was
  -- made for codecs are what the codecs' histories call for, and by each entry of a codec in the
  -- order in which that entry calls for it.
  pub record IsComplete (desk : Desk C) (before : Seats C) (f : Finished C) : Type 0 where
    pub seats : Seats C
    pub seen : EachSawAll desk before seats
    pub finished : IsFinished desk seats f
    pub calls : SameBag (all_calls desk.codecs.items seats.codecs.items) (calls_made desk.codecs.items before.codecs.items)
    pub balanced : AllBalanced desk seats
    pub order : WholeInOrder desk seats
    pub quiet : EachIsQuiet desk.codecs.items seats.codecs.items
