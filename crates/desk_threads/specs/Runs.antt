-- Codecs with nothing left to do.
use Rattle.std.specs.Prelude.{◌≡◌, List, [], ◌∷◌, Option, None}
use Rattle.atomic_table.specs.declared.shared.Seat.{Seat}
use Rattle.wc_base.specs.Views.{Log}
use Rattle.wc_base.specs.declared.seat.View.{View}
use Rattle.codec_logs.specs.declared.event.Event.{Event}
use Rattle.shared_codec.specs.Shared.{Shared, state_in}
use Rattle.codec_desk.specs.declared.desk.Desk.{Desk}
use Rattle.codec_desk.specs.declared.desk.Seats.{Seats}
use Rattle.codec_desk.specs.Rests.{NoItem, NoTask}
use Rattle.codec_desk.specs.Runs.{EachRunsNone}
use Rattle.desk_threads.specs.Accounts.{AreAll}
use Rattle.desk_threads.specs.Rested.{CameToRest}

-- by this log no item of the codec is at work, none may start, and no event task is queued
pub record IsQuiet (s : Shared) (log : Log Event) : Type 0 where
  pub running : (state_in s log).control.running ≡ None
  pub item : NoItem s log
  pub task : NoTask s log

module _ {S : Type 0} where
  -- by all that the seats have seen each codec is quiet
  abbrev pub EachIsQuiet : List Shared → List (Seat (Option S) (View Event)) → Type 0
  EachIsQuiet [] [] = Unit {0}
  EachIsQuiet (s ∷ codecs) (a ∷ seats) = IsQuiet s a.me.0.log × EachIsQuiet codecs seats
  EachIsQuiet _ _ = ⊥

-- a desk of which one thread has all seats, runs none of its own items, and found nothing to do, is quiet
abbrev pub RestIsQuiet : Type 0 → Type 0
RestIsQuiet C = (desk : Desk C) (a b : Seats C) → AreAll b → EachRunsNone desk.codecs.items b.codecs.items → CameToRest desk a b → EachIsQuiet desk.codecs.items b.codecs.items
