-- Seats that have seen all that a thread's seats had seen.
use Rattle.std.specs.Prelude.{◌≡◌, ◌++◌, Option}
use Rattle.atomic_table.specs.declared.shared.Seat.{Seat}
use Rattle.wc_base.specs.Views.{Log}
use Rattle.wc_base.specs.declared.seat.View.{View}
use Rattle.codec_logs.specs.declared.event.Event.{Event}
use Rattle.shared_codec.specs.Shared.{Shared}
use Rattle.codec_desk.specs.declared.desk.Desk.{Desk}
use Rattle.codec_desk.specs.declared.desk.Seats.{Seats}
use Rattle.codec_desk.specs.Each.{Each}

-- the log that the second seat has seen begins with what the first one has seen
pub record SawAll {S : Type 0} (s : Shared) (a b : Seat (Option S) (View Event)) : Type 0 where
  pub more : Log Event
  pub longer : b.me.0.log ≡ a.me.0.log ++ more

-- the same of the seats at each codec
abbrev pub EachSawAll : {C : Type 0} → Desk C → Seats C → Seats C → Type 0
EachSawAll desk a b = Each SawAll desk.codecs.items a.codecs.items b.codecs.items
