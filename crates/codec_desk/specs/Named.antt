-- Which calls of callers a thread's entries at a desk are.
use Rattle.std.specs.Prelude.{List, ◌++◌, Option}
use Rattle.atomic_table.specs.declared.shared.Seat.{Seat}
use Rattle.wc_base.specs.declared.seat.View.{View}
use Rattle.codec_accounts.specs.Bags.{SameBag}
use Rattle.codec_logs.specs.declared.event.Event.{Event}
use Rattle.shared_codec.specs.Dues.{Called, call_dues}
use Rattle.shared_codec.specs.Shared.{Shared}
use Rattle.shared_codec.specs.Sums.{dues_of}
use Rattle.codec_desk.specs.declared.desk.Desk.{Desk}
use Rattle.codec_desk.specs.declared.desk.Seats.{Seats}
use Rattle.codec_desk.specs.Each.{total_of}

-- the calls among all entries of these seats: codec after codec
abbrev pub calls_made : {S : Type 0} → List Shared → List (Seat (Option S) (View Event)) → List Called
calls_made codecs seats = total_of (λ s a. dues_of call_dues s.codec s.opening a.me.0) codecs seats

-- Among the entries that a thread's seats made since are these calls, each as often, in any order, and no others.
abbrev pub Calls : {C : Type 0} → Desk C → List Called → Seats C → Seats C → Type 0
Calls desk calls a b = SameBag (calls_made desk.codecs.items b.codecs.items) (calls_made desk.codecs.items a.codecs.items ++ calls)
