-- What clocks tell, and what is timed by them.
use Rattle.std.specs.Prelude.{ℕ, ◌+◌, ◌≤◌, List, [], ◌∷◌, Option, Some, None}
use Rattle.std.specs.List.{sum_by}
use Rattle.atomic_table.specs.declared.shared.Seat.{Seat}
use Rattle.wc_base.specs.declared.seat.View.{View}
use Rattle.seat_lock.specs.Logs.{Has}
use Rattle.seat_lock.specs.Since.{MadeSince}
use Rattle.codec_logs.specs.declared.event.Event.{Event}
use Rattle.codec_logs.specs.Logs.{entry_of}
use Rattle.work_moments.specs.Moments.{Telling, Given}
use Rattle.shared_codec.specs.Order.{made_by}
use Rattle.shared_codec.specs.Shared.{Shared}
use Rattle.shared_codec.specs.Tallies.{moment_of, reclaims, refusals}
use Rattle.codec_desk.specs.declared.desk.Desk.{Desk}
use Rattle.codec_desk.specs.declared.desk.Seats.{Seats}
use Rattle.codec_desk.specs.Each.{Each, total_of}

abbrev pub IfAmong : List ℕ → Option ℕ → Type 0
IfAmong moments None = Unit {0}
IfAmong moments (Some m) = Has m moments

-- each end and each reclaim is at one of these moments
abbrev pub AllAt : List ℕ → List Event → Type 0
AllAt moments [] = Unit {0}
AllAt moments (e ∷ es) = IfAmong moments (moment_of (entry_of e)) × AllAt moments es

module _ {S : Type 0} where
  -- each end and each reclaim that the seat made since is at one of these moments
  pub record EndsAt (moments : List ℕ) (s : Shared) (a b : Seat (Option S) (View Event)) : Type 0 where
    pub events : List Event
    pub made : MadeSince a.me.0 b.me.0 events
    pub at : AllAt moments events

  -- what is counted of all entries that these seats made, or those that they took in
  abbrev pub tally : (Event → ℕ) → List Shared → List (Seat (Option S) (View Event)) → ℕ
  tally count codecs seats = sum_by count (total_of (λ s a. made_by a.me.0) codecs seats)

  -- They made at most as many reclaims since as they ended items since whose first acquire was refused.
  abbrev pub FewReclaims : List Shared → List (Seat (Option S) (View Event)) → List (Seat (Option S) (View Event)) → Type 0
  FewReclaims codecs us vs = tally reclaims codecs vs + tally refusals codecs us ≤ tally reclaims codecs us + tally refusals codecs vs

module _ {C : Type 0} where
  -- Each end and each reclaim that the seats made since is at a moment that the clock gave since.
  pub record Timed (desk : Desk C) (a b : Seats C) (old now : Telling) : Type 0 where
    pub moments : List ℕ
    pub given : Given old moments now
    pub ends : Each (EndsAt moments) desk.codecs.items a.codecs.items b.codecs.items

  -- The same; and they made no more reclaims since than they ended items whose first acquire was refused.
  pub record Clocked (desk : Desk C) (a b : Seats C) (old now : Telling) : Type 0 where
    pub timed : Timed desk a b old now
    pub few : FewReclaims desk.codecs.items a.codecs.items b.codecs.items
