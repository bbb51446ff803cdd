-- Desks as they are opened.
use Rattle.std.specs.Prelude.{ℕ, ◌≡◌, ◌^◌, ◌≤◌, List, [], length, Option, Some, slice_get, vec_capacity}
use Rattle.atomic_table.specs.Seated.{TableId}
use Rattle.atomic_table.specs.declared.shared.Seat.{Seat}
use Rattle.wc_base.specs.declared.seat.View.{View}
use Rattle.wc_config.specs.declared.codec.CoderId.{CoderId}
use Rattle.codec_model.specs.declared.entry.Opening.{Opening}
use Rattle.seat_lock.specs.Seats.{HasView, first_view}
use Rattle.codec_logs.specs.declared.event.Event.{Event}
use Rattle.shared_codec.specs.Shared.{Shared}
use Rattle.codec_desk.specs.declared.desk.Desk.{Desk}
use Rattle.codec_desk.specs.declared.desk.Seats.{Seats}
use Rattle.codec_desk.specs.Desks.{SitsAt, SitAt}
use Rattle.codec_desk.specs.Runs.{EachRunsNone}
use Rattle.desk_threads.specs.Accounts.{SawNone}
use Rattle.desk_threads.specs.Parts.{HaveParts}

-- each of these codecs may have so many coded items at work: 1 to 64
abbrev pub MayOpen : List Opening → Type 0
MayOpen openings = (i : ℕ) (o : Opening) → slice_get openings i ≡ Some o → (1 ≤ o.saturation) × (o.saturation ≤ 64)

-- each codec has its opening, and places for so many calls that send no message
abbrev pub HaveOpenings : List Opening → ℕ → List Shared → Type 0
HaveOpenings openings calls codecs = (length codecs ≡ length openings) × ((i : ℕ) (s : Shared) → slice_get codecs i ≡ Some s → (slice_get openings i ≡ Some s.opening) × (s.calls ≡ calls))

-- At this place of a desk with this pool and this registry stands a codec with the opening of that
-- place and with places for so many calls, and the seat is its first one.
pub record IsOpenedAt {S : Type 0} (openings : List Opening) (calls : ℕ) (pool slots : TableId) (place : ℕ) (s : Shared) (a : Seat (Option S) (View Event)) : Type 0 where
  pub sits : SitsAt pool slots place s a
  pub first : HasView first_view a
  pub opening : slice_get openings place ≡ Some s.opening
  pub calls_are : s.calls ≡ calls

module _ {C : Type 0} where
  -- a desk with no codec, with room for so many, and the first seats of its pool and of its
  -- registry
  pub record IsBare (made : List CoderId) (count : ℕ) (desk : Desk C) (seats : Seats C) : Type 0 where
    pub made_is : desk.slots.made ≡ made
    pub codecs : (desk.codecs.items ≡ []) × (count ≤ vec_capacity desk.codecs)
    pub seats_are : (seats.codecs.items ≡ []) × (count ≤ vec_capacity seats.codecs)
    pub pool : (seats.pool.table_id ≡ desk.pool) × HasView first_view seats.pool
    pub slots : (seats.slots.table_id ≡ desk.slots.id) × HasView first_view seats.slots

  -- A desk of codecs with these openings and a registry of these coders, and its first seats, which
  -- have seen nothing. Each codec has places for so many calls that send no message.
  pub record IsOpened (openings : List Opening) (calls : ℕ) (made : List CoderId) (desk : Desk C) (seats : Seats C) : Type 0 where
    pub sits : SitAt desk seats
    pub parts : HaveParts (2 ^ 32) seats
    pub none : SawNone seats
    pub codecs : HaveOpenings openings calls desk.codecs.items
    pub made_is : desk.slots.made ≡ made

-- none of the items of seats that have seen nothing is at work
abbrev pub RunsBegin : Type 0 → Type 0
RunsBegin C = (desk : Desk C) (a : Seats C) → SitAt desk a → SawNone a → EachRunsNone desk.codecs.items a.codecs.items
