-- What a thread finds where it finds nothing to do.
use Rattle.std.specs.Prelude.{◌≡◌, ◌⊎◌, List, [], ◌∷◌, ◌++◌, Option, None}
use Rattle.atomic_table.specs.declared.shared.Seat.{Seat}
use Rattle.wc_base.specs.Views.{Log}
use Rattle.wc_base.specs.declared.seat.Passage.TheVariants.{Look}
use Rattle.wc_base.specs.declared.seat.View.{View}
use Rattle.codec_model.specs.Control.{start_item}
use Rattle.seat_lock.specs.Since.{entries_by, MadeSince}
use Rattle.codec_logs.specs.declared.event.Event.{Event}
use Rattle.codec_logs.specs.Logs.{IsLog}
use Rattle.shared_codec.specs.Shared.{Shared, state_in}

-- by this log no item of the codec may start
abbrev pub NoItem : Shared → Log Event → Type 0
NoItem s log = start_item (state_in s log).control ≡ None

-- by this log no event task of the codec is queued
abbrev pub NoTask : Shared → Log Event → Type 0
NoTask s log = (state_in s log).control.tasks ≡ []

module _ {S : Type 0} where
  -- Since, the seat looked at its codec after a legal log that begins with what it had seen, and this was so there; and it has seen
  -- that look of its own.
  pub record Looked (P : Shared → Log Event → Type 0) (s : Shared) (a b : Seat (Option S) (View Event)) : Type 0 where
    pub before : Log Event
    pub legal : IsLog s.codec s.opening (a.me.0.log ++ before)
    pub so : P s (a.me.0.log ++ before)
    pub after : Log Event
    pub seen : b.me.0.log ≡ (a.me.0.log ++ before) ++ (a.me.0.number, Look) ∷ after

  -- The same; and the seat made no entry, neither before that look nor after it.
  pub record Rested (P : Shared → Log Event → Type 0) (s : Shared) (a b : Seat (Option S) (View Event)) : Type 0 where
    pub looked : Looked P s a b
    pub none_before : entries_by a.me.0.numbers looked.before ≡ []
    pub none_after : entries_by a.me.0.numbers looked.after ≡ []

  -- the seat made no entry
  abbrev pub Still : Shared → Seat (Option S) (View Event) → Seat (Option S) (View Event) → Type 0
  Still s a b = MadeSince a.me.0 b.me.0 []

  -- the seat made an entry at least
  abbrev pub Stirred : Shared → Seat (Option S) (View Event) → Seat (Option S) (View Event) → Type 0
  Stirred s a b = (e : Event) × (es : List Event) × MadeSince a.me.0 b.me.0 (e ∷ es)

  -- the seat made an entry, or it rested since this was so
  abbrev pub Served : (Shared → Log Event → Type 0) → Shared → Seat (Option S) (View Event) → Seat (Option S) (View Event) → Type 0
  Served P s a b = Rested P s a b ⊎ Stirred s a b
