-- What takes of a shared codec's outputs tell.
use Rattle.std.specs.Prelude.{ℕ, ◌≡◌, Bool, true, false, List, length, Option, Some, None, is_some, IfOk, Result, Ok, Err, slice_get}
use Rattle.atomic_table.specs.declared.shared.Seat.{Seat}
use Rattle.wc_base.specs.declared.error.NoMemory.{NoMemory}
use Rattle.wc_base.specs.declared.who.Who.{Who}
use Rattle.wc_base.specs.declared.seat.View.{View}
use Rattle.codec_model.specs.declared.entry.{Opening.Opening, Entry.Entry}
use Rattle.codec_model.specs.declared.entry.Call.TheVariants as call
use Rattle.codec_model.specs.Control.{Control, may_take}
use Rattle.codec_model.specs.Shown.{shown, outputs_of}
use Rattle.codec_logs.specs.declared.event.Event.{Event}
use Rattle.codec_logs.specs.Logs.{history_of}
use Rattle.shared_codec.specs.declared.takes.NextOutput.{NextOutput}
use Rattle.shared_codec.specs.Shared.{Shared, NoneIn, state_in}
use Rattle.shared_codec.specs.Calls.{RepliedIn, WantedIn}
use Rattle.shared_codec.specs.Gives.{taken_at}
use Rattle.shared_codec.specs.Looks.{Saw}

-- a take made an entry
abbrev pub took : Result (Option ℕ) NoMemory → Bool
took (Ok place) = is_some place
took (Err e) = false

-- the first output that was shown and not taken after this history, or that there is none
abbrev pub NextIs : Opening → List Entry → Control → Option NextOutput → Type 0
NextIs o history c None = may_take c.taken c ≡ false
NextIs o history c (Some x) = (x.number ≡ c.taken) × (may_take x.number c ≡ true) × (slice_get (outputs_of (shown o history)) x.number ≡ Some x.unit)

module _ {S : Type 0} where
  -- how many entries were made, and the next output
  abbrev pub OutputTells : Shared → Result (ℕ × Option NextOutput) NoMemory → Seat (Option S) (View Event) → Seat (Option S) (View Event) → Type 0
  OutputTells s seen a b = Saw s (λ log. IfOk seen (λ x. (x.0 ≡ length (history_of log)) × NextIs s.opening (history_of log) (state_in s log).control x.1)) a b

  abbrev pub NextTells : Shared → Result (Option NextOutput) NoMemory → Seat (Option S) (View Event) → Seat (Option S) (View Event) → Type 0
  NextTells s next a b = Saw s (λ log. IfOk next (NextIs s.opening (history_of log) (state_in s log).control)) a b

  -- a take of the output of this number: its entry, or that it was not the next one, or that no place was left
  abbrev pub TakeTells : Shared → Who → ℕ → Result (Option ℕ) NoMemory → Seat (Option S) (View Event) → Seat (Option S) (View Event) → Type 0
  TakeTells s who number (Ok (Some place)) a b = RepliedIn s who (call.Take number) (taken_at place) a b
  TakeTells s who number (Ok None) a b = NoneIn s (λ c. may_take number c ≡ false) a b
  TakeTells s who number (Err e) a b = WantedIn s (call.Take number) a b
