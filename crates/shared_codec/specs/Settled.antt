-- What calls tell after which what they let go has gone back.
use Rattle.std.specs.Prelude.{ℕ, ◌≡◌, false, [], Option, Some, None, Result, Ok, Err}
use Rattle.atomic_table.specs.declared.shared.Seat.{Seat}
use Rattle.wc_base.specs.declared.error.NoMemory.{NoMemory}
use Rattle.wc_base.specs.declared.who.Who.{Who}
use Rattle.wc_base.specs.declared.seat.View.{View}
use Rattle.codec_model.specs.declared.entry.Call.{Call}
use Rattle.codec_model.specs.declared.entry.Entry.TheVariants as entry
use Rattle.codec_model.specs.Control.{may_reclaim}
use Rattle.codec_media.specs.Holding.{ReplyValue, RemovedValue, TurnedValue}
use Rattle.codec_logs.specs.declared.event.Event.{Event}
use Rattle.shared_codec.specs.declared.settling.Answer.{Answer}
use Rattle.shared_codec.specs.Shared.{Shared, NoneIn}
use Rattle.shared_codec.specs.Calls.{GaveIn, RepliedIn, WantedIn, TurnedIn}

-- a reply, without what it hands back
abbrev pub answer_of : ReplyValue → Answer
answer_of r = record { place = r.place; exception = r.exception; promise = r.promise }

module _ {S : Type 0} where
  abbrev pub AnswerTells : Shared → Who → Call → Result Answer NoMemory → Seat (Option S) (View Event) → Seat (Option S) (View Event) → Type 0
  AnswerTells s who x (Ok answer) a b = (r : ReplyValue) × (answer ≡ answer_of r) × RepliedIn s who x r a b
  AnswerTells s who x (Err e) a b = WantedIn s x a b

  abbrev pub TurnOnceTells : Shared → Option ℕ → Seat (Option S) (View Event) → Seat (Option S) (View Event) → Type 0
  TurnOnceTells s (Some place) a b = (t : TurnedValue) × (place ≡ t.place) × TurnedIn s t a b
  TurnOnceTells s None a b = NoneIn s (λ c. c.tasks ≡ []) a b

  abbrev pub ReclaimOnceTells : Shared → ℕ → Option ℕ → Seat (Option S) (View Event) → Seat (Option S) (View Event) → Type 0
  ReclaimOnceTells s now (Some place) a b = (r : RemovedValue) × (place ≡ r.place) × GaveIn s (entry.Reclaim now) r.place r.media r.coder a b
  ReclaimOnceTells s now None a b = NoneIn s (λ c. may_reclaim now c ≡ false) a b
