-- What calls of a shared codec tell that are neither starts nor ends of items: what each hands back.
use Rattle.std.specs.Prelude.{ℕ, ◌≡◌, ◌≤◌, true, false, List, [], ◌++◌, length, map, Option, Some, None, is_some, IfSome, Result, Ok, Err}
use Rattle.atomic_table.specs.declared.shared.Seat.{Seat}
use Rattle.wc_base.specs.declared.error.NoMemory.{NoMemory}
use Rattle.wc_base.specs.declared.who.Who.{Who}
use Rattle.wc_base.specs.declared.seat.View.{View}
use Rattle.wc_pool.specs.declared.reference.MediaRef.{MediaRef}
use Rattle.coder_api.specs.Lent.{Lent}
use Rattle.codec_model.specs.declared.entry.{Call.Call, Entry.Entry}
use Rattle.codec_model.specs.declared.entry.Entry.TheVariants as entry
use Rattle.codec_model.specs.Control.{Control, may_reclaim}
use Rattle.codec_model.specs.Held.{adds_held, lets_go}
use Rattle.codec_model.specs.Replay.{call_error, may_call, sends}
use Rattle.codec_model.specs.Shown.{exception_of, promise_of}
use Rattle.codec_core.specs.Codec.{closes_now}
use Rattle.codec_core.specs.Owning.{GoesBack}
use Rattle.codec_media.specs.Holding.{ReplyValue, RemovedValue, TurnedValue, pair_of}
use Rattle.codec_logs.specs.declared.event.Event.{Event}
use Rattle.codec_logs.specs.Logs.{history_of, track}
use Rattle.shared_pool.specs.Refs.{AreOf}
use Rattle.shared_slots.specs.Boxes.{IfOut}
use Rattle.shared_codec.specs.Dues.{slot_dues, media_dues, clones_at, ends_at, gives_of, IsLater}
use Rattle.shared_codec.specs.Shared.{Shared, MadeIn, LookedIn, NoneIn, codec_of, state_in, places_in}

-- the call can be made in each state: it is no encode of data that is not detached, and no take
abbrev pub MayAlways : Call → Type 0
MayAlways x = (c : Control) → may_call x c ≡ true

-- what a turn hands back
abbrev pub media_in : Option RemovedValue → List MediaRef
media_in None = []
media_in (Some r) = r.media

abbrev pub box_in : Option RemovedValue → Option Lent
box_in None = None
box_in (Some r) = r.coder

module _ {S : Type 0} where
  -- The seat made this entry, and what the entry lets go is handed back: the references, all of the shared pool, and the box,
  -- which is out of the shared registry and goes back by this entry.
  pub record GaveIn (s : Shared) (e : Entry) (place : ℕ) (media : List MediaRef) (coder : Option Lent) (a b : Seat (Option S) (View Event)) : Type 0 where
    pub made : MadeIn s e [] a b
    pub is_place : place ≡ length (history_of made.passes.log)
    pub of : AreOf s.pool media
    pub pairs : map pair_of media ≡ lets_go e (state_in s made.passes.log)
    pub out : IfOut s.slots coder
    pub goes : GoesBack (codec_of s b.me.0.log) place coder
    pub later : IsLater s.codec place coder
    pub gives : slot_dues s.codec made.event (track s.opening made.passes.log) ≡ gives_of s.codec place coder
    pub ends : media_dues s.codec made.event (track s.opening made.passes.log) ≡ clones_at place (adds_held e) ++ ends_at place (map pair_of media)

  -- ---- a call of a caller

  pub record RepliedIn (s : Shared) (who : Who) (x : Call) (r : ReplyValue) (a b : Seat (Option S) (View Event)) : Type 0 where
    pub gave : GaveIn s (entry.Call who x) r.place r.media r.coder a b
    pub exception : exception_of x (call_error x (state_in s gave.made.passes.log).control) ≡ r.exception
    pub promise : promise_of x r.place ≡ r.promise

  -- Memory was wanted. Of a call that sends no message that is so only where as many of these were made as the codec was
  -- opened for.
  pub record WantedIn (s : Shared) (x : Call) (a b : Seat (Option S) (View Event)) : Type 0 where
    pub looked : LookedIn s a b
    pub full : sends x ≡ false → s.calls ≤ places_in (history_of looked.passes.log)

  abbrev pub CallTells : Shared → Who → Call → Result ReplyValue NoMemory → Seat (Option S) (View Event) → Seat (Option S) (View Event) → Type 0
  CallTells s who x (Ok r) a b = RepliedIn s who x r a b
  CallTells s who x (Err e) a b = WantedIn s x a b

  -- ---- turns and reclaims

  -- the front task ran; where it closed the codec, what was removed is handed back
  pub record TurnedIn (s : Shared) (t : TurnedValue) (a b : Seat (Option S) (View Event)) : Type 0 where
    pub gave : GaveIn s entry.Turn t.place (media_in t.removed) (box_in t.removed) a b
    pub closes : is_some t.removed ≡ closes_now (state_in s gave.made.passes.log).control
    pub same_place : IfSome t.removed (λ r. r.place ≡ t.place)

  abbrev pub TurnTells : Shared → Option TurnedValue → Seat (Option S) (View Event) → Seat (Option S) (View Event) → Type 0
  TurnTells s (Some t) a b = TurnedIn s t a b
  TurnTells s None a b = NoneIn s (λ c. c.tasks ≡ []) a b

  abbrev pub ReclaimTells : Shared → ℕ → Option RemovedValue → Seat (Option S) (View Event) → Seat (Option S) (View Event) → Type 0
  ReclaimTells s now (Some r) a b = GaveIn s (entry.Reclaim now) r.place r.media r.coder a b
  ReclaimTells s now None a b = NoneIn s (λ c. may_reclaim now c ≡ false) a b
