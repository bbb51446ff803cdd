-- What an encode of a shared codec tells, by what its lender lends: the clone that was made for it inside its passage, and the
-- entry of the pool.
use Rattle.std.specs.Prelude.{ℕ, ◌≡◌, ◌⊎◌, ◌≤◌, Bool, false, [], ◌∷◌, length, Option, Result, Ok, Err}
use Rattle.atomic_table.specs.declared.shared.Seat.{Seat}
use Rattle.wc_base.specs.declared.error.NoMemory.{NoMemory}
use Rattle.wc_base.specs.declared.who.By.TheVariants as by
use Rattle.wc_base.specs.declared.who.Who.{Who}
use Rattle.wc_base.specs.declared.seat.View.{View}
use Rattle.wc_pool.specs.declared.entry.PoolEntry.{PoolEntry}
use Rattle.wc_pool.specs.declared.reference.MediaRef.{MediaRef}
use Rattle.wc_pool.specs.Pools.{cloned_by, ended_by}
use Rattle.codec_model.specs.declared.entry.{HeldMedium.HeldMedium, Handed.Handed}
use Rattle.codec_model.specs.declared.entry.Handed.TheVariants as handed
use Rattle.codec_model.specs.declared.entry.Call.TheVariants as call
use Rattle.codec_model.specs.Replay.{is_configured}
use Rattle.codec_media.specs.Holding.{ReplyValue, pair_of}
use Rattle.seat_lock.specs.Since.{MadeSince}
use Rattle.codec_logs.specs.declared.event.Event.{Event}
use Rattle.codec_logs.specs.Logs.{history_of}
use Rattle.shared_codec.specs.Shared.{Shared, LookedIn, state_in, places_in}
use Rattle.shared_codec.specs.Calls.{RepliedIn}

-- What a codec was handed of an open medium. What is lent, with one reference more, which was made by the encode's entry, and
-- nothing else; or nothing, and no clone was made.
abbrev pub Hands : ℕ → ℕ → (HeldMedium → MediaRef → Type 0) → Handed → View PoolEntry → View PoolEntry → Type 0
Hands k place lends (handed.Cloned held) v w = (clone : MediaRef) × lends held clone × (held.pair ≡ pair_of clone) × MadeSince v w (cloned_by (by.Codec k place) clone ∷ [])
Hands k place lends handed.Kept v w = MadeSince v w []
Hands k place lends handed.Gone v w = ⊥

-- a clone that was not kept: none was made, or it was ended
abbrev pub NoneKept : ℕ → ℕ → View PoolEntry → View PoolEntry → Type 0
NoneKept k at v w = MadeSince v w [] ⊎ ((q : MediaRef) × (last : Bool) × MadeSince v w (cloned_by (by.Codec k at) q ∷ ended_by (by.Codec k at) q last ∷ []))

module _ {S : Type 0} where
  -- the encode's entry was made, by what the codec was handed
  pub record EncodedIn (s : Shared) (who : Who) (lends : HeldMedium → MediaRef → Type 0) (r : ReplyValue) (a b : Seat (Option S) (View Event)) (v w : View PoolEntry) : Type 0 where
    pub given : Handed
    pub replied : RepliedIn s who (call.Encode given) r a b
    pub hands : Hands s.codec r.place lends given v w

  -- Memory was wanted. Where the encode would have been refused, that is so only where as many calls that send no message were
  -- made as the codec was opened for.
  pub record NotEncoded (s : Shared) (a b : Seat (Option S) (View Event)) (v w : View PoolEntry) : Type 0 where
    pub looked : LookedIn s a b
    pub none : NoneKept s.codec (length (history_of looked.passes.log)) v w
    pub full : is_configured (state_in s looked.passes.log).control ≡ false → s.calls ≤ places_in (history_of looked.passes.log)

  abbrev pub EncodeTells : Shared → Who → (HeldMedium → MediaRef → Type 0) → Result ReplyValue NoMemory → Seat (Option S) (View Event) → Seat (Option S) (View Event) → View PoolEntry → View PoolEntry → Type 0
  EncodeTells s who lends (Ok r) a b v w = EncodedIn s who lends r a b v w
  EncodeTells s who lends (Err e) a b v w = NotEncoded s a b v w
