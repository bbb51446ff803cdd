-- What calls of the locked codec give, inside their passage.
use Rattle.std.specs.Prelude.{ℕ, ◌≡◌, false, List, [], ◌++◌, length, map, Option, Some, None, Result, Ok, Err}
use Rattle.atomic_table.specs.Seated.{TableId}
use Rattle.wc_base.specs.declared.error.NoMemory.{NoMemory}
use Rattle.wc_base.specs.declared.who.Who.{Who}
use Rattle.wc_base.specs.declared.seat.View.{View}
use Rattle.wc_pool.specs.declared.entry.PoolEntry.{PoolEntry}
use Rattle.wc_pool.specs.declared.reference.MediaRef.{MediaRef}
use Rattle.codec_model.specs.declared.entry.{Call.Call, Handed.Handed, HeldMedium.HeldMedium}
use Rattle.codec_model.specs.declared.entry.Entry.TheVariants as entry
use Rattle.codec_model.specs.declared.entry.Call.TheVariants as call
use Rattle.codec_model.specs.Control.{may_take}
use Rattle.codec_model.specs.Held.{lets_go}
use Rattle.codec_model.specs.Replay.{sends, is_configured}
use Rattle.codec_core.specs.Codec.{state_at, Replied}
use Rattle.codec_core.specs.Owning.{GoesBack}
use Rattle.codec_media.specs.Holding.{Holding, ReplyValue, pair_of, own_reply, media_gone, media_left}
use Rattle.shared_pool.specs.Refs.{AreOf}
use Rattle.shared_codec.specs.Encodes.{Hands, NoneKept}

-- a call with what it brings
pub record Calls (old new : Holding) (who : Who) (x : Call) (r : ReplyValue) (brought : List MediaRef) : Type 0 where
  pub replied : Replied old.codec new.codec who x (own_reply r)
  pub lets : GoesBack new.codec r.place r.coder
  pub gone : r.media ≡ media_gone who x old
  pub pairs : map pair_of r.media ≡ lets_go (entry.Call who x) (state_at old.codec)
  pub waiting : new.waiting ≡ media_left who x old ++ brought
  pub working : new.working ≡ old.working

-- a call that brings nothing; memory is wanted of one that sends no message only where no place is left
abbrev pub CallGives : Holding → Holding → Who → Call → Result ReplyValue NoMemory → Type 0
CallGives old new who x (Ok r) = Calls old new who x r []
CallGives old new who x (Err e) = (new ≡ old) × (sends x ≡ false → old.codec.spare ≡ 0)

-- what a take answers: it lets nothing go
abbrev pub taken_at : ℕ → ReplyValue
taken_at place = record { place = place; exception = None; promise = None; media = []; coder = None }

-- a take of the output of this number, or none where it is not the next one
abbrev pub TakeGives : Holding → Holding → Who → ℕ → Result (Option ℕ) NoMemory → Type 0
TakeGives old new who number (Ok (Some place)) = Calls old new who (call.Take number) (taken_at place) []
TakeGives old new who number (Ok None) = (may_take number (state_at old.codec).control ≡ false) × (new ≡ old)
TakeGives old new who number (Err e) = (new ≡ old) × (old.codec.spare ≡ 0)

-- an encode of an open medium that is lent, by the codec with this number, with what the pool's seat made for it
pub record Encodes (k : ℕ) (pool : TableId) (old new : Holding) (who : Who) (lends : HeldMedium → MediaRef → Type 0) (r : ReplyValue) (v w : View PoolEntry) : Type 0 where
  pub given : Handed
  pub brought : List MediaRef
  pub calls : Calls old new who (call.Encode given) r brought
  pub of : AreOf pool brought
  pub hands : Hands k r.place lends given v w

abbrev pub EncodeGives : ℕ → TableId → Holding → Holding → Who → (HeldMedium → MediaRef → Type 0) → Result ReplyValue NoMemory → View PoolEntry → View PoolEntry → Type 0
EncodeGives k pool old new who lends (Ok r) v w = Encodes k pool old new who lends r v w
EncodeGives k pool old new who lends (Err e) v w = (new ≡ old) × NoneKept k (length old.codec.history) v w × (is_configured (state_at old.codec).control ≡ false → old.codec.spare ≡ 0)
