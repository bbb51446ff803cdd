-- A codec with the references that it holds.
use Rattle.std.specs.Prelude.{ℕ, ◌≡◌, List, [], ◌++◌, map, Option, Bool, true, false, drop, option_to_list, if◌then◌else◌}
use Rattle.wc_base.specs.declared.error.DomError.{DomError}
use Rattle.wc_base.specs.declared.who.Who.{Who}
use Rattle.wc_pool.specs.declared.reference.MediaRef.{MediaRef}
use Rattle.coder_api.specs.Lent.{Lent}
use Rattle.codec_model.specs.declared.entry.Pair.{Pair}
use Rattle.codec_model.specs.declared.entry.Call.{Call}
use Rattle.codec_model.specs.declared.entry.Entry.TheVariants as entry
use Rattle.codec_model.specs.Held.{in_order, running_pairs, waiting_held, is_removal}
use Rattle.codec_core.specs.Codec as core
use Rattle.codec_core.specs.Codec.{Codec, state_at}

-- the codec, the reference of the running item, and those that wait behind it, in the order of their encodes
pub record Holding : Type 0 where
  pub codec : Codec
  pub working : Option MediaRef
  pub waiting : List MediaRef

abbrev pub pair_of : MediaRef → Pair
pair_of r = record { resource = r.resource; reference = r.number }

-- the references are those of the codec's history
pub record IsHolding (c : Codec) (working : Option MediaRef) (waiting : List MediaRef) : Type 0 where
  pub runs : map pair_of (in_order working) ≡ running_pairs (state_at c)
  pub waits : map pair_of waiting ≡ waiting_held (state_at c).control

-- all that a codec holds
abbrev pub all_of : Holding → List MediaRef
all_of h = in_order h.working ++ h.waiting

-- the codec holds what it held
pub record SameHeld (old new : Holding) : Type 0 where
  pub working : new.working ≡ old.working
  pub waiting : new.waiting ≡ old.waiting

-- a removal lets go what waits
pub record LetsGo (old new : Holding) (media : List MediaRef) : Type 0 where
  pub media_is : media ≡ old.waiting
  pub pairs : map pair_of media ≡ waiting_held (state_at old.codec).control
  pub working : new.working ≡ old.working
  pub none : new.waiting ≡ []

-- what a call lets go, and what it leaves of what waits
abbrev pub media_gone : Who → Call → Holding → List MediaRef
media_gone who x h = if is_removal (entry.Call who x) (state_at h.codec) then h.waiting else []

abbrev pub media_left : Who → Call → Holding → List MediaRef
media_left who x h = if is_removal (entry.Call who x) (state_at h.codec) then [] else h.waiting

-- the answer to a call, with the references that were let go
pub record ReplyValue : Type 0 where
  pub place : ℕ
  pub exception : Option DomError
  pub promise : Option ℕ
  pub media : List MediaRef
  pub coder : Option Lent

-- the codec's own part of it
abbrev pub own_reply : ReplyValue → core.ReplyValue
own_reply r = record { place = r.place; exception = r.exception; promise = r.promise; coder = r.coder }

-- what a removal leaves for its caller: its entry's place, the references that were let go, and the box
pub record RemovedValue : Type 0 where
  pub place : ℕ
  pub media : List MediaRef
  pub coder : Option Lent

pub record EndedValue : Type 0 where
  pub place : ℕ
  pub media : Option MediaRef
  pub coder : Option Lent

pub record TurnedValue : Type 0 where
  pub place : ℕ
  pub removed : Option RemovedValue

-- the codec's own part of it
abbrev pub without_media : RemovedValue → core.RemovedValue
without_media r = record { place = r.place; coder = r.coder }

-- the front reference leaves the queue where it is wanted, and else all stays
abbrev pub TakesIf : Bool → List MediaRef → List MediaRef → Option MediaRef → Option MediaRef → Type 0
TakesIf true waiting after was now = (waiting ≡ option_to_list now ++ after) × (after ≡ drop 1 waiting)
TakesIf false waiting after was now = (after ≡ waiting) × (now ≡ was)
