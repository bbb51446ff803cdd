-- A codec that does all that is left to it, on one thread (our choice).
use Rattle.std.specs.Prelude.{ℕ, ◌≡◌, ◌≢◌, ◌≤◌, ◌<◌, ◌+◌, ◌==◌, Bool, true, List, [], ◌∷◌, ◌++◌, length, map, Option, Some, None, IfSome}
use Rattle.std.specs.List.{AllByRecursion}
use Rattle.wc_base.specs.declared.who.By.TheVariants as by
use Rattle.coder_api.specs.Lent.{Lent}
use Rattle.slot_registry.specs.Slots.{SlotsValue, IsHeld}
use Rattle.wc_pool.specs.declared.entry.PoolEntry.{PoolEntry}
use Rattle.wc_pool.specs.declared.entry.PoolOp.TheVariants as op
use Rattle.wc_pool.specs.Bag.{resource_of}
use Rattle.codec_model.specs.declared.entry.Pair.{Pair}
use Rattle.codec_model.specs.declared.entry.Entry.{Entry}
use Rattle.codec_model.specs.declared.entry.Entry.TheVariants as entry
use Rattle.codec_model.specs.Control.{left}
use Rattle.codec_model.specs.Replay.{replay}
use Rattle.codec_model.specs.Held.{held_in}
use Rattle.codec_model.specs.Facts.{IsQuiet, is_step}
use Rattle.codec_core.specs.Codec.{Codec, state_at}
use Rattle.codec_media.specs.Holding.{RemovedValue, pair_of}

-- ---- what a codec has of the registry and of the pool

-- the box is out, and the entry at a place before this one, of the codec with this number, asked for it
pub record IsOwnBox (k next : ℕ) (slots : SlotsValue) (lent : Lent) : Type 0 where
  pub held : IsHeld slots lent
  pub place : ℕ
  pub by : lent.by ≡ by.Codec k place
  pub earlier : place < next

-- these references are live in a pool's history, and no two of them have one number
abbrev pub AreLive : List PoolEntry → List Pair → Type 0
AreLive pool [] = Unit {0}
AreLive pool (p ∷ ps) = (resource_of p.reference pool ≡ Some p.resource) × AllByRecursion (λ q. q.reference ≢ p.reference) ps × AreLive pool ps

-- No item of the codec with this number is at work. Its box is out, and its references are live.
pub record IsAtHome (k : ℕ) (c : Codec) (slots : SlotsValue) (pool : List PoolEntry) : Type 0 where
  pub idle : (state_at c).control.running ≡ None
  pub box : IfSome c.slot (IsOwnBox k (length c.history) slots)
  pub live : AreLive pool (held_in (state_at c))

-- what a removal let go, if there was one: the box, and the references
abbrev pub box_in : Option RemovedValue → Option Lent
box_in None = None
box_in (Some r) = r.coder

abbrev pub pairs_in : Option RemovedValue → List Pair
pairs_in None = []
pairs_in (Some r) = map pair_of r.media

-- ---- what is made

-- a start, the end of an item at this moment, or a turn
abbrev pub is_step_at : ℕ → Entry → Bool
is_step_at moment (entry.Done epoch item at outcome) = at == moment
is_step_at moment e = is_step e

-- an entry of the pool ends this reference, by an entry of the codec with this number
pub record EndsPair (k : ℕ) (p : Pair) (e : PoolEntry) : Type 0 where
  pub place : ℕ
  pub last : Bool
  pub is : e ≡ record { by = by.Codec k place; op = op.End p.resource p.reference last }

-- the entries of the pool end these references, one after another
abbrev pub EndThem : ℕ → List Pair → List PoolEntry → Type 0
EndThem k [] [] = Unit {0}
EndThem k (p ∷ ps) (e ∷ es) = EndsPair k p e × EndThem k ps es
EndThem k ps es = ⊥

-- These entries are behind a codec's history: starts, ends at one moment and turns. Each leaves fewer.
pub record Steps (moment : ℕ) (old new : Codec) (entries : List Entry) : Type 0 where
  pub same_opening : new.opening ≡ old.opening
  pub longer : new.history ≡ old.history ++ entries
  pub each : AllByRecursion (λ e. is_step_at moment e ≡ true) entries
  pub legal : replay new.opening new.history ≡ Some (state_at new)
  pub fewer : left (state_at new).control + length entries ≤ left (state_at old).control

-- The pool's history grew by the ends of these references.
pub record Ends (k : ℕ) (pairs : List Pair) (old new : List PoolEntry) : Type 0 where
  pub entries : List PoolEntry
  pub longer : new ≡ old ++ entries
  pub ends : EndThem k pairs entries

-- The codec made so many starts, ends and turns. It let go the references that it holds no more, and has its box.
pub record Moves (k moment : ℕ) (old new : Codec) (slots : SlotsValue) (pool after : List PoolEntry) (count : ℕ) : Type 0 where
  pub entries : List Entry
  pub steps : Steps moment old new entries
  pub counted : length entries ≡ count
  pub gone : List Pair
  pub held : held_in (state_at old) ≡ gone ++ held_in (state_at new)
  pub ended : Ends k gone pool after
  pub home : IsAtHome k new slots after

-- The codec is quiet. It made so many starts, ends at this moment and turns, at most as many as were left, and no other
-- entry. Each of its references has ended, in order, and it has no other box than its own.
pub record Drained (k moment : ℕ) (old new : Codec) (slots : SlotsValue) (pool after : List PoolEntry) (count : ℕ) : Type 0 where
  pub entries : List Entry
  pub steps : Steps moment old new entries
  pub counted : length entries ≡ count
  pub at_most : count ≤ left (state_at old).control
  pub quiet : IsQuiet (state_at new).control
  pub ended : Ends k (held_in (state_at old)) pool after
  pub none_held : held_in (state_at new) ≡ []
  pub home : IsAtHome k new slots after
