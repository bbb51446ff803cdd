-- What is left to do after a history: starts, ends of items, and turns (our choice).
use Rattle.std.specs.Prelude.{ℕ, ◌≡◌, ◌≤◌, ◌+◌, Bool, true, false, List, [], ◌∷◌, ◌++◌, Some, option_map, unwrap_or, slice_get}
use Rattle.wc_base.specs.declared.who.Who.{Who}
use Rattle.codec_model.specs.declared.entry.Opening.{Opening}
use Rattle.codec_model.specs.declared.entry.Entry.{Entry}
use Rattle.codec_model.specs.declared.entry.Entry.TheVariants as entry
use Rattle.codec_model.specs.declared.entry.Call.TheVariants as call
use Rattle.codec_model.specs.declared.entry.Outcome.TheVariants as outcome
use Rattle.codec_model.specs.Control.{left}
use Rattle.codec_model.specs.Replay.{State, replay, IsLegal}
use Rattle.codec_model.specs.Facts.{IsQuiet, is_step}
use Rattle.codec_laws.specs.declared.sight.Sight.{Sight}
use Rattle.codec_laws.specs.Sights.{sights}
use Rattle.codec_laws.specs.Sources.{ends_in}

-- How many starts, ends and turns are left at most: 7 for each message that waits, 4 for each queued item, 3 for one at work,
-- 2 for each task that unblocks the queue, and 1 for each other task.
abbrev pub left_after : Opening → List Entry → ℕ
left_after o h = unwrap_or (option_map (λ (s : State). left s.control) (replay o h)) 0

-- no item is queued or at work, and no task is queued
pub record IsQuietAfter (o : Opening) (h : List Entry) : Type 0 where
  pub state : State
  pub replays : replay o h ≡ Some state
  pub quiet : IsQuiet state.control

-- an item ends for want of a box or of memory
abbrev pub wants : Entry → Bool
wants (entry.Done epoch item moment (outcome.NoSlot e)) = true
wants (entry.Done epoch item moment outcome.NoMemory) = true
wants e = false

-- a start, the end of the item at work or a turn may come next, and nothing is wanted for it
pub record GoesOn (o : Opening) (h : List Entry) : Type 0 where
  pub next : Entry
  pub is : is_step next ≡ true
  pub wants_nothing : wants next ≡ false
  pub legal : IsLegal o (h ++ next ∷ [])

-- the size after these entries, where it was this before
abbrev pub size_from : ℕ → List Sight → ℕ
size_from size [] = size
size_from size (x ∷ xs) = size_from x.size xs

-- the promise of each flush has ended, and the size is 0
pub record IsAllDone (o : Opening) (h : List Entry) : Type 0 where
  pub ended : (p : ℕ) (who : Who) → slice_get h p ≡ Some (entry.Call who call.Flush) → ends_in p (sights o h) ≡ 1
  pub no_size : size_from 0 (sights o h) ≡ 0

-- While something is left, one of these entries may come next, and each of them leaves fewer. Nothing is left exactly where
-- the codec is quiet, and then all that it was asked for is done.
pub record IsNotStuck (o : Opening) (h : List Entry) : Type 0 where
  pub goes_on : 1 ≤ left_after o h → GoesOn o h
  pub fewer : (e : Entry) → is_step e ≡ true → IsLegal o (h ++ e ∷ []) → left_after o (h ++ e ∷ []) + 1 ≤ left_after o h
  pub quiet : left_after o h ≡ 0 → IsQuietAfter o h
  pub nothing : IsQuietAfter o h → left_after o h ≡ 0
  pub done : IsQuietAfter o h → IsAllDone o h

-- no legal history is stuck
abbrev pub NothingStuck : Type 0
NothingStuck = (o : Opening) (h : List Entry) → 1 ≤ o.saturation → IsLegal o h → IsNotStuck o h
