-- What each call of a shared codec calls for elsewhere: what is to be done in the registry and in the pool for its entry.
use Rattle.std.proofs.Common.{ℕ, List, [], ◌∷◌, ◌++◌, map, Option, Some, None}
use Rattle.std.specs.Prelude.{Result, Ok, Err}
use Rattle.wc_base.specs.declared.error.NoMemory.{NoMemory}
use Rattle.wc_base.specs.declared.seat.View.{View}
use Rattle.wc_pool.specs.declared.entry.PoolOp.{PoolOp}
use Rattle.wc_pool.specs.declared.reference.MediaRef.{MediaRef}
use Rattle.coder_api.specs.Lent.{Lent}
use Rattle.coder_api.specs.declared.slot.SlotEntry.{SlotEntry}
use Rattle.codec_model.specs.Held.{in_order}
use Rattle.codec_core.specs.Job.{JobValue, DoneValue, missing_id, outcome_of}
use Rattle.codec_media.specs.Holding.{ReplyValue, RemovedValue, TurnedValue, EndedValue, pair_of}
use Rattle.codec_logs.specs.declared.event.Event.{Event}
use Rattle.codec_logs.specs.Logs.{track}
use Rattle.shared_codec.specs.Calls.{media_in, box_in}
use Rattle.shared_codec.specs.Dues.{OwedSince, slot_dues, media_dues, ends_at, gives_of, given_if}
use Rattle.shared_codec.specs.DueLaws.{owed_none, owed_then}
use Rattle.shared_codec.specs.Shared.{Shared}
use Rattle.shared_codec.specs.Told.{Ending, ending_of, asked_in, end_dues}

-- What a seat of the codec made since calls for these entries of the registry and for this in the pool, in order, and for
-- nothing else; and these are the items that it ended.
pub record Owes (s : Shared) (entries : List SlotEntry) (calls : List (ℕ × PoolOp)) (ends : List Ending) (v w : View Event) : Type 0 where
  pub slots : OwedSince slot_dues s.codec s.opening v w entries
  pub pool : OwedSince media_dues s.codec s.opening v w calls
  pub ended : OwedSince end_dues s.codec s.opening v w ends

pub owes_none : (s : Shared) (v : View Event) → Owes s [] [] [] v v
owes_none s v = record { slots = owed_none slot_dues s.codec s.opening v; pool = owed_none media_dues s.codec s.opening v; ended = owed_none end_dues s.codec s.opening v }

pub owes_then : (s : Shared) (u v w : View Event) (es fs : List SlotEntry) (ps qs : List (ℕ × PoolOp)) (ds gs : List Ending) → Owes s es ps ds u v → Owes s fs qs gs v w → Owes s (es ++ fs) (ps ++ qs) (ds ++ gs) u w
owes_then s u v w es fs ps qs ds gs x y = record {
  slots = owed_then slot_dues s.codec s.opening u v w es fs x.slots y.slots;
  pool = owed_then media_dues s.codec s.opening u v w ps qs x.pool y.pool;
  ended = owed_then end_dues s.codec s.opening u v w ds gs x.ended y.ended;
}

-- the return of a box, if there is one, and an end of each of these references, by the entry at this place
abbrev pub OwesBack : Shared → ℕ → List MediaRef → Option Lent → View Event → View Event → Type 0
OwesBack s place media coder v w = Owes s (gives_of s.codec place coder) (ends_at place (map pair_of media)) [] v w

-- a call of a caller, and a reclaim: the return of what is handed back
abbrev pub CallOwes : Shared → Result ReplyValue NoMemory → View Event → View Event → Type 0
CallOwes s (Ok r) v w = OwesBack s r.place r.media r.coder v w
CallOwes s (Err e) v w = Owes s [] [] [] v w

abbrev pub ReclaimOwes : Shared → Option RemovedValue → View Event → View Event → Type 0
ReclaimOwes s (Some r) v w = OwesBack s r.place r.media r.coder v w
ReclaimOwes s None v w = Owes s [] [] [] v w

abbrev pub TurnOwes : Shared → Option TurnedValue → View Event → View Event → Type 0
TurnOwes s (Some t) v w = OwesBack s t.place (media_in t.removed) (box_in t.removed) v w
TurnOwes s None v w = Owes s [] [] [] v w

-- a start: where its job lacks a box, the return of the one that it came with
abbrev pub StartOwes : Shared → Option JobValue → View Event → View Event → Type 0
StartOwes s (Some job) v w = Owes s (given_if s.codec (missing_id job) job.place job.coder) [] [] v w
StartOwes s None v w = Owes s [] [] [] v w

-- an end: the acquires that were made for it, and the return of what is handed back; it says this of the item that was at work
abbrev pub DoneOwes : Shared → DoneValue → List SlotEntry → EndedValue → View Event → View Event → Type 0
DoneOwes s d acquires back v w = Owes s (acquires ++ gives_of s.codec back.place back.coder) (ends_at back.place (map pair_of (in_order back.media))) (ending_of (asked_in (track s.opening v.log)) acquires (outcome_of d.ended) ∷ []) v w
