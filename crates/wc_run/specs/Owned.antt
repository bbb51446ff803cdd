-- What threads did to the pool by the steps of callers.
use Rattle.std.specs.Prelude.{ℕ, ◌≡◌, List, []}
use Rattle.wc_chunk.specs.declared.chunk.Chunk.{Chunk}
use Rattle.codec_accounts.specs.Owed.{at}
use Rattle.shared_codec.specs.Order.{made_by}
use Rattle.codec_desk.specs.declared.desk.Seats.{Seats}
use Rattle.media_accounts.specs.Accounts.{StepOp, own_in}
use Rattle.desk_callers.specs.Deeds.{Deed, owns_of}
use Rattle.script_types.specs.declared.script.ScriptData.{ScriptData}

-- This is what a thread's seats made in the pool by the steps of each caller, in order.
abbrev pub Owned : {C : Type 0} → (ℕ → List StepOp) → Seats C → Type 0
Owned mine a = (c : ℕ) → own_in c (made_by a.pool.me.0) ≡ mine c

abbrev pub none_owned : ℕ → List StepOp
none_owned c = []

-- what the deeds of each caller did to the pool, in order
abbrev pub owns_at : ScriptData → List (List Chunk) → List (List Deed) → ℕ → List StepOp
owns_at s media deeds c = owns_of s media (at c deeds)
