-- When a run of threads fits its script.
use Rattle.std.specs.Prelude.{ℕ, ◌≡◌, ◌<◌, true, List, length}
use Rattle.wc_base.specs.Views.{Log}
use Rattle.wc_config.specs.declared.codec.CoderId.{CoderId}
use Rattle.wc_chunk.specs.declared.chunk.Chunk.{Chunk}
use Rattle.wc_pool.specs.Bag.{is_legal_pool}
use Rattle.codec_accounts.specs.Owed.{at}
use Rattle.codec_logs.specs.declared.event.Event.{Event}
use Rattle.media_accounts.specs.Accounts.{own_in, own_of, came_in, MediaAreIn}
use Rattle.script_types.specs.declared.script.ScriptData.{ScriptData}
use Rattle.run_model.specs.Recorded.{Recorded, opening_at, steps_of}
use Rattle.run_model.specs.Fits.{CallsAreIn, LooksAreIn, ArgumentsAreIn, LocalsAreIn, brought_to, lends_in, made_steps}
use Rattle.run_laws.specs.Tries.{BoxesAreTried}
use Rattle.run_laws.specs.Paid.{histories_of, RegistryIsPaid}
use Rattle.run_laws.specs.PoolPaid.{PoolIsPaid}
use Rattle.call_laws.specs.Callers.{CallersAnswer}
use Rattle.run_laws.specs.Quiet.{LogRests}

-- As a replay fits its script, but that a start may try twice to get its box, or not at all for want of memory.
pub record FitsAsTried (s : ScriptData) (media : List (List Chunk)) (made : List CoderId) (w : Recorded) : Type 0 where
  pub calls : CallsAreIn s w
  pub looks : LooksAreIn s w
  pub arguments : ArgumentsAreIn s media w
  pub locals : LocalsAreIn s media w
  pub accounted : MediaAreIn (steps_of s) (brought_to s media w) (lends_in s w) (made_steps w) w.pool
  pub boxes : BoxesAreTried made (opening_at s) w.codecs w.slots

-- What was recorded of a run whose codecs have these logs is what its threads made: its registry and its pool have what the logs and
-- the callers' steps call for, and each step has the result of its own rule.
pub record ThreadsMade (s : ScriptData) (media : List (List Chunk)) (made : List CoderId) (logs : List (Log Event)) (w : Recorded) : Type 0 where
  pub codecs : w.codecs ≡ histories_of logs
  pub registry : RegistryIsPaid made (opening_at s) logs w.slots
  pub pool_is_legal : is_legal_pool w.pool ≡ true
  pub pool : PoolIsPaid (opening_at s) logs w.pool
  pub own : (c : ℕ) → own_in c w.pool ≡ own_of (came_in (steps_of s) (brought_to s media w) w.pool c) (made_steps w c)
  pub callers : CallersAnswer s media w
  pub looks : LooksAreIn s w
  pub locals : LocalsAreIn s media w

-- by their logs all codecs are at rest
abbrev pub AreAtRest : ScriptData → List (Log Event) → Type 0
AreAtRest s logs = (k : ℕ) → k < length logs → LogRests (opening_at s k) (at k logs)
