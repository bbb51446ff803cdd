-- What the threads of a run made.
use Rattle.std.specs.Prelude.{ℕ, suc, ◌≡◌, ◌<◌, ◌≤◌, true, List, [], ◌∷◌, ◌++◌, length}
use Rattle.wc_base.specs.Views.{Log}
use Rattle.wc_config.specs.declared.codec.CoderId.{CoderId}
use Rattle.wc_chunk.specs.declared.chunk.Chunk.{Chunk}
use Rattle.wc_pool.specs.Bag.{is_legal_pool}
use Rattle.slot_registry.specs.Slots.{is_legal_slots}
use Rattle.codec_model.specs.declared.entry.Opening.{Opening}
use Rattle.codec_accounts.specs.Bags.{SameBag}
use Rattle.codec_accounts.specs.Codec.{state_after}
use Rattle.codec_accounts.specs.Owed.{at}
use Rattle.codec_logs.specs.declared.event.Event.{Event}
use Rattle.codec_logs.specs.Logs.{opening_track, IsLog}
use Rattle.shared_codec.specs.Dues.{Called, call_dues}
use Rattle.shared_codec.specs.Sums.{all_dues}
use Rattle.script_types.specs.declared.script.ScriptData.{ScriptData}
use Rattle.run_model.specs.Recorded.{Recorded, opening_at}
use Rattle.order_laws.specs.Sound.{IsSound}
use Rattle.run_model.specs.Fits.{recorded_of}
use Rattle.run_model.specs.declared.run.Run.{Run}
use Rattle.run_laws.specs.Paid.{histories_of, slots_of, all_slots, by_cause}
use Rattle.run_laws.specs.PoolPaid.{media_of}
use Rattle.run_laws.specs.Told.{LogTellsEnds}
use Rattle.shared_codec.specs.Tallies.{reclaims, refusals}
use Rattle.run_laws.specs.Reclaims.{in_logs}
use Rattle.std.specs.List.{flat_map}
use Rattle.shared_codec.specs.Order.{ops_at, done_at}
use Rattle.run_laws.specs.Quiet.{IsAtRest}
use Rattle.media_accounts.specs.Accounts.{own_in}
use Rattle.desk_callers.specs.Deeds.{Deed, owns_of}
use Rattle.desk_callers.specs.PortDeeds.{received_in}
use Rattle.port_laws.specs.PortAccounts.{PortsMade}
use Rattle.wc_base.specs.declared.who.By.TheVariants as by
use Rattle.wc_run.specs.Acted.{HaveActed, calls_of_all}

-- the calls of callers in the logs of all codecs, from the codec with this number on
abbrev pub calls_in : (ℕ → Opening) → ℕ → List (Log Event) → List Called
calls_in opening k [] = []
calls_in opening k (l ∷ logs) = all_dues call_dues k (opening_track (opening k)) l ++ calls_in opening (suc k) logs

-- what a run recorded, where its callers did this
abbrev pub recorded_by : List (List Deed) → Run → Recorded
recorded_by deeds run = recorded_of (received_in deeds) run

-- What the threads of a run of this script made; `media` has the chunks of its chunk files, and `made` the ids of the coders that
-- were handed in.
pub record IsMade (s : ScriptData) (media : List (List Chunk)) (made : List CoderId) (run : Run) : Type 0 where
  -- each step has what it needs
  pub sound : IsSound s
  -- each caller's deeds, in order
  pub deeds : List (List Deed)
  -- the passages of each codec's lock, which are a log of it, and what was recorded is their history
  pub logs : List (Log Event)
  pub codecs : (recorded_by deeds run).codecs ≡ histories_of logs
  pub logs_are : (k : ℕ) → k < length logs → IsLog k (opening_at s k) (at k logs)
  -- in the end no item is at work, none may start, and no event task is queued
  pub quiet : (k : ℕ) → k < length (recorded_by deeds run).codecs → IsAtRest (state_after (opening_at s k) (at k (recorded_by deeds run).codecs)).control
  -- the registry and the pool can have their histories
  pub slots_are_legal : is_legal_slots made run.slots ≡ true
  pub pool_is_legal : is_legal_pool run.pool ≡ true
  -- the registry has what the codecs' logs call for, each entry as often, and those by one entry of a codec in its order
  pub slots_called : SameBag (all_slots (opening_at s) 0 logs) run.slots
  pub slot_causes : (k place : ℕ) → k < length logs → by_cause (by.Codec k place) (slots_of (opening_at s) k (at k logs)) ≡ by_cause (by.Codec k place) run.slots
  -- the ends of items tell how their acquires went
  pub told : (k : ℕ) → k < length logs → LogTellsEnds k (opening_at s k) run.slots (at k logs)
  -- at most as many events are reclaims as are ends of items that tell of a first acquire that was refused
  pub few : in_logs reclaims logs ≤ in_logs refusals logs
  -- what the pool has by each entry of a codec is what that one's log calls for by it, in order
  pub media_causes : (k place : ℕ) → ops_at place (media_of (opening_at s) k (at k logs)) ≡ flat_map (done_at k place) run.pool
  -- each caller made all its steps by its deeds
  pub acted : HaveActed s media (recorded_by deeds run).codecs 0 run.callers deeds
  -- the calls in the codecs' logs are those of the callers' deeds, each as often
  pub calls : SameBag (calls_in (opening_at s) 0 logs) (calls_of_all deeds)
  -- what the pool has by each caller's own steps is what its deeds did to it, in order
  pub own : (c : ℕ) → own_in c run.pool ≡ owns_of s media (at c deeds)
  -- each port delivered what its passes have in their account, which know what the deeds did to it
  pub ports : PortsMade s media deeds
