-- What the logs of all codecs call for in the pool, and that its history has this.
use Rattle.std.specs.Prelude.{ℕ, ◌≡◌, ◌<◌, List, length}
use Rattle.wc_base.specs.Views.{Log}
use Rattle.wc_pool.specs.declared.entry.PoolEntry.{PoolEntry}
use Rattle.wc_pool.specs.declared.entry.PoolOp.{PoolOp}
use Rattle.codec_model.specs.declared.entry.Opening.{Opening}
use Rattle.codec_accounts.specs.Owed.{at}
use Rattle.codec_logs.specs.declared.event.Event.{Event}
use Rattle.codec_logs.specs.Logs.{opening_track, IsLog}
use Rattle.media_accounts.specs.Accounts.{ops_of_entry, lent_at}
use Rattle.shared_codec.specs.Dues.{media_dues}
use Rattle.shared_codec.specs.Order.{ops_at}
use Rattle.shared_codec.specs.Sums.{all_dues}
use Rattle.run_laws.specs.Paid.{histories_of}

-- what the log of a codec calls for in the pool, each with the place of its entry
abbrev pub media_of : (ℕ → Opening) → ℕ → Log Event → List (ℕ × PoolOp)
media_of opening k log = all_dues media_dues k (opening_track (opening k)) log

-- What a pool's history has by each entry of a codec is what that one's log calls for by it, in order.
pub record PoolIsPaid (opening : ℕ → Opening) (logs : List (Log Event)) (pool : List PoolEntry) : Type 0 where
  pub logs_are : (k : ℕ) → k < length logs → IsLog k (opening k) (at k logs)
  pub causes : (k place : ℕ) → ops_at place (media_of opening k (at k logs)) ≡ ops_of_entry k place pool

-- What a pool's history has by the entry of a codec is what that one's history calls for, by the state before it.
abbrev pub CodecsArePaid : (ℕ → Opening) → List (Log Event) → List PoolEntry → Type 0
CodecsArePaid opening logs pool = (k place : ℕ) → ops_of_entry k place pool ≡ lent_at (opening k) (at k (histories_of logs)) place
