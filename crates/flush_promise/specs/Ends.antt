-- How promises of flushes end.
use Rattle.std.specs.Prelude.{Option, Some, None}
use Rattle.codec_model.specs.declared.entry.PromiseState.{PromiseState}
use Rattle.codec_model.specs.declared.entry.PromiseState.TheVariants as promise
use Rattle.flush_promise.specs.declared.promise.FlushEnd.{FlushEnd}
use Rattle.flush_promise.specs.declared.promise.FlushEnd.TheVariants.{Resolved, Rejected}

-- how a promise stands that ended so
abbrev pub ended_state : FlushEnd → PromiseState
ended_state Resolved = promise.Resolved
ended_state (Rejected error) = promise.Rejected error

-- how a promise stands that ended so, or has not ended
abbrev pub state_of : Option FlushEnd → PromiseState
state_of None = promise.Pending
state_of (Some end) = ended_state end
