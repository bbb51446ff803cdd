-- Polls of promises, by the logs of their codecs.
use Rattle.std.specs.Prelude.{ℕ, ◌≡◌, ◌++◌, Option, Some, None}
use Rattle.futures.specs.declared.task.Poll.{Poll}
use Rattle.futures.specs.declared.task.Poll.TheVariants.{Ready, Pending}
use Rattle.wc_base.specs.Views.{Log}
use Rattle.codec_logs.specs.declared.event.Event.{Event}
use Rattle.codec_logs.specs.Logs.{IsLog}
use Rattle.shared_codec.specs.Shared.{Shared}
use Rattle.flush_promise.specs.declared.promise.FlushEnd.{FlushEnd}
use Rattle.flush_promise.specs.Promises.{EndsAs}

-- the end that a poll gave
abbrev pub end_in : Poll FlushEnd → Option FlushEnd
end_in (Ready end) = Some end
end_in Pending = None

-- this log begins with that one
abbrev pub BeginsWith : Log Event → Log Event → Type 0
BeginsWith log start = (more : Log Event) × (log ≡ start ++ more)

-- How the promise of the flush at this place may be seen to end by who has seen this log of the codec: it ended so by a legal log
-- that begins with what was seen.
pub record MayEndAs (s : Shared) (place : ℕ) (seen : Log Event) (end : FlushEnd) : Type 0 where
  pub log : Log Event
  pub begins : BeginsWith log seen
  pub legal : IsLog s.codec s.opening log
  pub ended : EndsAs place end s log
