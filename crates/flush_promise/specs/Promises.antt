-- Promises of flushes, by the logs of their codecs.
use Rattle.std.specs.Prelude.{ℕ, ◌≡◌}
use Rattle.wc_base.specs.Views.{Log}
use Rattle.codec_model.specs.Shown.{shown, ends_in, promise_state}
use Rattle.codec_logs.specs.declared.event.Event.{Event}
use Rattle.codec_logs.specs.Logs.{history_of}
use Rattle.shared_codec.specs.Shared.{Shared}
use Rattle.flush_promise.specs.declared.promise.FlushEnd.{FlushEnd}
use Rattle.flush_promise.specs.Ends.{ended_state}

-- by this log of the codec the promise of the flush at this place ended so
abbrev pub EndsAs : ℕ → FlushEnd → Shared → Log Event → Type 0
EndsAs place end s log = ended_state end ≡ promise_state (ends_in (shown s.opening (history_of log))) place
