-- Which calls of callers a seat's entries are.
use Rattle.std.specs.Prelude.{ℕ, suc, List, [], ◌∷◌, ◌++◌, Option, Some, Result, Ok, Err}
use Rattle.wc_base.specs.declared.error.NoMemory.{NoMemory}
use Rattle.wc_base.specs.declared.who.Who.{Who}
use Rattle.wc_base.specs.declared.seat.View.{View}
use Rattle.codec_model.specs.declared.entry.{Call.Call, Entry.Entry}
use Rattle.codec_model.specs.declared.entry.Call.TheVariants as call
use Rattle.codec_media.specs.Holding.{ReplyValue}
use Rattle.codec_logs.specs.declared.event.Event.{Event}
use Rattle.shared_codec.specs.declared.settling.Answer.{Answer}
use Rattle.shared_codec.specs.Dues.{Called, call_in, call_dues, OwedSince}
use Rattle.shared_codec.specs.Shared.{Shared}

-- What a seat of the codec made since are these calls, in order, and no others; its other entries are starts, ends, turns and
-- reclaims.
abbrev pub Names : Shared → List Called → View Event → View Event → Type 0
Names s calls v w = OwedSince call_dues s.codec s.opening v w calls

-- one call, at this place of the codec k
abbrev pub called : ℕ → ℕ → Who → Call → List Called
called k place who x = record { codec = k; place = place; who = who; call = x } ∷ []

-- the call that was answered, or none where memory was wanted
abbrev pub replied_calls : ℕ → Who → Call → Result ReplyValue NoMemory → List Called
replied_calls k who x (Ok r) = called k r.place who x
replied_calls k who x (Err e) = []

abbrev pub answered_calls : ℕ → Who → Call → Result Answer NoMemory → List Called
answered_calls k who x (Ok answer) = called k answer.place who x
answered_calls k who x (Err e) = []

-- a take of the output of this number, if it was made
abbrev pub taken_calls : ℕ → Who → ℕ → Result (Option ℕ) NoMemory → List Called
taken_calls k who number (Ok (Some place)) = called k place who (call.Take number)
taken_calls k who number _ = []

-- the calls in the history of the codec k from this place on, in order
abbrev pub calls_in : ℕ → ℕ → List Entry → List Called
calls_in k place [] = []
calls_in k place (e ∷ es) = call_in k place e ++ calls_in k (suc place) es
