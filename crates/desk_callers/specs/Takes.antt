-- What a take of a codec's outputs found.
use Rattle.std.specs.Prelude.{ℕ, ◌≡◌, Option, Some, None, slice_get}
use Rattle.wc_base.specs.declared.who.Who.{Who}
use Rattle.codec_desk.specs.declared.desk.Desk.{Desk}
use Rattle.codec_desk.specs.declared.desk.Seats.{Seats}
use Rattle.desk_callers.specs.declared.takes.FoundOutput.{FoundOutput}
use Rattle.desk_callers.specs.declared.takes.FoundOutput.TheVariants as found
use Rattle.codec_accounts.specs.Owed.{at}
use Rattle.run_model.specs.Recorded.{output_at}
use Rattle.shared_codec.specs.declared.takes.NextOutput.{NextOutput}
use Rattle.shared_codec.specs.Shared.{Shared}
use Rattle.desk_callers.specs.Acts.{histories_in, Helped, TookAs, TookNone}

abbrev pub IsFound : {C : Type 0} → Desk C → Who → ℕ → Seats C → Seats C → FoundOutput → Type 0
IsFound desk who codec a b (found.Taken place number u) = TookAs desk who codec place number u a b
IsFound desk who codec a b (found.Nothing seen) = TookNone desk codec seen a b

-- this is an output of the codec, as far as the seats have seen
abbrev pub IsSighted : {C : Type 0} → Desk C → ℕ → Seats C → NextOutput → Type 0
IsSighted desk codec a next = (x : Shared) → slice_get desk.codecs.items codec ≡ Some x → output_at x.opening (at codec (histories_in a.codecs.items)) next.number ≡ Some next.unit

-- what one look for an output, and one take of it, found; or that another thread took it in between
abbrev pub IsTried : {C : Type 0} → Desk C → Who → ℕ → Seats C → Seats C → Option FoundOutput → Type 0
IsTried desk who codec a b None = Helped desk a b
IsTried desk who codec a b (Some f) = IsFound desk who codec a b f
