-- What holds of a course that follows a front of a script's order.
use Rattle.std.specs.Prelude.{ℕ, ◌≡◌, ◌-◌, nat_lt, List, [], ◌∷◌, ◌++◌, length, Option, Some, None, if◌then◌else◌}
use Rattle.wc_config.specs.declared.codec.CoderId.{CoderId}
use Rattle.codec_model.specs.Replay.{IsLegal}
use Rattle.codec_model.specs.declared.entry.Pair.{Pair}
use Rattle.codec_model.specs.Held.{held_in}
use Rattle.codec_accounts.specs.Codec.{CodecValue, state_of, codec_at, AreGivable}
use Rattle.script_types.specs.declared.script.ScriptData.{ScriptData}
use Rattle.media_accounts.specs.Accounts.{AreLent}
use Rattle.codec_accounts.specs.Owed.{at}
use Rattle.media_variables.specs.Variables.{Reference, Received}
use Rattle.run_model.specs.Follow.{Course}
use Rattle.run_model.specs.Recorded.{opening_at}

-- the references to media that each codec holds
abbrev pub held_by_codecs : List CodecValue → ℕ → List Pair
held_by_codecs codecs k = held_in (state_of (codec_at k codecs))

-- the references to media in what waits in a port
abbrev pub pairs_waiting : Option Reference → List Pair
pairs_waiting None = []
pairs_waiting (Some r) = record { resource = r.resource; reference = r.number } ∷ []

abbrev pub held_by_port : List Received → List Pair
held_by_port [] = []
held_by_port (p ∷ ps) = pairs_waiting p.medium.held ++ held_by_port ps

-- those that the holder with this number holds: a codec, or, behind all codecs, a port
abbrev pub held_by_holders : List CodecValue → List (List Received) → ℕ → List Pair
held_by_holders codecs ports k = if nat_lt k (length codecs) then held_by_codecs codecs k else held_by_port (at (k - length codecs) ports)

abbrev pub held_by_all : Course → ℕ → List Pair
held_by_all v = held_by_holders v.codecs v.ports

-- The course has the script's codecs, each opened as the script says and with a legal history, media of each caller, and a
-- registry of the same boxes, and the script's ports; each box that a codec holds may be given back by its next entry, and each
-- reference to media that a codec or a port holds is live, and held by no variable, no other codec and no other port.
pub record IsCourse (s : ScriptData) (made : List CoderId) (v : Course) : Type 0 where
  pub callers : length v.callers ≡ length s.callers
  pub codecs : length v.codecs ≡ length s.codecs
  pub openings : (k : ℕ) → (codec_at k v.codecs).opening ≡ opening_at s k
  pub legal : (k : ℕ) → IsLegal (codec_at k v.codecs).opening (codec_at k v.codecs).history
  pub media : length v.media.variables ≡ length s.callers
  pub ports : length v.ports ≡ length s.ports
  pub boxes : v.slots.made ≡ made
  pub givable : AreGivable v.codecs v.slots.history
  pub lent : AreLent v.media.pool v.media.variables (held_by_all v)
