-- Configurations, by the places of their calls: what is handed to the codec's definition.
use Rattle.std.specs.Prelude.{ℕ, zero, suc, ◌+◌, List, [], ◌∷◌, Option, Some, None, is_some, if◌then◌else◌}
use Rattle.codec_definitions.specs.declared.unit.Unit as media
use Rattle.codec_definitions.specs.declared.unit.Unit.TheVariants as unit
use Rattle.codec_model.specs.declared.entry.Opening.{Opening}
use Rattle.codec_model.specs.declared.entry.Entry.{Entry}
use Rattle.codec_model.specs.declared.entry.Entry.TheVariants as entry
use Rattle.codec_model.specs.declared.entry.Work.{Work}
use Rattle.codec_model.specs.declared.entry.Work.TheVariants as work
use Rattle.codec_model.specs.declared.entry.WorkKind.{WorkKind}
use Rattle.codec_model.specs.Replay.{Given, nothing_given, given_more, message_of}
use Rattle.codec_laws.specs.declared.sight.Sight.{Sight}
use Rattle.codec_laws.specs.Sights.{sights}

-- The place of a configure, its config, and the commands of the calls behind it: a chunk or samples of each decode or encode,
-- and a drain of each flush.
pub record Configuration : Type 0 where
  pub place : ℕ
  pub given : Given

abbrev pub no_configuration : Configuration
no_configuration = record { place = 0; given = nothing_given }

-- what a call asks for that is seen to be accepted
abbrev pub work_seen : Entry → Option WorkKind → Option Work
work_seen (entry.Call who x) (Some k) = message_of x
work_seen e asks = None

-- with what is asked for at a place, if anything is: a configure begins a configuration
abbrev pub configuration_more : ℕ → Option Work → Configuration → Configuration
configuration_more place None c = c
configuration_more place (Some (work.Configure config)) c = record { place = place; given = record { config = config; commands = [] } }
configuration_more place (Some w) c = record c { given = given_more w c.given }

-- with the entry at a place: a removal ends a configuration
abbrev pub configuration_after : ℕ → Entry → Sight → Configuration → Configuration
configuration_after place e x c = if is_some x.removes then no_configuration else configuration_more place (work_seen e x.asks) c

-- behind this configuration, with these entries from this place on, up to the one of a number
abbrev pub configuration_from : ℕ → Configuration → List Entry → List Sight → ℕ → Configuration
configuration_from place c (e ∷ es) (x ∷ xs) zero = configuration_after place e x c
configuration_from place c (e ∷ es) (x ∷ xs) (suc k) = configuration_from (place + 1) (configuration_after place e x c) es xs k
configuration_from place c es xs k = c

-- the configuration that stands at a call, up to this call and with it
abbrev pub configuration_at : Opening → List Entry → ℕ → Configuration
configuration_at o h call = configuration_from 0 no_configuration h (sights o h) call

-- an output without its metadata
abbrev pub bare : media.Unit → media.Unit
bare (unit.Coded chunk config) = unit.Coded chunk None
bare u = u
