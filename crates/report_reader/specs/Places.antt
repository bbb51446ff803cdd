-- Where a medium is looked for that an encode was given.
use Rattle.std.specs.Prelude.{ℕ, ◌≡◌, ◌+◌, ◌*◌, ◌^◌, List, [], Option, Some, None, option_map, option_and_then}
use Rattle.codec_model.specs.declared.entry.Content.{Content}
use Rattle.script_types.specs.declared.script.ScriptData.{ScriptData}
use Rattle.script_types.specs.declared.steps.Step.{Step}
use Rattle.script_types.specs.declared.steps.Step.TheVariants as step
use Rattle.script_types.specs.declared.steps.MediaStep.TheVariants as on_media
use Rattle.media_accounts.specs.Contents.{Kept, MediumOf, BytesOf, From, medium_kept, bytes_kept, kept_by, kept_before, content_before}
use Rattle.run_model.specs.Recorded.{steps_of}
use Rattle.report_reader.specs.declared.known.Known.{Known}
use Rattle.report_reader.specs.declared.clones.Place.{Place}
use Rattle.report_reader.specs.declared.clones.Source.{Source}
use Rattle.report_reader.specs.declared.clones.Source.TheVariants as source
use Rattle.report_reader.specs.Arguments.{taken_in, from_in}

-- what is given to the steps of a place's caller
abbrev pub from_at : ScriptData → Known → Place → ℕ → From
from_at script known at = from_in script known at.left at.caller

-- what the audio data or the frame is of a place
abbrev pub content_at : ScriptData → Known → Place → Option Content
content_at script known at = content_before (steps_of script at.caller) (from_at script known at) at.end at.number

-- what its step gives its variable
abbrev pub content_by : ScriptData → Known → Place → Step → Option Content
content_by script known at x =
    option_and_then medium_kept (kept_by (kept_before (steps_of script at.caller) (from_at script known at) at.number) (from_at script known at at.number) x)

-- what its step received
abbrev pub received_at : ScriptData → Known → Place → Option Content
received_at script known at = (from_at script known at at.number).received

-- the bytes alone of what was kept
abbrev pub only_bytes : (ℕ → Option Kept) → ℕ → Option Kept
only_bytes earlier j = Some (BytesOf (bytes_kept (earlier j)))

-- what its step gives its variable, where it clones and hands on nothing and received nothing
abbrev pub own_content : ScriptData → Known → Place → Step → Option Content
own_content script known at x =
    option_and_then medium_kept (kept_by (only_bytes (kept_before (steps_of script at.caller) (from_at script known at) at.number)) (record { taken = taken_in known at.caller at.number; received = None }) x)

-- what a step gives its variable: what an earlier one did, what it received, or its own, of which only the bytes of buffers are earlier
abbrev pub IsSource : Source → (ℕ → Option Kept) → From → Step → Type 0
IsSource (source.Earlier j) earlier from x = kept_by earlier from x ≡ earlier j
IsSource source.Port earlier from x = kept_by earlier from x ≡ option_map MediumOf from.received
IsSource source.Own earlier from x = kept_by earlier from x ≡ kept_by (only_bytes earlier) (record { taken = from.taken; received = None }) x

-- the bytes of a buffer that a step makes
abbrev pub own_bytes : Step → List ℕ
own_bytes (step.Media (on_media.Buffer bind bytes)) = bytes
own_bytes x = []

-- a place before another has less room: fewer receives may be followed, or fewer steps stand before it
abbrev pub room_of : Place → ℕ
room_of at = at.left * 2 ^ 32 + at.end

abbrev pub room_before : Place → ℕ
room_before at = at.left * 2 ^ 32 + at.number
