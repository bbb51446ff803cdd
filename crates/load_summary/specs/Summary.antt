-- The summary of a load: how many outputs the histories of a run show, and how many bytes these have, with the sum of all these
-- bytes.
use Rattle.std.specs.Prelude.{ℕ, List, [], ◌∷◌, flat_map, length, sum, sum_by, codes, decimal}
use Rattle.codec_definitions.specs.declared.unit.Unit as media
use Rattle.codec_definitions.specs.declared.unit.Unit.TheVariants as unit
use Rattle.codec_model.specs.declared.entry.Event.{Event}
use Rattle.codec_model.specs.declared.entry.Event.TheVariants as event
use Rattle.codec_model.specs.declared.entry.Shown.{Shown}
use Rattle.report_text.specs.Words.{◌<>◌}
use Rattle.run_model.specs.declared.run.CodecTrace.{CodecTrace}
use Rattle.run_model.specs.declared.run.Run.{Run}

abbrev pub bytes_of : media.Unit → List ℕ
bytes_of (unit.Sound samples) = samples.bytes
bytes_of (unit.Image picture) = picture.bytes
bytes_of (unit.Coded chunk config) = chunk.bytes

-- the output that an event shows, if it shows one
abbrev pub output_in : Event → List media.Unit
output_in (event.Output number unit) = unit ∷ []
output_in _ = []

-- the outputs that an entry of a history shows
abbrev pub outputs_in : Shown → List media.Unit
outputs_in shown = flat_map output_in shown.events

abbrev pub outputs_of : CodecTrace → List media.Unit
outputs_of codec = flat_map outputs_in codec.shown

-- all outputs that the histories of a run show
abbrev pub all_outputs : Run → List media.Unit
all_outputs run = flat_map outputs_of run.codecs

abbrev pub byte_count : List media.Unit → ℕ
byte_count outputs = sum_by (λ u. length (bytes_of u)) outputs

abbrev pub byte_sum : List media.Unit → ℕ
byte_sum outputs = sum_by (λ u. sum (bytes_of u)) outputs

-- the text that tells of these outputs
abbrev pub text_of : ℕ → ℕ → List media.Unit → List ℕ
text_of start n outputs =
    codes "load " <> decimal start <> codes " " <> decimal n <> codes "\noutputs " <> decimal (length outputs)
    <> codes "\nbytes " <> decimal (byte_count outputs) <> codes "\nsum " <> decimal (byte_sum outputs) <> codes "\n"

-- the summary of a run of the script of this load
abbrev pub load_text : ℕ → ℕ → Run → List ℕ
load_text start n run = text_of start n (all_outputs run)
