-- A run of one encoder, whose caller makes audio data, encodes it and closes it, and takes and copies the chunk that was coded:
-- its script, what was recorded, and the text of its report, as plain data.
use Rattle.std.specs.Prelude.{true, false, ◌≡◌, pos, List, [], ◌∷◌, ◌++◌, ℕ, Some, None, codes}
use Rattle.wc_base.specs.declared.who.By.TheVariants as by
use Rattle.wc_chunk.specs.declared.chunk.Chunk.{Chunk}
use Rattle.wc_pool.specs.declared.entry.PoolEntry.{PoolEntry}
use Rattle.wc_pool.specs.declared.entry.PoolOp.TheVariants as pool
use Rattle.wc_config.specs.declared.codec.CoderId.{CoderId}
use Rattle.wc_config.specs.declared.codec.CodecId.TheVariants.{PcmS16}
use Rattle.wc_config.specs.declared.codec.Role.TheVariants as role
use Rattle.wc_config.specs.declared.config.Config.{Config}
use Rattle.wc_config.specs.declared.config.Config.TheVariants as config
use Rattle.wc_config.specs.declared.kind.Kind.TheVariants as word
use Rattle.coder_api.specs.declared.slot.SlotEntry.{SlotEntry}
use Rattle.coder_api.specs.declared.slot.SlotOp.TheVariants as slot
use Rattle.codec_definitions.specs.declared.unit.Unit as media
use Rattle.codec_definitions.specs.declared.unit.Unit.TheVariants as unit
use Rattle.codec_model.specs.declared.entry.Opening.{Opening}
use Rattle.codec_model.specs.declared.entry.Pair.{Pair}
use Rattle.codec_model.specs.declared.entry.MediaShape.TheVariants as media_shape
use Rattle.codec_model.specs.declared.entry.Handed.TheVariants as handed
use Rattle.codec_model.specs.declared.entry.Outcome.TheVariants as outcome
use Rattle.codec_model.specs.declared.entry.Call.TheVariants as call
use Rattle.codec_model.specs.declared.entry.Entry.{Entry}
use Rattle.codec_model.specs.declared.entry.Entry.TheVariants as entry
use Rattle.codec_model.specs.declared.entry.Event.TheVariants as event
use Rattle.codec_model.specs.declared.entry.Shown.{Shown}
use Rattle.codec_model.specs.declared.entry.TurnWord.TheVariants as turn
use Rattle.row_tests.specs.CodecRows.{step_of}
use Rattle.script_types.specs.declared.options.Options.TheVariants as options
use Rattle.script_types.specs.declared.script.ScriptData.{ScriptData}
use Rattle.script_types.specs.declared.script.CodecItem.{CodecItem}
use Rattle.script_types.specs.declared.script.OrderItem.{OrderItem}
use Rattle.script_types.specs.declared.script.OrderItem.TheVariants as item
use Rattle.script_types.specs.declared.steps.MediaStep.TheVariants as on_media
use Rattle.script_types.specs.declared.steps.Step.{Step}
use Rattle.script_types.specs.declared.steps.Step.TheVariants as step
use Rattle.script_types.specs.declared.steps.Variable.{Variable}
use Rattle.script_types.specs.declared.steps.VariableKind.TheVariants as holds
use Rattle.report_text.specs.declared.result.StepResult.{StepResult}
use Rattle.report_text.specs.declared.result.StepResult.TheVariants as result
use Rattle.run_model.specs.declared.run.Run.{Run}
use Rattle.run_model.specs.Fits.{FollowsTheOrder, IsLegalRun}
use Rattle.trace_text.specs.Report.{report_of}
use Rattle.row_tests.specs.ReportRows.{sound, quiet, turn_shown}

-- ---- the script

abbrev pub encoder : CodecItem
encoder = record { name = codes "e"; kind = word.AudioEncoder; saturation = 4 }

abbrev pub pcm_encoder : Config
pcm_encoder = config.AudioEncoder (record { codec = codes "pcm-s16"; rate = 8000; channels = 1; block_size = 0; level = 5; depth = 16 })

abbrev pub audio : Variable
audio = record { name = codes "s"; step = 1; kind = holds.Audio }

abbrev pub steps : List Step
steps =
    step.Configure 0 pcm_encoder
    ∷ step.Media (on_media.Audio (codes "s") (Some (record { shape = sound.shape; content = sound.bytes })))
    ∷ step.Media (on_media.Encode 0 audio) ∷ step.Media (on_media.CloseData audio)
    ∷ step.Media (on_media.Take 0 (codes "c") holds.Chunk)
    ∷ step.Media (on_media.Copy (record { name = codes "c"; step = 4; kind = holds.Chunk }) options.Nothing 4) ∷ []

abbrev pub order : List OrderItem
order =
    item.Caller 0 ∷ item.Caller 0 ∷ item.Caller 0 ∷ item.Caller 0
    ∷ item.Start 0 ∷ item.Done 0 1 ∷ item.Turn 0 ∷ item.Turn 0
    ∷ item.Start 0 ∷ item.Done 0 2 ∷ item.Turn 0 ∷ item.Turn 0 ∷ item.Caller 0 ∷ item.Caller 0 ∷ []

abbrev pub encoding_script : ScriptData
encoding_script = record { codecs = encoder ∷ []; callers = record { name = codes "a"; steps = steps } ∷ []; order = Some order; chunk_files = []; ports = []; inline = 4 }

-- ---- the run

abbrev pub results : List StepResult
results =
    result.Call 0 0 None ∷ result.Local None ∷ result.Call 0 1 None ∷ result.Local None ∷ result.Unit 0 10 0
    ∷ result.Copied 4 (1 ∷ 0 ∷ 2 ∷ 0 ∷ []) ∷ []

abbrev pub opened : Opening
opened = record { kind = word.AudioEncoder; saturation = 4 }

-- the reference that the codec holds, to the resource of the caller's data
abbrev pub clone : Pair
clone = record { resource = 0; reference = 1 }

abbrev pub entries : List Entry
entries =
    entry.Call (step_of 0) (call.Configure pcm_encoder) ∷ entry.Call (step_of 2) (call.Encode (handed.Cloned (record { shape = media_shape.Sound sound.shape; bytes = sound.bytes; pair = clone })))
    ∷ entry.Start 0 0 ∷ entry.Done 0 0 1 (outcome.Ran 0) ∷ entry.Turn ∷ entry.Turn
    ∷ entry.Start 0 1 ∷ entry.Done 0 1 2 (outcome.Ran 1) ∷ entry.Turn ∷ entry.Turn ∷ entry.Call (step_of 4) (call.Take 0) ∷ []

abbrev pub coded : Chunk
coded = record { key = true; timestamp = pos 0; duration = Some 250; bytes = 1 ∷ 0 ∷ 2 ∷ 0 ∷ [] }

abbrev pub coded_unit : media.Unit
coded_unit = unit.Coded coded (Some (record { codec = codes "pcm-s16"; rate = 8000; channels = 1; description = None }))

abbrev pub shown : List Shown
shown =
    quiet ∷ quiet ∷ quiet ∷ quiet ∷ turn_shown turn.Unblock [] ∷ turn_shown turn.Process []
    ∷ quiet ∷ quiet ∷ turn_shown turn.Dequeue (event.Dequeue ∷ []) ∷ turn_shown turn.Output (event.Output 0 coded_unit ∷ []) ∷ quiet ∷ []

-- The step makes the resource, the codec's entry of the encode makes a clone, the close of the data ends the first reference, and
-- the end of the codec's item the last.
abbrev pub references : List PoolEntry
references =
    record { by = by.Caller (step_of 1); op = pool.Make 0 0 } ∷ record { by = by.Codec 0 1; op = pool.Clone 0 1 }
    ∷ record { by = by.Caller (step_of 3); op = pool.End 0 0 false } ∷ record { by = by.Codec 0 7; op = pool.End 0 1 true } ∷ []

-- the coder that was handed in
abbrev pub coder : CoderId
coder = record { role = role.Encode; codec = PcmS16 }

abbrev pub acquire_entry : SlotEntry
acquire_entry = record { by = by.Codec 0 2; op = slot.Acquire coder 0 }

abbrev pub encoding_run : Run
encoding_run = record {
  callers = record { results = results } ∷ [];
  codecs = record { opening = opened; entries = entries; shown = shown } ∷ [];
  pool = references;
  slots = acquire_entry ∷ [];
  held = 0;
}

-- ---- the report

abbrev pub caller_part : List ℕ
caller_part = codes "caller a\n0 e.0 ok\n1 ok\n2 e.1 ok\n3 ok\n4 e.10 unit 0\n5 copied 4 01000200\n"

abbrev pub codec_part : List ℕ
codec_part =
    codes "codec e audio-encoder 4\n"
    ++ codes "0 a.0 configure = ok\n1 a.2 encode = ok\n"
    ++ codes "2 start 0.0\n3 done 0.0 1 ran 0\n4 turn unblock\n5 turn process\n"
    ++ codes "6 start 0.1\n7 done 0.1 2 ran 1\n8 turn dequeue\n  dequeue\n"
    ++ codes "9 turn output\n  output chunk key 0 250 01000200\n  config pcm-s16 8000 1 -\n10 a.4 take = 0\n"

abbrev pub pool_part : List ℕ
pool_part = codes "pool\n0 a.1 make 0 0\n1 e.1 clone 0 1\n2 a.3 end 0 0 kept\n3 e.7 end 0 1 gone\n"

abbrev pub encoding_text : List ℕ
encoding_text =
    codes "wcrun report 1\n" ++ caller_part ++ codec_part ++ pool_part ++ codes "slots\n0 e.2 acquire encode:pcm-s16 0\nheld 0\nend\n"

-- The script's order makes what was recorded; the codec's history is legal, shows what stands beside its entries, and no
-- reference is left; and the report is this text.
abbrev pub EncodingFollows : Type 0
EncodingFollows = FollowsTheOrder encoding_script [] (coder ∷ []) encoding_run

abbrev pub EncodingIsLegal : Type 0
EncodingIsLegal = IsLegalRun encoding_script encoding_run

abbrev pub EncodingReport : Type 0
EncodingReport = report_of encoding_script encoding_run ≡ encoding_text
