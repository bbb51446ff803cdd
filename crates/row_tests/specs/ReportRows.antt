-- The ordinary run of one decoder, in which a caller configures, makes a chunk, decodes, flushes and awaits: its script,
-- what was recorded, and the text of its report, as plain data.
use Rattle.std.specs.Prelude.{ℕ, ◌≡◌, true, false, pos, List, [], ◌∷◌, ◌++◌, Some, None, codes}
use Rattle.wc_base.specs.declared.who.By.TheVariants as by
use Rattle.wc_base.specs.declared.media.Samples.{Samples}
use Rattle.wc_base.specs.declared.media.SampleFormat.TheVariants.{S16}
use Rattle.wc_chunk.specs.declared.chunk.Chunk.{Chunk}
use Rattle.wc_pool.specs.declared.entry.PoolEntry.{PoolEntry}
use Rattle.wc_pool.specs.declared.entry.PoolOp.TheVariants as pool
use Rattle.wc_config.specs.declared.codec.CoderId.{CoderId}
use Rattle.wc_config.specs.declared.codec.CodecId.TheVariants.{PcmS16}
use Rattle.wc_config.specs.declared.codec.Role.TheVariants as role
use Rattle.coder_api.specs.declared.slot.SlotEntry.{SlotEntry}
use Rattle.coder_api.specs.declared.slot.SlotOp.TheVariants as slot
use Rattle.codec_model.specs.declared.entry.Call.TheVariants as call
use Rattle.codec_model.specs.declared.entry.Entry.{Entry}
use Rattle.codec_model.specs.declared.entry.Entry.TheVariants as entry
use Rattle.codec_model.specs.declared.entry.Event.{Event}
use Rattle.codec_model.specs.declared.entry.Event.TheVariants as event
use Rattle.codec_model.specs.declared.entry.PromiseState.TheVariants.{Resolved}
use Rattle.codec_model.specs.declared.entry.Shown.{Shown}
use Rattle.codec_model.specs.declared.entry.TurnWord.{TurnWord}
use Rattle.codec_model.specs.declared.entry.TurnWord.TheVariants as turn
use Rattle.codec_model.specs.Shown.{each_shown}
use Rattle.row_tests.specs.CodecRows.{four, pcm, unit, chunk, step_of, ordinary}
use Rattle.script_types.specs.declared.fault.Place.TheVariants as place
use Rattle.script_types.specs.declared.script.ScriptData.{ScriptData}
use Rattle.wc_config.specs.declared.kind.Kind.TheVariants as word
use Rattle.script_types.specs.declared.script.CodecItem.{CodecItem}
use Rattle.script_types.specs.declared.steps.ChunkInit.{ChunkInit}
use Rattle.script_types.specs.declared.steps.ChunkSource.{ChunkSource}
use Rattle.script_types.specs.declared.steps.ChunkSource.TheVariants as source
use Rattle.script_types.specs.declared.steps.VariableKind.TheVariants as holds
use Rattle.script_types.specs.declared.steps.MediaStep.TheVariants as on_media
use Rattle.script_types.specs.declared.steps.Step.{Step}
use Rattle.script_types.specs.declared.steps.Step.TheVariants as step
use Rattle.script_types.specs.declared.script.OrderItem.{OrderItem}
use Rattle.script_types.specs.declared.script.OrderItem.TheVariants as item
use Rattle.run_model.specs.declared.run.Run.{Run}
use Rattle.report_text.specs.declared.result.StepResult.{StepResult}
use Rattle.report_text.specs.declared.result.StepResult.TheVariants as result
use Rattle.run_model.specs.Fits.{FollowsTheOrder, IsLegalRun}
use Rattle.run_model.specs.Missing.{missing_in}
use Rattle.trace_text.specs.Report.{report_of}

-- ---- the script

abbrev pub decoder : CodecItem
decoder = record { name = codes "d"; kind = word.AudioDecoder; saturation = 4 }

abbrev pub init : ChunkInit
init = record { key = true; timestamp = pos 0; duration = None; content = 1 ∷ 0 ∷ 2 ∷ 0 ∷ [] }

-- the caller's steps, with its chunk from this source
abbrev pub steps_with : ChunkSource → List Step
steps_with from =
    step.Configure 0 pcm ∷ step.Chunk (codes "c") from ∷ step.Decode 0 (record { name = codes "c"; step = 1; kind = holds.Chunk })
    ∷ step.Flush 0 (codes "p") ∷ step.Await (record { name = codes "p"; step = 3; kind = holds.Promise }) ∷ []

abbrev pub order : List OrderItem
order =
    item.Caller 0 ∷ item.Caller 0 ∷ item.Caller 0 ∷ item.Caller 0
    ∷ item.Start 0 ∷ item.Done 0 1 ∷ item.Turn 0 ∷ item.Turn 0
    ∷ item.Start 0 ∷ item.Done 0 2 ∷ item.Turn 0 ∷ item.Turn 0
    ∷ item.Start 0 ∷ item.Done 0 3 ∷ item.Turn 0 ∷ item.Caller 0 ∷ []

abbrev pub ordinary_script : ScriptData
ordinary_script = record { codecs = decoder ∷ []; callers = record { name = codes "a"; steps = steps_with (source.Init (Some init)) } ∷ []; order = Some order; chunk_files = []; ports = []; inline = 4 }

-- ---- the run

abbrev pub results : List StepResult
results = result.Call 0 0 None ∷ result.Local None ∷ result.Call 0 1 None ∷ result.Call 0 2 None ∷ result.Look 0 14 Resolved ∷ []

-- an entry that shows nothing, and a turn
abbrev pub quiet : Shown
quiet = record { turn = None; events = [] }

abbrev pub turn_shown : TurnWord → List Event → Shown
turn_shown word events = record { turn = Some word; events = events }

abbrev pub shown : List Shown
shown =
    quiet ∷ quiet ∷ quiet
    ∷ quiet ∷ quiet ∷ turn_shown turn.Unblock [] ∷ turn_shown turn.Process []
    ∷ quiet ∷ quiet ∷ turn_shown turn.Dequeue (event.Dequeue ∷ []) ∷ turn_shown turn.Output (event.Output 0 unit ∷ [])
    ∷ quiet ∷ quiet ∷ turn_shown turn.Flushed (event.Resolve 2 ∷ []) ∷ []

-- the coder that was handed in
abbrev pub coder : CoderId
coder = record { role = role.Decode; codec = PcmS16 }

abbrev pub acquire_entry : SlotEntry
acquire_entry = record { by = by.Codec 0 3; op = slot.Acquire coder 0 }

abbrev pub ordinary_run : Run
ordinary_run = record {
  callers = record { results = results } ∷ [];
  codecs = record { opening = four; entries = ordinary; shown = shown } ∷ [];
  pool = [];
  slots = acquire_entry ∷ [];
  held = 0;
}

-- ---- the report

abbrev pub caller_part : List ℕ
caller_part = codes "caller a\n0 d.0 ok\n1 ok\n2 d.1 ok\n3 d.2 ok\n4 d:14 resolved\n"

abbrev pub codec_part : List ℕ
codec_part =
    codes "codec d audio-decoder 4\n"
    ++ codes "0 a.0 configure = ok\n1 a.2 decode = ok\n2 a.3 flush = ok\n"
    ++ codes "3 start 0.0\n4 done 0.0 1 ran 0\n5 turn unblock\n6 turn process\n"
    ++ codes "7 start 0.1\n8 done 0.1 2 ran 1\n9 turn dequeue\n  dequeue\n"
    ++ codes "10 turn output\n  output audio s16 8000 1 2 0 250 01000200\n"
    ++ codes "11 start 0.2\n12 done 0.2 3 ran 0\n13 turn flushed\n  resolve 2\n"

abbrev pub slot_part : List ℕ
slot_part = codes "0 d.3 acquire decode:pcm-s16 0\n"

abbrev pub ordinary_text : List ℕ
ordinary_text = codes "wcrun report 1\n" ++ caller_part ++ codec_part ++ codes "pool\nslots\n" ++ slot_part ++ codes "held 0\nend\n"

-- The script's order makes what was recorded, the entries show what stands beside them, and the report is this text.
abbrev pub OrdinaryFollows : Type 0
OrdinaryFollows = FollowsTheOrder ordinary_script [] (coder ∷ []) ordinary_run

abbrev pub OrdinaryShown : Type 0
OrdinaryShown = shown ≡ each_shown four ordinary

abbrev pub OrdinaryReport : Type 0
OrdinaryReport = report_of ordinary_script ordinary_run ≡ ordinary_text

-- ---- the same run, with its chunk from a file

abbrev pub file_script : ScriptData
file_script = record {
  codecs = decoder ∷ [];
  callers = record { name = codes "a"; steps = steps_with (source.File 0 1) } ∷ [];
  order = Some order;
  chunk_files = codes "a.chunks" ∷ [];
  ports = [];
  inline = 0;
}

abbrev pub other : Chunk
other = record { key = false; timestamp = pos 250; duration = None; bytes = 3 ∷ 0 ∷ [] }

-- the file's chunks
abbrev pub two_chunks : List Chunk
two_chunks = other ∷ chunk ∷ []

abbrev pub FileFollows : Type 0
FileFollows = FollowsTheOrder file_script (two_chunks ∷ []) (coder ∷ []) ordinary_run

abbrev pub NothingMissing : Type 0
NothingMissing = missing_in file_script (two_chunks ∷ []) ≡ None

-- a file of one chunk lacks the one that is named
abbrev pub SecondMissing : Type 0
SecondMissing = missing_in file_script ((chunk ∷ []) ∷ []) ≡ Some (0, place.Step 0 1)

-- ---- the same run, whose caller then takes the output, and looks for another

-- the samples that the ordinary run showed
abbrev pub sound : Samples
sound = record { shape = record { format = S16; rate = 8000; channels = 1; frames = 2; timestamp = pos 0 }; bytes = 1 ∷ 0 ∷ 2 ∷ 0 ∷ [] }

abbrev pub takes : List Step
takes = step.Media (on_media.Take 0 (codes "o") holds.Audio) ∷ step.Media (on_media.Take 0 (codes "q") holds.Audio) ∷ []

abbrev pub taking_script : ScriptData
taking_script = record {
  codecs = decoder ∷ [];
  callers = record { name = codes "a"; steps = steps_with (source.Init (Some init)) ++ takes } ∷ [];
  order = Some (order ++ item.Caller 0 ∷ item.Caller 0 ∷ []);
  chunk_files = [];
  ports = [];
  inline = 4;
}

abbrev pub taking_history : List Entry
taking_history = ordinary ++ entry.Call (step_of 5) (call.Take 0) ∷ []

abbrev pub taking_results : List StepResult
taking_results = results ++ result.Unit 0 14 0 ∷ result.NoUnit 0 15 ∷ []

-- the output's bytes are those of a new resource
abbrev pub make_entry : PoolEntry
make_entry = record { by = by.Caller (step_of 5); op = pool.Make 0 0 }

abbrev pub taking_run : Run
taking_run = record {
  callers = record { results = taking_results } ∷ [];
  codecs = record { opening = four; entries = taking_history; shown = shown ++ quiet ∷ [] } ∷ [];
  pool = make_entry ∷ [];
  slots = acquire_entry ∷ [];
  held = 1;
}

abbrev pub taking_text : List ℕ
taking_text =
    codes "wcrun report 1\n" ++ caller_part ++ codes "5 d.14 unit 0\n6 d:15 none\n" ++ codec_part ++ codes "14 a.5 take = 0\n"
    ++ codes "pool\n0 a.5 make 0 0\nslots\n" ++ slot_part ++ codes "held 1\nend\n"

abbrev pub TakingFollows : Type 0
TakingFollows = FollowsTheOrder taking_script [] (coder ∷ []) taking_run

-- the codec's history is legal, shows what stands beside its entries, and one reference is held
abbrev pub TakingIsLegal : Type 0
TakingIsLegal = IsLegalRun taking_script taking_run

abbrev pub TakingReport : Type 0
TakingReport = report_of taking_script taking_run ≡ taking_text
