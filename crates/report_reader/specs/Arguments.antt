-- The arguments of the entries that a report tells: those of the callers' steps.
use Rattle.std.specs.Prelude.{ℕ, zero, suc, ◌+◌, ◌==◌, Bool, true, false, List, [], ◌∷◌, slice_get, Option, Some, None, option_map, option_and_then, unwrap_or, length, if◌then◌else◌}
use Rattle.std.specs.List.{list_any}
use Rattle.std.specs.Option.{option_or}
use Rattle.wc_base.specs.declared.error.DomError.{DomError}
use Rattle.wc_base.specs.declared.error.DomError.TheVariants as dom
use Rattle.wc_base.specs.declared.who.Who.{Who}
use Rattle.wc_base.specs.declared.ground.Ground.{Ground}
use Rattle.wc_base.specs.Grounds.{same_ground}
use Rattle.wc_chunk.specs.declared.chunk.Chunk.{Chunk}
use Rattle.wc_pool.specs.declared.entry.PoolEntry.{PoolEntry}
use Rattle.wc_pool.specs.declared.entry.PoolOp.{PoolOp}
use Rattle.wc_pool.specs.declared.entry.PoolOp.TheVariants as op
use Rattle.codec_definitions.specs.declared.unit.Unit as media
use Rattle.codec_model.specs.declared.entry.Pair.{Pair}
use Rattle.codec_model.specs.declared.entry.Handed.{Handed}
use Rattle.codec_model.specs.declared.entry.Handed.TheVariants as handed
use Rattle.codec_model.specs.declared.entry.Call.{Call}
use Rattle.codec_model.specs.declared.entry.Call.TheVariants as call
use Rattle.codec_model.specs.declared.entry.Entry.{Entry}
use Rattle.codec_model.specs.declared.entry.Entry.TheVariants as entry
use Rattle.codec_accounts.specs.Owed.{at}
use Rattle.script_types.specs.declared.script.ScriptData.{ScriptData}
use Rattle.script_types.specs.declared.steps.Step.{Step}
use Rattle.script_types.specs.declared.steps.Step.TheVariants as step
use Rattle.script_types.specs.declared.steps.MediaStep.TheVariants as on_media
use Rattle.report_text.specs.declared.result.StepResult.{StepResult}
use Rattle.report_text.specs.declared.result.StepResult.TheVariants as result
use Rattle.report_text.specs.declared.line.CallWord.{CallWord}
use Rattle.report_text.specs.declared.line.CallWord.TheVariants as word
use Rattle.report_text.specs.declared.line.EntryLine.{EntryLine}
use Rattle.report_text.specs.declared.line.EntryLine.TheVariants as entry_line
use Rattle.media_accounts.specs.Accounts.{is_by_entry}
use Rattle.codec_model.specs.declared.entry.Content.{Content}
use Rattle.media_accounts.specs.Contents.{From, bytes_kept, chunk_of_init, chunk_of_unit, content_before, kept_before}
use Rattle.media_variables.specs.Variables.{steps_in}
use Rattle.script_types.specs.declared.steps.InitData.{InitData}
use Rattle.script_types.specs.declared.steps.InitData.TheVariants as init_data
use Rattle.run_model.specs.declared.run.CallerTrace.{CallerTrace}
use Rattle.run_model.specs.Recorded.{steps_of, chunk_at}
use Rattle.report_reader.specs.declared.known.Known.{Known}

-- ---- outputs that were taken

-- the results of the caller with this number
abbrev pub results_of : List CallerTrace → ℕ → List StepResult
results_of [] c = []
results_of (t ∷ ts) zero = t.results
results_of (t ∷ ts) (suc c) = results_of ts c

-- the output that a step with this result took, if it took one
abbrev pub output_of : List (List media.Unit) → Option StepResult → Option media.Unit
output_of outputs (Some (result.Unit k place n)) = slice_get (at k outputs) n
output_of outputs _ = None

-- the output that this step of a caller took, if it took one
abbrev pub taken_in : Known → ℕ → ℕ → Option media.Unit
taken_in known c j = output_of known.outputs (slice_get (results_of known.callers c) j)

-- ---- media that are there, and that are detached

-- a step that is answered without an exception
abbrev pub is_ok : StepResult → Bool
is_ok (result.Local None) = true
is_ok _ = false

-- a step with this result gives its variable something
abbrev pub gives : StepResult → Bool
gives (result.Unit k place n) = true
gives (result.From who) = true
gives answer = is_ok answer

-- whether the step with this number gave its variable something
abbrev pub is_given : List StepResult → ℕ → Bool
is_given results j = elim (slice_get results j) [ None ↦ false | Some answer ↦ gives answer ]

-- the variables, by the steps that define them, whose references a step that is answered without an exception hands on or ends
abbrev pub detached_in : Step → List ℕ
detached_in (step.Media (on_media.Transfer of bind)) = of.step ∷ []
detached_in (step.Media (on_media.CloseData of)) = of.step ∷ []
detached_in (step.Media (on_media.Post to content)) = content.step ∷ []
detached_in (step.Media (on_media.Buffered bind i)) = steps_in i.transfer
detached_in x = []

-- those whose references the step with this number handed on or ended
abbrev pub detached_by : List Step → List StepResult → ℕ → List ℕ
detached_by steps results i =
    unwrap_or (option_and_then (λ x. option_map (λ answer. if is_ok answer then detached_in x else []) (slice_get results i)) (slice_get steps i)) []

-- whether one of the first n steps detached the medium of the variable that step j defines
abbrev pub is_detached : List Step → List StepResult → ℕ → ℕ → Bool
is_detached steps results zero j = false
is_detached steps results (suc n) j = if is_detached steps results n j then true else list_any (λ i. i == j) (detached_by steps results n)

-- ---- what was received

-- the variable that a post hands on, by the step that defines it
abbrev pub posted_in : Step → Option ℕ
posted_in (step.Media (on_media.Post to content)) = Some content.step
posted_in x = None

-- the step whose post a step with this result received
abbrev pub poster_of : Option StepResult → Option Who
poster_of (Some (result.From who)) = Some who
poster_of _ = None

-- what a step posted, where `from` has what is given to the steps of each caller
abbrev pub posted_by : ScriptData → (ℕ → ℕ → From) → Who → Option Content
posted_by script from who =
    let steps = steps_of script who.caller in
    option_and_then (content_before steps (from who.caller) who.step) (option_and_then posted_in (slice_get steps who.step))

-- What is given to the steps of a caller from elsewhere: the outputs that they took, and what they received. A received medium is what its
-- post handed on, which may have been received in turn; `depth` says how often.
abbrev pub from_in : ScriptData → Known → ℕ → ℕ → ℕ → From
from_in script known zero c j = record { taken = taken_in known c j; received = None }
from_in script known (suc depth) c j = record {
  taken = taken_in known c j;
  received = option_and_then (posted_by script (from_in script known depth)) (poster_of (slice_get (results_of known.callers c) j));
}

-- how many results there are
abbrev pub results_in : List CallerTrace → ℕ
results_in [] = 0
results_in (t ∷ ts) = length t.results + results_in ts

-- so often at most: each received medium was received by a step of its own
abbrev pub depth_of : Known → ℕ
depth_of known = results_in known.callers

-- ---- arguments

-- the bytes that an init has, of these steps' buffers, before the step with this number
abbrev pub bytes_told : List Step → List StepResult → (ℕ → From) → ℕ → InitData → List ℕ
bytes_told steps results from n (init_data.Hex bytes) = bytes
bytes_told steps results from n (init_data.Buffer v) = if is_detached steps results n v.step then [] else bytes_kept (kept_before steps from n v.step)

-- the chunk that the init of a step makes, if it makes one
abbrev pub chunk_told : List Step → List StepResult → (ℕ → From) → ℕ → Step → Option Chunk
chunk_told steps results from n (step.Media (on_media.Buffered bind i)) = chunk_of_init i.shape (bytes_told steps results from n i.content)
chunk_told steps results from n x = None

-- a step that was refused makes none
abbrev pub chunk_made_by : List Step → List StepResult → (ℕ → From) → ℕ → Option Chunk
chunk_made_by steps results from j = if is_given results j then option_and_then (chunk_told steps results from j) (slice_get steps j) else None

-- the chunk of the variable that the step with this number defines: made, taken from a chunk file, or taken from an encoder
abbrev pub chunk_found : List (List Chunk) → List Step → List StepResult → (ℕ → From) → ℕ → Option Chunk
chunk_found media steps results from j =
    option_or (chunk_at media steps j) (option_or (option_and_then chunk_of_unit (from j).taken) (chunk_made_by steps results from j))

-- the resource and the reference of a clone
abbrev pub cloned : PoolOp → Option Pair
cloned (op.Make r f) = None
cloned (op.Clone r f) = Some (record { resource = r; reference = f })
cloned (op.End r f last) = None

-- those of the clone that the codec with this number made by its entry at this place, if the pool's entry is one
abbrev pub cloned_by : ℕ → ℕ → PoolEntry → Option Pair
cloned_by k place e = if is_by_entry k place e.by then cloned e.op else None

-- those of the first such clone
abbrev pub pair_for : ℕ → ℕ → List PoolEntry → Option Pair
pair_for k place [] = None
pair_for k place (e ∷ es) = option_or (cloned_by k place e) (pair_for k place es)

abbrev pub clone_of : Option Content → Option Pair → Option Handed
clone_of (Some c) (Some p) = Some (handed.Cloned (record { shape = c.shape; bytes = c.bytes; pair = p }))
clone_of _ _ = None

-- ---- encodes

-- What became of an encode's medium, where it is there: it is gone where it is detached, whatever the exception is; else the exception
-- says that the codec is not configured, or the codec made a clone.
abbrev pub handed_for : Bool → Bool → Option DomError → Option Handed → Option Handed
handed_for false gone error clone = None
handed_for true true error clone = Some handed.Gone
handed_for true false None clone = clone
handed_for true false (Some dom.InvalidState) clone = Some handed.Kept
handed_for true false (Some error) clone = None

-- what became of the medium of the variable that the step with this number defines, for an encode with this exception at this place
-- of the codec with this number
abbrev pub handed_in : ScriptData → Known → List Step → ℕ → ℕ → Who → Option DomError → ℕ → Option Handed
handed_in script known steps k place who error j =
    let results = results_of known.callers who.caller in
    let clone = clone_of (content_before steps (from_in script known (depth_of known) who.caller) who.step j) (pair_for k place known.pool) in
    handed_for (is_given results j) (is_detached steps results who.step j) error clone

-- the call of this word and exception with the arguments of a step of its caller's steps, if the step makes such a call. `media` has
-- the chunks of each of the script's chunk files
abbrev pub call_of : ScriptData → List (List Chunk) → Known → List Step → ℕ → ℕ → Who → CallWord → Option DomError → Step → Option Call
call_of script media known steps k place who word.Configure error (step.Configure on config) = Some (call.Configure config)
call_of script media known steps k place who word.Decode error (step.Decode on chunk) =
    option_map (λ c. call.Decode c) (chunk_found media steps (results_of known.callers who.caller) (from_in script known (depth_of known) who.caller) chunk.step)
call_of script media known steps k place who word.Encode error (step.Media (on_media.Encode on content)) =
    option_map (λ h. call.Encode h) (handed_in script known steps k place who error content.step)
call_of script media known steps k place who word.Flush error (step.Flush on bind) = Some call.Flush
call_of script media known steps k place who word.Reset error (step.Reset on) = Some call.Reset
call_of script media known steps k place who word.Close error (step.Close on) = Some call.Close
call_of script media known steps k place who _ error _ = None

-- the take of the output with this number, if the step takes one
abbrev pub take_of : ℕ → Step → Option Call
take_of n (step.Media (on_media.Take on bind kind)) = Some (call.Take n)
take_of n _ = None

-- the call that tells this ground, if the step tells it
abbrev pub ground_of : Ground → Step → Option Call
ground_of to (step.Ground on own) = if same_ground own to then Some (call.Ground to) else None
ground_of to _ = None

-- the entry of the call that a caller's step makes
abbrev pub made_by : ScriptData → Who → (Step → Option Call) → Option Entry
made_by script who made = option_map (λ x. entry.Call who x) (option_and_then made (slice_get (steps_of script who.caller) who.step))

-- the entry that is told at this place of the codec with this number, with the arguments of its step
abbrev pub entry_of : ScriptData → List (List Chunk) → Known → ℕ → ℕ → EntryLine → Option Entry
entry_of script media known k place (entry_line.Call who called error) =
    made_by script who (call_of script media known (steps_of script who.caller) k place who called error)
entry_of script media known k place (entry_line.Take who n) = made_by script who (take_of n)
entry_of script media known k place (entry_line.Ground who to) = made_by script who (ground_of to)
entry_of script media known k place (entry_line.Start epoch item) = Some (entry.Start epoch item)
entry_of script media known k place (entry_line.Done epoch item moment outcome) = Some (entry.Done epoch item moment outcome)
entry_of script media known k place (entry_line.Turn task) = Some entry.Turn
entry_of script media known k place (entry_line.Reclaim moment) = Some (entry.Reclaim moment)
