-- What is spelled is within its types.
use Rattle.std.proofs.Common.{◌≡◌, ◌<◌, ◌≤◌, ◌^◌, ◌&&◌, ℕ, zero, suc, nat_le, true, arith, List, [], ◌∷◌, Option, Some, None, subst}
use Rattle.std.specs.Prelude.{unwrap_or}
use Rattle.std.specs.Option.{IfSome}
use Rattle.std.specs.List.{AllByRecursion, list_all, slice_get, sum_by}
use Rattle.std.proofs.lemmas.Bool.{and_parts, leb-true}
use Rattle.json_data.specs.View.{value_of}
use Rattle.wc_base.specs.{Options.some_same}
use Rattle.wc_chunk.specs.declared.chunk.Chunk.{Chunk}
use Rattle.wc_config.specs.declared.{config.Config.Config}
use Rattle.script_types.specs.declared.{script.ScriptData.ScriptData, script.OrderItem.OrderItem, steps.Step.Step}
use Rattle.script_types.specs.declared.steps.{ChunkInit.ChunkInit, ChunkSource.ChunkSource, InitShape.InitShape, InitData.InitData}
use Rattle.script_types.specs.Sound.{is_sound, are_small, bytes_of_caller, bytes_of_step, most_chunk, most_media}
use Rattle.script_types.specs.SoundLaws.{parts_of, all_at as test_at}
use Rattle.script_steps.specs.Within.{Is32Bits, HasSmallNumbers, IsSmallShape, IsSmallData, IsSmallChunk as IsSmallInit, IsSmallSource, IsStepWithin}
use Rattle.wc_script.specs.Laws.{ScriptsAreSound}
use Rattle.wc_script.specs.Within.{HasSmallMoment, HasSmallSteps, IsScriptWithin, ScriptsAreWithin}
use Rattle.media_files.specs.Within.{MediaAreWithin}
use Rattle.wc_demux.specs.Within.{IsSmallChunk}
use Rattle.codec_accounts.specs.Owed.{at}
use Rattle.report_lines.specs.FieldLaws.{FitsOrAbsent}
use Rattle.run_model.specs.Recorded.{steps_of, chunk_of, chunk_from, chunk_by}
use Rattle.run_ranges.specs.{Counts.caller_of_step, Counts.all_at}
use Rattle.run_ranges.specs.Ranges.{IsMoment, IsSizeWithin, IsConfigWithin, IsChunkWithin, IsInitWithin, IsDataWithin}
use Rattle.bytes_laws.specs.Runs.{SpelledIsWithin}
use Rattle.bytes_laws.proofs.Same.{sound}

moment : (x : OrderItem) → HasSmallMoment x → IsMoment x
moment (OrderItem.Caller c) h = tt
moment (OrderItem.Start k) h = tt
moment (OrderItem.Done k m) h = h
moment (OrderItem.Turn k) h = tt
moment (OrderItem.Reclaim k m) h = h

moment_at : (o : Option (List OrderItem)) → IfSome o (λ items. AllByRecursion HasSmallMoment items) → (i : ℕ) (x : OrderItem) → slice_get (unwrap_or o []) i ≡ Some x → IsMoment x
moment_at None h i x is = absurd cc
moment_at (Some items) h i x is = moment x (all_at HasSmallMoment items i x h is)

size : (o : Option ℕ) → IfSome o Is32Bits → IsSizeWithin o
size None h = tt
size (Some n) h = h

config : (c : Config) → HasSmallNumbers c → IsConfigWithin c
config (Config.AudioDecoder c) h = h
config (Config.AudioEncoder c) h = h
config (Config.VideoDecoder c) h = (size c.width h.0, size c.height h.1)
config (Config.VideoEncoder c) h = tt
config Config.Bad h = tt

fits : (o : Option ℕ) → IfSome o (λ n. n < 2 ^ 64) → FitsOrAbsent o
fits None h k is = absurd cc
fits (Some n) h k is = subst (λ (m : ℕ). m < 2 ^ 64) (some_same n k is) h

of_init : (i : ChunkInit) → IsSmallInit i → IsChunkWithin (chunk_of i)
of_init i h = (h.timestamp, fits i.duration h.duration, h.content)

of_file : (c : Chunk) → IsSmallChunk c → IsChunkWithin c
of_file c h = (h.timestamp, fits c.duration h.duration, h.content)

-- what holds of all chunks of all files holds of those of one
file_at : (n : ℕ) (media : List (List Chunk)) → AllByRecursion (AllByRecursion IsSmallChunk) media → AllByRecursion IsSmallChunk (at n media)
file_at n [] h = tt
file_at zero (cs ∷ media) h = h.0
file_at (suc n) (cs ∷ media) h = file_at n media h.1

from_source : (media : List (List Chunk)) → AllByRecursion (AllByRecursion IsSmallChunk) media → (source : ChunkSource) → IsSmallSource source → (c : Chunk) → chunk_from media source ≡ Some c → IsChunkWithin c
from_source media all (ChunkSource.Init None) h c is = absurd cc
from_source media all (ChunkSource.Init (Some i)) h c is = subst IsChunkWithin (some_same (chunk_of i) c is) (of_init i h)
from_source media all (ChunkSource.File file index) h c is = of_file c (all_at IsSmallChunk (at file media) index c (file_at file media all) is)

from_step : (media : List (List Chunk)) → AllByRecursion (AllByRecursion IsSmallChunk) media → (x : Step) → IsStepWithin x → (c : Chunk) → chunk_by media x ≡ Some c → IsChunkWithin c
from_step media all (Step.Chunk bind source) h c is = from_source media all source h c is
from_step media all x h c is = absurd cc

step_at : (s : ScriptData) → IsScriptWithin s → (c j : ℕ) (x : Step) → slice_get (steps_of s c) j ≡ Some x → IsStepWithin x
step_at s h c j x is =
    let k = caller_of_step s.callers c j x is in
    all_at IsStepWithin k.0.steps j x (all_at HasSmallSteps s.callers c k.0 h.callers k.1) k.2

init : (shape : InitShape) → IsSmallShape shape → IsInitWithin shape
init (InitShape.Chunk key timestamp duration) h = (h.0, fits duration h.1)
init (InitShape.Sound shape) h = h
init (InitShape.Picture shape) h = (h.0, fits shape.duration h.1)

data_of : (content : InitData) → IsSmallData content → IsDataWithin content
data_of (InitData.Hex bytes) h = h
data_of (InitData.Buffer v) h = tt

-- no step of a sound script has more inline data than the limit
small_at : (s : ScriptData) → is_sound s ≡ true → (c j : ℕ) (x : Step) → slice_get (steps_of s c) j ≡ Some x → bytes_of_step x ≤ most_chunk
small_at s sound c j x is =
    let k = caller_of_step s.callers c j x is in
    let all = (and_parts (list_all are_small s.callers) (nat_le (sum_by bytes_of_caller s.callers) s.inline && nat_le s.inline most_media) (parts_of s sound).small).0 in
    let own = test_at are_small s.callers c k.0 all k.1 in
    leb-true (bytes_of_step x) most_chunk (test_at (λ (y : Step). nat_le (bytes_of_step y) most_chunk) k.0.steps j x own k.2)

pub spelled_within : ScriptsAreWithin → ScriptsAreSound → MediaAreWithin → SpelledIsWithin
spelled_within scripts sounds files f bytes s media made is few =
    let h = scripts bytes s is.reads in
    let faultless = sound sounds (value_of bytes) s is.reads in
    let all = files f s media is.hold is.gives in
    record {
      moments = moment_at s.order h.order;
      configs = λ c j on x there. config x (step_at s h c j _ there);
      chunks = λ c j x chunk there by. from_step media all x (step_at s h c j x there) chunk by;
      sounds = λ c j bind init there. let small = step_at s h c j _ there in ((small.frames, small.timestamp), small.content);
      frames = λ c j bind init there. let small = step_at s h c j _ there in ((small.timestamp, fits init.shape.duration small.duration), small.content);
      buffers = λ c j bind content there. let small = small_at s faultless c j _ there in (step_at s h c j _ there, omega (arith, small));
      inits = λ c j bind i there. let small = step_at s h c j _ there in (init i.shape small.0, data_of i.content small.1);
      boxes = few;
    }
