-- A replay: its codecs, its callers and its registry.
use Rattle.std.specs.Prelude.{ℕ, ◌≡◌, ◌<◌, ◌&&◌, nat_le, nat_lt, Bool, true, List, [], map, length, slice_get, Option, Some, None, IfSome}
use Rattle.wc_config.specs.declared.codec.CoderId.{CoderId}
use Rattle.wc_chunk.specs.declared.chunk.Chunk.{Chunk}
use Rattle.script_types.specs.declared.script.OrderItem.{OrderItem}
use Rattle.script_types.specs.declared.script.OrderItem.TheVariants as item
use Rattle.script_types.specs.Sound.{is_sound}
use Rattle.script_types.specs.declared.script.CallerItem.{CallerItem}
use Rattle.script_types.specs.declared.script.CodecItem.{CodecItem}
use Rattle.script_types.specs.declared.script.ScriptData.{ScriptData}
use Rattle.script_types.specs.declared.steps.Step.{Step}
use Rattle.script_types.specs.declared.steps.Step.TheVariants as a_step
use Rattle.script_types.specs.Names.{names_codec}
use Rattle.script_types.specs.declared.steps.MediaStep.{MediaStep}
use Rattle.script_types.specs.declared.steps.MediaStep.TheVariants as on_media
use Rattle.codec_model.specs.Shown.{each_shown}
use Rattle.run_model.specs.declared.run.CallerTrace.{CallerTrace}
use Rattle.run_model.specs.declared.run.CodecTrace.{CodecTrace}
use Rattle.run_model.specs.declared.run.Run.{Run}
use Rattle.report_text.specs.declared.result.StepResult.{StepResult}
use Rattle.report_text.specs.declared.result.StepResult.TheVariants as result
use Rattle.run_model.specs.Fits.{step_in}
use Rattle.codec_accounts.specs.Codec.{CodecValue, new_codec}
use Rattle.run_model.specs.Follow.{order_items, Course, Follows, nothing_yet}
use Rattle.run_model.specs.Recorded.{opening_of}
use Rattle.order_laws.specs.Sound.{IsSound}
use Rattle.wc_pool.specs.Bag.{held_in}

-- an item names one of so many codecs, if it names one
abbrev pub IsInRange : ℕ → OrderItem → Type 0
IsInRange n (item.Caller c) = Unit {0}
IsInRange n (item.Start k) = k < n
IsInRange n (item.Done k moment) = k < n
IsInRange n (item.Turn k) = k < n
IsInRange n (item.Reclaim k moment) = k < n

-- a step names one of so many codecs, if it names one
abbrev pub NamesInRange : ℕ → Step → Type 0
NamesInRange n x = IfSome (names_codec x) (λ k. k < n)

-- a step uses one of so many ports, if it uses one
abbrev pub is_use_within : ℕ → Step → Bool
is_use_within n (a_step.Media (on_media.Post to content)) = nat_lt to n
is_use_within n (a_step.Media (on_media.Receive from bind kind)) = nat_lt from n
is_use_within n _ = true

-- The script is sound, each step's number fits in 32 bits, and every step and every item of the order names one of the codecs, if it
-- names one, and one of the ports.
pub record IsPlayable (s : ScriptData) : Type 0 where
  pub faultless : is_sound s ≡ true
  pub sound : IsSound s
  pub names : (c j : ℕ) (x : Step) → step_in s c j ≡ Some x → NamesInRange (length s.codecs) x
  pub ports : (c j : ℕ) (x : Step) → step_in s c j ≡ Some x → is_use_within (length s.ports) x ≡ true
  pub few : (c j : ℕ) (x : Step) → step_in s c j ≡ Some x → j < 4294967296
  pub items : (i : ℕ) (x : OrderItem) → slice_get (order_items s) i ≡ Some x → IsInRange (length s.codecs) x

-- the codec and the place of a call, if the result is one
abbrev pub call_in : Option StepResult → Option (ℕ × ℕ)
call_in (Some (result.Call k place error)) = Some (k, place)
call_in _ = None

-- the codec and the variable of a step that encodes, if it is one
abbrev pub encoded_by : MediaStep → Option (ℕ × ℕ)
encoded_by (on_media.Encode on content) = Some (on, content.step)
encoded_by _ = None

-- ---- the beginning and the end of a replay

-- a codec's saturation number is one that codecs are opened with
abbrev pub is_openable : CodecItem → Bool
is_openable c = nat_le 1 c.saturation && nat_le c.saturation 64

-- a codec of the script, with an empty history
abbrev pub new_desk : CodecItem → CodecValue
new_desk c = new_codec (opening_of c)

-- a caller of the script, none of whose steps is made
abbrev pub new_results : CallerItem → List StepResult
new_results c = []

abbrev pub trace_of : CodecValue → CodecTrace
trace_of d = record { opening = d.opening; entries = d.history; shown = each_shown d.opening d.history }

abbrev pub caller_trace : List StepResult → CallerTrace
caller_trace results = record { results = results }

-- The run holds what was recorded, and how many media resources have a live reference.
pub record IsRunOf (v : Course) (run : Run) : Type 0 where
  pub callers : run.callers ≡ map caller_trace v.callers
  pub codecs : run.codecs ≡ map trace_of v.codecs
  pub slots : run.slots ≡ v.slots.history
  pub pool : run.pool ≡ v.media.pool
  pub held : run.held ≡ held_in v.media.pool

-- The run holds what following the script's order from its beginning made. `made` has the ids of the coders that were handed in.
pub record IsPlayed (s : ScriptData) (media : List (List Chunk)) (made : List CoderId) (run : Run) : Type 0 where
  pub course : Course
  pub follows : Follows s media (order_items s) (nothing_yet s made) course
  pub holds : IsRunOf course run
