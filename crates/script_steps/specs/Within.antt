-- What a step that was read holds is within the types that carry it (our choice: 32 and 64 bits, and bytes).
use Rattle.std.specs.Prelude.{◌≡◌, ◌<◌, ◌^◌, ℕ, List, Option, Ok}
use Rattle.std.specs.Option.{IfSome}
use Rattle.std.specs.Int.Signed.{mag}
use Rattle.hex.specs.Hex.{IsBytes}
use Rattle.serde_json.specs.Data.{Data}
use Rattle.wc_config.specs.declared.config.Config.{Config}
use Rattle.wc_config.specs.declared.config.Config.TheVariants as config
use Rattle.script_types.specs.declared.script.CodecItem.{CodecItem}
use Rattle.script_types.specs.declared.script.PortItem.{PortItem}
use Rattle.script_types.specs.declared.steps.InitShape.{InitShape}
use Rattle.script_types.specs.declared.steps.InitShape.TheVariants as shape
use Rattle.script_types.specs.declared.steps.InitData.{InitData}
use Rattle.script_types.specs.declared.steps.InitData.TheVariants as init_data
use Rattle.script_types.specs.declared.steps.ChunkInit.{ChunkInit}
use Rattle.script_types.specs.declared.steps.ChunkSource.{ChunkSource}
use Rattle.script_types.specs.declared.steps.ChunkSource.TheVariants as source
use Rattle.script_types.specs.declared.steps.SoundInit.{SoundInit}
use Rattle.script_types.specs.declared.steps.PictureInit.{PictureInit}
use Rattle.script_types.specs.declared.steps.MediaStep.{MediaStep}
use Rattle.script_types.specs.declared.steps.MediaStep.TheVariants as media
use Rattle.script_types.specs.declared.steps.Step.{Step}
use Rattle.script_types.specs.declared.steps.Step.TheVariants as step
use Rattle.script_steps.specs.Steps.{step_of}

abbrev pub Is32Bits : ℕ → Type 0
Is32Bits n = n < 2 ^ 32

-- a codec's rate, channels and block size, or its width, height and key interval, have 32 bits
abbrev pub HasSmallNumbers : Config → Type 0
HasSmallNumbers (config.AudioDecoder c) = Is32Bits c.rate × Is32Bits c.channels
HasSmallNumbers (config.AudioEncoder c) = Is32Bits c.rate × Is32Bits c.channels × Is32Bits c.block_size
HasSmallNumbers (config.VideoDecoder c) = IfSome c.width Is32Bits × IfSome c.height Is32Bits
HasSmallNumbers (config.VideoEncoder c) = Is32Bits c.width × Is32Bits c.height × Is32Bits c.key_interval
HasSmallNumbers config.Bad = Unit {0}

-- timestamps have 64 bits with their sign, durations 64, and counts of frames 32
abbrev pub IsSmallShape : InitShape → Type 0
IsSmallShape (shape.Chunk key timestamp duration) = (mag timestamp < 2 ^ 63) × IfSome duration (λ n. n < 2 ^ 64)
IsSmallShape (shape.Sound s) = (s.frames < 2 ^ 32) × (mag s.timestamp < 2 ^ 63)
IsSmallShape (shape.Picture p) = (mag p.timestamp < 2 ^ 63) × IfSome p.duration (λ n. n < 2 ^ 64)

abbrev pub IsSmallData : InitData → Type 0
IsSmallData (init_data.Hex bytes) = IsBytes bytes
IsSmallData (init_data.Buffer v) = Unit {0}

-- a chunk's timestamp has 64 bits with its sign, its duration 64, and it holds bytes
pub record IsSmallChunk (i : ChunkInit) : Type 0 where
  pub timestamp : mag i.timestamp < 2 ^ 63
  pub duration : IfSome i.duration (λ n. n < 2 ^ 64)
  pub content : IsBytes i.content

-- as many frames as 32 bits count, a timestamp of 64 bits with its sign, and bytes
pub record IsSmallSound (i : SoundInit) : Type 0 where
  pub frames : i.shape.frames < 2 ^ 32
  pub timestamp : mag i.shape.timestamp < 2 ^ 63
  pub content : IsBytes i.content

-- a timestamp of 64 bits with its sign, a duration of 64, and bytes
pub record IsSmallPicture (i : PictureInit) : Type 0 where
  pub timestamp : mag i.shape.timestamp < 2 ^ 63
  pub duration : IfSome i.shape.duration (λ n. n < 2 ^ 64)
  pub content : IsBytes i.content

abbrev pub IsSmallSource : ChunkSource → Type 0
IsSmallSource (source.Init init) = IfSome init IsSmallChunk
IsSmallSource (source.File file index) = Unit {0}

abbrev pub IsSmallMedia : MediaStep → Type 0
IsSmallMedia (media.Audio bind init) = IfSome init IsSmallSound
IsSmallMedia (media.Frame bind init) = IfSome init IsSmallPicture
IsSmallMedia (media.Buffer bind content) = IsBytes content
IsSmallMedia (media.Buffered bind init) = IsSmallShape init.shape × IsSmallData init.content
IsSmallMedia _ = Unit {0}

-- what the step holds is within its types
abbrev pub IsStepWithin : Step → Type 0
IsStepWithin (step.Configure on config) = HasSmallNumbers config
IsStepWithin (step.Chunk bind source) = IsSmallSource source
IsStepWithin (step.Media m) = IsSmallMedia m
IsStepWithin _ = Unit {0}

abbrev pub StepsAreWithin : Type 0
StepsAreWithin =
    (codecs : List CodecItem) (ports : List (Option PortItem)) (files : List (List ℕ)) (before : List Step) (d : Data) (s : Step) (after : List (List ℕ))
    → step_of codecs ports files before d ≡ Ok (s, after) → IsStepWithin s
