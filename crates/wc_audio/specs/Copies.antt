-- What a copy of audio data writes, and how many bytes that takes (W3C WebCodecs, AudioData, `allocationSize`, `copyTo` and
-- 'Compute Copy Element Count'; conversions between formats of integers are our choice).
use Rattle.std.specs.Prelude.{ℕ, ◌≡◌, ◌≤◌, ◌+◌, ◌-◌, ◌*◌, ◌^◌, ◌==◌, ◌&&◌, not, nat_lt, nat_le, Bool, true, false, List, [], Option, Some, None, is_none, unwrap_or, Result, Ok, Err, if◌then◌else◌}
use Rattle.wc_base.specs.declared.error.DomError.{DomError}
use Rattle.wc_base.specs.declared.error.DomError.TheVariants as dom
use Rattle.wc_base.specs.declared.media.SampleFormat.{SampleFormat}
use Rattle.wc_base.specs.declared.media.SampleFormat.TheVariants as format
use Rattle.wc_base.specs.declared.media.SoundShape.{SoundShape}
use Rattle.codec_definitions.specs.Pcm.{format_size, is_planar}
use Rattle.sample_conversion.specs.Layouts.{channel_of, frames_of}
use Rattle.wc_audio.specs.Sound.{Sound, content_of}
use Rattle.wc_audio.specs.declared.options.CopyFormat.{CopyFormat}
use Rattle.wc_audio.specs.declared.options.CopyFormat.TheVariants as copy
use Rattle.wc_audio.specs.declared.options.CopyOptions.{CopyOptions}
use Rattle.wc_audio.specs.declared.options.Plan.{Plan}

abbrev pub is_planar_copy : CopyFormat → Bool
is_planar_copy copy.U8Planar = true
is_planar_copy copy.S16Planar = true
is_planar_copy copy.S32Planar = true
is_planar_copy copy.F32Planar = true
is_planar_copy _ = false

-- the format of samples that are integers; none of floats, which are not supported
abbrev pub integer_format : CopyFormat → Option SampleFormat
integer_format copy.U8 = Some format.U8
integer_format copy.S16 = Some format.S16
integer_format copy.S32 = Some format.S32
integer_format copy.U8Planar = Some format.U8Planar
integer_format copy.S16Planar = Some format.S16Planar
integer_format copy.S32Planar = Some format.S32Planar
integer_format copy.F32 = None
integer_format copy.F32Planar = None

abbrev pub own_format : SampleFormat → CopyFormat
own_format format.U8 = copy.U8
own_format format.S16 = copy.S16
own_format format.S32 = copy.S32
own_format format.U8Planar = copy.U8Planar
own_format format.S16Planar = copy.S16Planar
own_format format.S32Planar = copy.S32Planar

-- so many frames from one on, refused where they are not there; without a count all that are left
abbrev pub frames_plan : SoundShape → CopyOptions → Option SampleFormat → Result Plan DomError
frames_plan shape o None = Err dom.NotSupported
frames_plan shape o (Some f) =
    if nat_le shape.frames o.offset then Err dom.RangeErr
    else if nat_lt (shape.frames - o.offset) (unwrap_or o.count (shape.frames - o.offset)) then Err dom.RangeErr
    else Ok (record { format = f; plane = o.plane; offset = o.offset; count = unwrap_or o.count (shape.frames - o.offset) })

-- what a copy in a format takes, or its first refusal: interleaved data has one plane, planar data one a channel
abbrev pub format_plan : CopyFormat → SoundShape → CopyOptions → Result Plan DomError
format_plan f shape o =
    if not (is_planar_copy f) && not (o.plane == 0) then Err dom.RangeErr
    else if is_planar_copy f && nat_le shape.channels o.plane then Err dom.RangeErr
    else frames_plan shape o (integer_format f)

-- without a format it is the data's own
abbrev pub plan_in : SoundShape → CopyOptions → Result Plan DomError
plan_in shape o = format_plan (unwrap_or o.format (own_format shape.format)) shape o

-- what a copy of data takes, or its first refusal
abbrev pub plan_of : Sound → CopyOptions → Result Plan DomError
plan_of s o = if is_none s.held then Err dom.InvalidState else plan_in s.shape o

-- samples of each frame that are copied
abbrev pub width_of : SoundShape → Plan → ℕ
width_of shape p = if is_planar p.format then 1 else shape.channels

-- bytes of a copy
abbrev pub copy_size : SoundShape → Plan → ℕ
copy_size shape p = format_size p.format * width_of shape p * p.count

abbrev pub size_in : SoundShape → Result Plan DomError → Result ℕ DomError
size_in shape (Err e) = Err e
size_in shape (Ok p) = if nat_lt (copy_size shape p) (2 ^ 64) then Ok (copy_size shape p) else Err dom.RangeErr

-- how many bytes a copy writes, or its first refusal
abbrev pub allocation_size : Sound → CopyOptions → Result ℕ DomError
allocation_size s o = size_in s.shape (plan_of s o)

-- the bytes of a copy: one channel's samples, or all channels' frame by frame, each in the format of the copy
abbrev pub copy_of : SoundShape → List ℕ → Plan → List ℕ
copy_of shape bytes p =
    if is_planar p.format then channel_of (format_size p.format) shape bytes p.plane p.offset p.count
    else frames_of (format_size p.format) shape bytes p.offset p.count

-- a copy into so many bytes, which 64 bits count, or its first refusal
abbrev pub copy_into : SoundShape → List ℕ → ℕ → Result Plan DomError → Result (List ℕ) DomError
copy_into shape bytes room (Err e) = Err e
copy_into shape bytes room (Ok p) = if nat_lt room (copy_size shape p) then Err dom.RangeErr else Ok (copy_of shape bytes p)

abbrev pub copied_audio : Sound → ℕ → CopyOptions → Result (List ℕ) DomError
copied_audio s room o = copy_into s.shape (unwrap_or (content_of s) []) room (plan_of s o)

-- the frames and the plane of a plan are there
pub record IsPlanOf (shape : SoundShape) (p : Plan) : Type 0 where
  pub frames : p.offset + p.count ≤ shape.frames
  pub plane : is_planar p.format ≡ true → p.plane + 1 ≤ shape.channels
