-- Copies of sound in other formats, as C sees them.
use Rattle.std.specs.Prelude.{ℕ, pos, ◌≡◌, ◌<◌, ◌≤◌, ◌+◌, ◌*◌, ◌==◌, ◌||◌, true, List, ◌++◌, drop, length, IsTrue, if◌then◌else◌}
use Rattle.wc_base.specs.declared.media.SampleFormat.{SampleFormat}
use Rattle.wc_base.specs.declared.media.SampleFormat.TheVariants as format
use Rattle.wc_base.specs.declared.media.SoundShape.{SoundShape}
use Rattle.codec_definitions.specs.Pcm.{format_size, is_planar, is_whole}
use Rattle.sample_conversion.specs.Layouts.{channel_of, frames_of}
use Rattle.c_library.specs.declared.copies.Sound.{Sound}
use Rattle.c_library.specs.declared.copies.Part.{Part}
use Rattle.c_library.specs.Status.{done, too_small, invalid}

-- the format of a number
abbrev pub format_numbered : ℕ → SampleFormat
format_numbered n =
    if n == 0 then format.U8
    else if n == 1 then format.S16
    else if n == 2 then format.S32
    else if n == 3 then format.U8Planar
    else if n == 4 then format.S16Planar
    else format.S32Planar

-- the shape of sound; its rate and timestamp do not matter
abbrev pub shape_of : Sound → SoundShape
shape_of s = record { format = format_numbered s.format; rate = 1; channels = s.channels; frames = s.frames; timestamp = pos 0 }

-- how many planes sound has in a part's format
abbrev pub planes_of : Sound → Part → ℕ
planes_of s p = if is_planar (format_numbered p.format) then s.channels else 1

-- how many bytes a part of some sound has
abbrev pub need_of : Sound → Part → ℕ
need_of s p =
    let size = format_size (format_numbered p.format) in
    if is_planar (format_numbered p.format) then size * p.count else size * s.channels * p.count

-- what can be copied: sound of 1 to 32 channels with all its bytes, one of its planes, and frames that it has
pub record CanBeCopied (s : Sound) (bytes : List ℕ) (p : Part) : Type 0 where
  pub format : s.format ≤ 5
  pub other : p.format ≤ 5
  pub some : 1 ≤ s.channels
  pub few : s.channels ≤ 32
  pub frames : p.first + p.count ≤ s.frames
  pub plane : p.plane < planes_of s p
  pub whole : is_whole (shape_of s) bytes ≡ true

-- a part of some sound, in its format
abbrev pub copied : Sound → List ℕ → Part → List ℕ
copied s bytes p =
    let size = format_size (format_numbered p.format) in
    if is_planar (format_numbered p.format)
    then channel_of size (shape_of s) bytes p.plane p.first p.count
    else frames_of size (shape_of s) bytes p.first p.count

-- it stands at the front of some room, and the room behind it is as it was
abbrev pub IsCopied : Sound → List ℕ → Part → List ℕ → List ℕ → Type 0
IsCopied s bytes p old new = (need_of s p ≤ length old) × (new ≡ copied s bytes p ++ drop (need_of s p) old)

-- what a call answers that copies sound
abbrev pub IsCopyStatus : ℕ → Type 0
IsCopyStatus s = IsTrue ((s == done) || (s == too_small) || (s == invalid))
