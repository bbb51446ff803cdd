-- Answers as numbers (our choice).
use Rattle.std.specs.Prelude.{ℕ, Option, Some, None}
use Rattle.wc_base.specs.declared.error.DomError.{DomError}
use Rattle.wc_base.specs.declared.error.DomError.TheVariants as dom
use Rattle.wc_base.specs.declared.media.SampleFormat.{SampleFormat}
use Rattle.wc_base.specs.declared.media.SampleFormat.TheVariants as format
use Rattle.codec_model.specs.declared.entry.CodecState.{CodecState}
use Rattle.codec_model.specs.declared.entry.CodecState.TheVariants as phase
use Rattle.codec_model.specs.declared.entry.TurnWord.{TurnWord}
use Rattle.codec_model.specs.declared.entry.TurnWord.TheVariants as turn

abbrev pub done : ℕ
done = 0

abbrev pub refused : ℕ
refused = 1

abbrev pub no_memory : ℕ
no_memory = 2

abbrev pub too_small : ℕ
too_small = 3

abbrev pub invalid : ℕ
invalid = 4

abbrev pub idle : ℕ
idle = 5

abbrev pub not_open : ℕ
not_open = 6

abbrev pub used_up : ℕ
used_up = 7

abbrev pub error_code : DomError → ℕ
error_code dom.Abort = 1
error_code dom.InvalidState = 2
error_code dom.NotSupported = 3
error_code dom.Encoding = 4
error_code dom.Data = 5
error_code dom.DataClone = 6
error_code dom.QuotaExceeded = 7
error_code dom.TypeErr = 8
error_code dom.RangeErr = 9
error_code dom.OutOfMemory = 10

-- 0 where there is none
abbrev pub exception_code : Option DomError → ℕ
exception_code None = 0
exception_code (Some error) = error_code error

-- a call with an exception is refused
abbrev pub status_of : Option DomError → ℕ
status_of None = done
status_of (Some error) = refused

abbrev pub phase_code : CodecState → ℕ
phase_code phase.Unconfigured = 0
phase_code phase.Configured = 1
phase_code phase.Closed = 2

abbrev pub format_code : SampleFormat → ℕ
format_code format.U8 = 0
format_code format.S16 = 1
format_code format.S32 = 2
format_code format.U8Planar = 3
format_code format.S16Planar = 4
format_code format.S32Planar = 5

abbrev pub word_code : Option TurnWord → ℕ
word_code None = 0
word_code (Some turn.Unblock) = 1
word_code (Some turn.Process) = 2
word_code (Some turn.Desaturate) = 3
word_code (Some turn.Output) = 4
word_code (Some turn.Flushed) = 5
word_code (Some turn.Dequeue) = 6
word_code (Some (turn.Close error)) = 7

-- the error of a turn that closed the codec
abbrev pub word_error : Option TurnWord → ℕ
word_error (Some (turn.Close error)) = error_code error
word_error _ = 0
