-- The words of a report, and how texts are put together.
use Rattle.std.specs.Prelude.{ℕ, Bool, true, false, List, [], ◌∷◌, ◌++◌, codes, Option, Some, None}
use Rattle.wc_base.specs.declared.error.DomError.{DomError}
use Rattle.wc_base.specs.declared.error.DomError.TheVariants as dom
use Rattle.wc_base.specs.declared.media.SampleFormat.{SampleFormat}
use Rattle.wc_base.specs.declared.media.SampleFormat.TheVariants as sample
use Rattle.wc_base.specs.declared.media.PictureFormat.{PictureFormat}
use Rattle.wc_base.specs.declared.media.PictureFormat.TheVariants as picture
use Rattle.wc_config.specs.declared.codec.CodecId.{CodecId}
use Rattle.wc_config.specs.declared.codec.CodecId.TheVariants as codec
use Rattle.wc_config.specs.declared.codec.Role.{Role}
use Rattle.wc_config.specs.declared.codec.Role.TheVariants as role
use Rattle.codec_model.specs.declared.entry.CodecState.{CodecState}
use Rattle.codec_model.specs.declared.entry.CodecState.TheVariants as state
use Rattle.report_text.specs.declared.line.CallWord.{CallWord}
use Rattle.report_text.specs.declared.line.CallWord.TheVariants as call

-- one text after another; it groups to the right
infixr 65 ◌<>◌
abbrev pub ◌<>◌ : List ℕ → List ℕ → List ℕ
a <> b = a ++ b

abbrev pub error_name : DomError → List ℕ
error_name dom.Abort = codes "AbortError"
error_name dom.InvalidState = codes "InvalidStateError"
error_name dom.NotSupported = codes "NotSupportedError"
error_name dom.Encoding = codes "EncodingError"
error_name dom.Data = codes "DataError"
error_name dom.DataClone = codes "DataCloneError"
error_name dom.QuotaExceeded = codes "QuotaExceededError"
error_name dom.TypeErr = codes "TypeError"
error_name dom.RangeErr = codes "RangeError"
error_name dom.OutOfMemory = codes "OutOfMemory"

-- `ok` or an error
abbrev pub answer_text : Option DomError → List ℕ
answer_text None = codes "ok"
answer_text (Some error) = error_name error

abbrev pub state_text : CodecState → List ℕ
state_text state.Unconfigured = codes "unconfigured"
state_text state.Configured = codes "configured"
state_text state.Closed = codes "closed"

abbrev pub call_word : CallWord → List ℕ
call_word call.Configure = codes "configure"
call_word call.Decode = codes "decode"
call_word call.Encode = codes "encode"
call_word call.Flush = codes "flush"
call_word call.Reset = codes "reset"
call_word call.Close = codes "close"

-- all of them
abbrev pub call_words : List CallWord
call_words = call.Configure ∷ call.Decode ∷ call.Encode ∷ call.Flush ∷ call.Reset ∷ call.Close ∷ []

abbrev pub sample_format_text : SampleFormat → List ℕ
sample_format_text sample.U8 = codes "u8"
sample_format_text sample.S16 = codes "s16"
sample_format_text sample.S32 = codes "s32"
sample_format_text sample.U8Planar = codes "u8-planar"
sample_format_text sample.S16Planar = codes "s16-planar"
sample_format_text sample.S32Planar = codes "s32-planar"

abbrev pub picture_format_text : PictureFormat → List ℕ
picture_format_text picture.I420 = codes "I420"
picture_format_text picture.I422 = codes "I422"
picture_format_text picture.I444 = codes "I444"
picture_format_text picture.Nv12 = codes "NV12"

abbrev pub codec_text : CodecId → List ℕ
codec_text codec.PcmU8 = codes "pcm-u8"
codec_text codec.PcmS16 = codes "pcm-s16"
codec_text codec.PcmS24 = codes "pcm-s24"
codec_text codec.PcmS32 = codes "pcm-s32"
codec_text codec.Alaw = codes "alaw"
codec_text codec.Ulaw = codes "ulaw"
codec_text codec.Flac = codes "flac"
codec_text codec.RawI420 = codes "x-raw-i420"
codec_text codec.RawI422 = codes "x-raw-i422"
codec_text codec.RawI444 = codes "x-raw-i444"
codec_text codec.RawNv12 = codes "x-raw-nv12"

abbrev pub role_text : Role → List ℕ
role_text role.Decode = codes "decode"
role_text role.Encode = codes "encode"

abbrev pub chunk_type_text : Bool → List ℕ
chunk_type_text true = codes "key"
chunk_type_text false = codes "delta"
