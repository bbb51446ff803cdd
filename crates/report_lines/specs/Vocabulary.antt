-- The words of a report, as they are read: each stands for the value that is written by it.
use Rattle.std.specs.Prelude.{ℕ, Bool, true, false, List, [], ◌∷◌, Option, Some, None, if◌then◌else◌, bytes_eq}
use Rattle.wc_base.specs.declared.error.DomError.{DomError}
use Rattle.wc_base.specs.declared.error.DomError.TheVariants as dom
use Rattle.wc_base.specs.declared.media.SampleFormat.{SampleFormat}
use Rattle.wc_base.specs.declared.media.SampleFormat.TheVariants as sample
use Rattle.wc_base.specs.declared.media.PictureFormat.{PictureFormat}
use Rattle.wc_base.specs.declared.media.PictureFormat.TheVariants as picture
use Rattle.wc_config.specs.declared.codec.CodecId.{CodecId}
use Rattle.wc_config.specs.declared.codec.CodecId.TheVariants as codec
use Rattle.wc_config.specs.declared.codec.Role.{Role}
use Rattle.wc_config.specs.declared.codec.Role.TheVariants as role
use Rattle.codec_model.specs.declared.entry.CodecState.{CodecState}
use Rattle.codec_model.specs.declared.entry.CodecState.TheVariants as state
use Rattle.script_types.specs.Names.{first_named}
use Rattle.report_text.specs.declared.line.CallWord.{CallWord}
use Rattle.report_text.specs.Words.{error_name, answer_text, state_text, call_word, call_words, sample_format_text, picture_format_text, codec_text, role_text, chunk_type_text}
use Rattle.report_text.specs.Text.{last_text}
use Rattle.report_lines.specs.Words.{◌>>=◌}

abbrev pub error_of : List ℕ → Option DomError
error_of w =
    first_named error_name (
    dom.Abort ∷ dom.InvalidState ∷ dom.NotSupported ∷ dom.Encoding ∷ dom.Data
    ∷ dom.DataClone ∷ dom.QuotaExceeded ∷ dom.TypeErr ∷ dom.RangeErr ∷ dom.OutOfMemory ∷ []
    ) w

abbrev pub answer_of : List ℕ → Option (Option DomError)
answer_of w = if bytes_eq w (answer_text None) then Some None else (error_of w >>= λ e. Some (Some e))

abbrev pub state_of : List ℕ → Option CodecState
state_of w = first_named state_text (state.Unconfigured ∷ state.Configured ∷ state.Closed ∷ []) w

abbrev pub call_of : List ℕ → Option CallWord
call_of w = first_named call_word call_words w

abbrev pub sample_format_of : List ℕ → Option SampleFormat
sample_format_of w =
    first_named sample_format_text (sample.U8 ∷ sample.S16 ∷ sample.S32 ∷ sample.U8Planar ∷ sample.S16Planar ∷ sample.S32Planar ∷ []) w

abbrev pub picture_format_of : List ℕ → Option PictureFormat
picture_format_of w = first_named picture_format_text (picture.I420 ∷ picture.I422 ∷ picture.I444 ∷ picture.Nv12 ∷ []) w

-- the codec of a codec string
abbrev pub codec_id_of : List ℕ → Option CodecId
codec_id_of w =
    first_named codec_text (
    codec.PcmU8 ∷ codec.PcmS16 ∷ codec.PcmS24 ∷ codec.PcmS32 ∷ codec.Alaw ∷ codec.Ulaw ∷ codec.Flac
    ∷ codec.RawI420 ∷ codec.RawI422 ∷ codec.RawI444 ∷ codec.RawNv12 ∷ []
    ) w

abbrev pub role_of : List ℕ → Option Role
role_of w = first_named role_text (role.Decode ∷ role.Encode ∷ []) w

abbrev pub key_of : List ℕ → Option Bool
key_of w = first_named chunk_type_text (true ∷ false ∷ []) w

abbrev pub last_of : List ℕ → Option Bool
last_of w = first_named last_text (true ∷ false ∷ []) w
