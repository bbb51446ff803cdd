-- Names of steps, entries, looks, items and coders. A number that names nothing has the empty name.
use Rattle.std.specs.Prelude.{ℕ, List, [], codes, decimal, option_map, unwrap_or}
use Rattle.std.specs.List.{slice_get}
use Rattle.wc_base.specs.declared.who.Who.{Who}
use Rattle.wc_base.specs.declared.who.By.{By}
use Rattle.wc_base.specs.declared.who.By.TheVariants as by
use Rattle.wc_config.specs.declared.codec.CoderId.{CoderId}
use Rattle.script_types.specs.declared.script.ScriptData.{ScriptData}
use Rattle.script_types.specs.declared.script.CodecItem.{CodecItem}
use Rattle.script_types.specs.declared.script.CallerItem.{CallerItem}
use Rattle.report_text.specs.Words.{◌<>◌, codec_text, role_text}

abbrev pub codec_name : List CodecItem → ℕ → List ℕ
codec_name codecs n = unwrap_or (option_map (λ c. c.name) (slice_get codecs n)) []

abbrev pub caller_name : List CallerItem → ℕ → List ℕ
caller_name callers n = unwrap_or (option_map (λ c. c.name) (slice_get callers n)) []

-- `A.J`: a caller's step
abbrev pub who_text : List CallerItem → Who → List ℕ
who_text callers who = caller_name callers who.caller <> codes "." <> decimal who.step

-- `K.N`: a codec's entry
abbrev pub entry_name : List CodecItem → ℕ → ℕ → List ℕ
entry_name codecs n place = codec_name codecs n <> codes "." <> decimal place

-- `K:L`: a look at a codec after so many entries
abbrev pub look_name : List CodecItem → ℕ → ℕ → List ℕ
look_name codecs n length = codec_name codecs n <> codes ":" <> decimal length

abbrev pub by_text : ScriptData → By → List ℕ
by_text script (by.Caller who) = who_text script.callers who
by_text script (by.Codec n place) = entry_name script.codecs n place

-- `E.K`: an item of an epoch
abbrev pub item_text : ℕ → ℕ → List ℕ
item_text epoch item = decimal epoch <> codes "." <> decimal item

-- `decode:pcm-s16`
abbrev pub coder_text : CoderId → List ℕ
coder_text id = role_text id.role <> codes ":" <> codec_text id.codec
