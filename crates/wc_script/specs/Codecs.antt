-- The codecs of a script.
use Rattle.std.specs.Prelude.{ℕ, ◌+◌, ◌&&◌, nat_le, List, [], ◌∷◌, ◌++◌, codes, if◌then◌else◌, Option, Some, None, option_and_then, Result, Ok, Err}
use Rattle.serde_json.specs.Data.{Data, Items, no_items, item}
use Rattle.serde_json.specs.Find.{get}
use Rattle.script_types.specs.declared.fault.Place.TheVariants as place
use Rattle.chunk_files.specs.declared.fault.Stop.{Stop}
use Rattle.script_types.specs.declared.fault.Fault.{Fault}
use Rattle.script_types.specs.declared.script.CodecItem.{CodecItem}
use Rattle.script_types.specs.Names.{kind_named, is_codec_name}
use Rattle.script_types.specs.declared.fault.Wrong.{Wrong}
use Rattle.chunk_files.specs.declared.fault.Stop.TheVariants as stop
use Rattle.script_types.specs.declared.fault.Wrong.TheVariants as wrong
use Rattle.script_steps.specs.Members.{and_then, needed, text_in, name_in, natural_of}
use Rattle.wc_script.specs.Faults.{at, proceed}

-- a saturation number, from 1 to 64
abbrev pub checked_saturation : ℕ → Option ℕ
checked_saturation n = if nat_le 1 n && nat_le n 64 then Some n else None

-- 4 where the script says nothing
abbrev pub saturation_of : Option Data → Result ℕ (Stop Wrong)
saturation_of None = Ok 4
saturation_of (Some d) = needed (option_and_then checked_saturation (natural_of d))

-- a codec, after those before it
unfoldable pub codec_of : List CodecItem → Data → Result CodecItem (Stop Wrong)
codec_of before d =
    and_then (name_in (codes "name") d) (λ name.
    and_then (needed (option_and_then kind_named (text_in (codes "kind") d))) (λ kind.
    and_then (saturation_of (get (codes "saturation") d)) (λ saturation.
    if is_codec_name before name then Err (stop.Fault wrong.Twice)
    else Ok (record { name = name; kind = kind; saturation = saturation }))))

-- all codecs, where those before number i are given
abbrev pub codecs_of : ℕ → List CodecItem → Items → Result (List CodecItem) (Stop Fault)
codecs_of i before no_items = Ok before
codecs_of i before (item d ds) = proceed (at (place.Codec i) (codec_of before d)) (λ c. codecs_of (i + 1) (before ++ c ∷ []) ds)
