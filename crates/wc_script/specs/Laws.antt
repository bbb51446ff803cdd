-- What is known of a script that was read.
use Rattle.std.specs.Prelude.{◌≡◌, true, Ok}
use Rattle.serde_json.specs.Data.{Data}
use Rattle.script_types.specs.declared.script.ScriptData.{ScriptData}
use Rattle.script_types.specs.Sound.{is_sound}
use Rattle.wc_script.specs.Walk.{walk_of}

-- nothing in it is at fault
abbrev pub ScriptsAreSound : Type 0
ScriptsAreSound = (d : Data) (s : ScriptData) → walk_of d ≡ Ok s → is_sound s ≡ true
