-- The script that bytes spell.
use Rattle.std.specs.Prelude.{ℕ, List, Option, Some, None, Result, Err}
use Rattle.serde_json.specs.Data.{Data}
use Rattle.json_data.specs.View.{value_of}
use Rattle.chunk_files.specs.declared.fault.Stop.{Stop}
use Rattle.script_types.specs.declared.fault.Fault.{Fault}
use Rattle.chunk_files.specs.declared.fault.Stop.TheVariants as stop
use Rattle.script_types.specs.declared.fault.Fault.TheVariants as fault
use Rattle.script_types.specs.declared.script.ScriptData.{ScriptData}
use Rattle.wc_script.specs.Walk.{walk_of}

abbrev pub script_of_value : Option Data → Result ScriptData (Stop Fault)
script_of_value None = Err (stop.Fault fault.NotJson)
script_of_value (Some d) = walk_of d

abbrev pub script_of : List ℕ → Result ScriptData (Stop Fault)
script_of bytes = script_of_value (value_of bytes)
