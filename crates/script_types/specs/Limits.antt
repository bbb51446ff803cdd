-- How many there may be of what is counted (our choice): codecs, callers, steps and order items, and bytes of the others.
use Rattle.std.specs.Prelude.{ℕ}
use Rattle.script_types.specs.declared.fault.Counted.{Counted}
use Rattle.script_types.specs.declared.fault.Counted.TheVariants as counted
use Rattle.script_types.specs.Sound.{most_codecs, most_callers, most_steps, most_order, most_chunk, most_media}

-- bytes of a script file, of a chunk file, and of a report
abbrev pub most_script : ℕ
most_script = 16777216

abbrev pub most_file : ℕ
most_file = 268435456

abbrev pub most_report : ℕ
most_report = 268435456

abbrev pub limit_of : Counted → ℕ
limit_of counted.Script = most_script
limit_of counted.Codecs = most_codecs
limit_of counted.Callers = most_callers
limit_of counted.Steps = most_steps
limit_of counted.Order = most_order
limit_of counted.Chunk = most_chunk
limit_of counted.File = most_file
limit_of counted.Media = most_media
limit_of counted.Report = most_report
