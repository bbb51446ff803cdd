-- A count of outputs, of their bytes, and the sum of these.
use Rattle.std.specs.Prelude.{◌+◌, List, length}
use Rattle.codec_definitions.specs.declared.unit.Unit as media
use Rattle.load_summary.specs.declared.tally.Tally.{Tally}
use Rattle.load_summary.specs.Summary.{byte_count, byte_sum}

-- the count of no outputs
abbrev pub no_outputs : Tally
no_outputs = record { outputs = 0; bytes = 0; sum = 0 }

-- with these outputs more
abbrev pub with_outputs : Tally → List media.Unit → Tally
with_outputs t us = record { outputs = t.outputs + length us; bytes = t.bytes + byte_count us; sum = t.sum + byte_sum us }
