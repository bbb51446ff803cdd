use Rattle.std.proofs.Common.{◌≡◌, map, take}
use Rattle.codec_definitions.specs.G711.{alaw_value}
use Rattle.c_library.proofs.companding.alaw_values.Given as goal

abbrev pub invariant-loop-i : goal.invariant-loop-i
invariant-loop-i l = take l.i l.samples ≡ map alaw_value (take l.i l.codes)
