use Rattle.std.proofs.Common.{◌≡◌, map, take}
use Rattle.codec_definitions.specs.G711.{ulaw_value}
use Rattle.c_library.proofs.companding.ulaw_values.Given as goal

abbrev pub invariant-loop-i : goal.invariant-loop-i
invariant-loop-i l = take l.i l.samples ≡ map ulaw_value (take l.i l.codes)
