use Rattle.std.proofs.Common.{◌≡◌, map, take}
use Rattle.std.specs.List.{range_with_len}
use Rattle.c_library.specs.Frames.{sample_in}
use Rattle.c_library.proofs.frames.unpack.Given as goal

abbrev pub invariant-loop-i : goal.invariant-loop-i
invariant-loop-i l = take l.i l.room ≡ map (sample_in l.depth l.bytes) (range_with_len 0 l.i)
