use Rattle.std.proofs.Common.{◌≡◌, ◌≤◌, ◌++◌, ◌-◌, length, take}
use Rattle.codec_definitions.specs.RawVideoEncoder.{less_bytes}
use Rattle.raw_video.proofs.deltas.append_less.Given as goal

abbrev pub invariant-loop-from : goal.invariant-loop-from
invariant-loop-from l = record {
  room : 4096 ≤ length l.room.items;
  within : l.from ≤ length l.picture;
  written : l.bytes.items ≡ l.fn.bytes.items ++ less_bytes (take l.from l.picture) (take l.from l.last);
}

abbrev pub decreases-loop-from : goal.decreases-loop-from
decreases-loop-from l = length l.picture - l.from
