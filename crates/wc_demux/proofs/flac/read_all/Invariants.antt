use Rattle.std.proofs.Common.{◌*◌, ◌-◌, ◌≤◌, length, drop}
use Rattle.wc_demux.specs.Flac.{BeginsWithFrames}
use Rattle.wc_demux.proofs.flac.read_all.Given as goal

abbrev pub invariant-loop-at : goal.invariant-loop-at
invariant-loop-at l =
    record {
      within : l.at ≤ length l.bytes;
      few : l.frames ≤ 65535 * l.at;
      before : BeginsWithFrames l.info 0 l.frames l.chunks.items (drop l.place l.bytes) (drop l.at l.bytes);
    }

abbrev pub decreases-loop-at : goal.decreases-loop-at
decreases-loop-at l = length l.bytes - l.at
