use Rattle.std.proofs.Common.{◌≡◌, ◌-◌, length}
use Rattle.wc_demux.specs.Flac.{place_behind, blocks_from}
use Rattle.wc_demux.proofs.blocks.place_behind.Given as goal

abbrev pub invariant-loop-at : goal.invariant-loop-at
invariant-loop-at l =
    record {
      same : place_behind (length l.bytes) (blocks_from l.bytes 4) ≡ place_behind (length l.bytes) (blocks_from l.bytes l.at);
    }

abbrev pub decreases-loop-at : goal.decreases-loop-at
decreases-loop-at l = length l.bytes - l.at
