use Rattle.std.proofs.Common.{◌≡◌, ◌-◌, length}
use Rattle.wc_demux.specs.Flac.{place_behind, blocks_from}
use Rattle.flac_stream.specs.Head.{first_of, seek_table_in}
use Rattle.flac_stream.proofs.head.find_blocks.Given as goal

abbrev pub invariant-loop-at : goal.invariant-loop-at
invariant-loop-at l =
    record {
      same : place_behind (length l.bytes) (blocks_from l.bytes 4) ≡ place_behind (length l.bytes) (blocks_from l.bytes l.at);
      table : seek_table_in (blocks_from l.bytes 4) ≡ first_of l.seek_table (seek_table_in (blocks_from l.bytes l.at));
    }

abbrev pub decreases-loop-at : goal.decreases-loop-at
decreases-loop-at l = length l.bytes - l.at
