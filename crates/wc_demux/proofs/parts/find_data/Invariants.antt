use Rattle.std.proofs.Common.{◌≡◌, ◌-◌, length}
use Rattle.wc_demux.specs.Wav.{data_in, parts_from}
use Rattle.wc_demux.proofs.parts.find_data.Given as goal

abbrev pub invariant-loop-at : goal.invariant-loop-at
invariant-loop-at l = data_in (length l.bytes) (parts_from l.bytes l.from) ≡ data_in (length l.bytes) (parts_from l.bytes l.at)

abbrev pub decreases-loop-at : goal.decreases-loop-at
decreases-loop-at l = length l.bytes - l.at
