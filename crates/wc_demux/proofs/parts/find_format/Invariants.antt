use Rattle.std.proofs.Common.{◌≡◌, ◌-◌, length}
use Rattle.wc_demux.specs.Wav.{format_in, parts_from}
use Rattle.wc_demux.proofs.parts.find_format.Given as goal

abbrev pub invariant-loop-at : goal.invariant-loop-at
invariant-loop-at l = format_in (length l.bytes) (parts_from l.bytes 12) ≡ format_in (length l.bytes) (parts_from l.bytes l.at)

abbrev pub decreases-loop-at : goal.decreases-loop-at
decreases-loop-at l = length l.bytes - l.at
