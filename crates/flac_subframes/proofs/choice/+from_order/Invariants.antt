use Rattle.std.proofs.Common.{◌-◌}
use Rattle.flac_subframes.proofs.choice.+from_order.Given as goal

abbrev pub decreases-from_order : goal.decreases-from_order
decreases-from_order l = l.likely - l.order
