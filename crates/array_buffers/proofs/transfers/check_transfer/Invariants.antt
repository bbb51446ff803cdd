use Rattle.std.proofs.Common.{◌≡◌, drop}
use Rattle.array_buffers.specs.Transfers.{is_open_at, may_transfer}
use Rattle.array_buffers.proofs.transfers.check_transfer.Given as goal

abbrev pub invariant-loop-i : goal.invariant-loop-i
invariant-loop-i l = may_transfer (is_open_at l.buffers) l.list ≡ may_transfer (is_open_at l.buffers) (drop l.i l.list)
