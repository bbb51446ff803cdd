use Rattle.std.proofs.Common.{arith}
use Rattle.wc_config.proofs.Numbers.{room_for_byte}
use Rattle.wc_config.proofs.stream_info.big_endian.Goals as goal

pub overflow_mul-number : goal.overflow_mul-number
overflow_mul-number c = omega (arith, room_for_byte c.loop-byte.number c.loop-byte.byte-index c.loop-byte.invariant.bound (omega (arith, c.requires, c.loop-byte-test.true)))
