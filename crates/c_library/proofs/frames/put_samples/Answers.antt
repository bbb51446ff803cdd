use Rattle.c_library.proofs.Filled.{too_many}
use Rattle.c_library.proofs.frames.put_samples.Goals as goal

pub returns-then-count-room-clause-status : goal.returns-then-count-room-clause-status
returns-then-count-room-clause-status c =
    (too_many c.args.depth c.args.bytes.now c.args.room.now (rw c.sample_size-size.ensures at c.if-count-room.true)).0

pub returns-then-count-room-clause-room : goal.returns-then-count-room-clause-room
returns-then-count-room-clause-room c =
    (too_many c.args.depth c.args.bytes.now c.args.room.now (rw c.sample_size-size.ensures at c.if-count-room.true)).1
