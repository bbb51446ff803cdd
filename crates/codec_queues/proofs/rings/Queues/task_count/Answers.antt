use Rattle.std.proofs.Common.{arith}
use Rattle.codec_queues.proofs.Counting.{count_at_most}
use Rattle.codec_queues.proofs.rings.Queues.task_count.Goals as goal

pub returns : goal.returns
returns c = rw (← c.self.view_is) (omega (arith, c.len.ensures, count_at_most c.self.inside.epoch c.self.inside.tasks.items))
