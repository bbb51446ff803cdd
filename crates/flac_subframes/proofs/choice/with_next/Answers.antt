use Rattle.std.proofs.Common.{arith}
use Rattle.flac_subframes.proofs.Skipped.{order_range, choice_stays}
use Rattle.flac_subframes.proofs.choice.with_next.Goals as goal

pub with_kept-requires-clause-range : goal.with_kept-requires-clause-range
with_kept-requires-clause-range c = order_range c.args.order c.args.samples.now c.requires.order c.requires.within

pub returns-then-best-least : goal.returns-then-best-least
returns-then-best-least c =
    let a = c.args in
    choice_stays a.depth a.samples.now a.most a.order a.best c.requires.order c.requires.long c.requires.within c.requires.best (omega (arith, c.if-best-least.true, c.requires.least))
