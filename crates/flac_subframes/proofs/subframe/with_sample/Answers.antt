use Rattle.flac_definitions.specs.FixedPredictors.{at}
use Rattle.flac_subframes.proofs.Numbers.{held_sample, next_sample}
use Rattle.flac_subframes.proofs.subframe.with_sample.Goals as goal

pub returns-then-depth-room-clause-bits : goal.returns-then-depth-room-clause-bits
returns-then-depth-room-clause-bits c =
    let a = c.args in
    held_sample a.w.now a.held.count a.depth a.held.word c.number_at-number.result c.joined-word.result (at a.samples.now a.i) c.joined-word.ensures.value c.number_at-number.ensures.bound c.number_at-number.ensures.value

pub returns-clause-bits : goal.returns-clause-bits
returns-clause-bits c =
    let a = c.args in
    next_sample a.w.now c.put.new.self a.depth a.held.count a.held.word c.number_at-number.result (at a.samples.now a.i) c.in_ok-put.ensures.ok c.number_at-number.ensures.value
