use Rattle.std.proofs.Common.{List, Bool, ◌++◌, ◌∙◌, ap, arith, ◌-◌}
use Rattle.flac_definitions.specs.HeaderWriting.{further_bits, long_number_bits}
use Rattle.flac_write.proofs.NumberLaws.{further_more}
use Rattle.flac_write.proofs.header.write_long_number.Goals as goal

pub loop-left-preserved : goal.loop-left-preserved
loop-left-preserved c =
    let left = c.loop-left.left in
    let n = c.args.n in (
      ap (λ (l : List Bool). l ++ further_bits (left - 1) n) c.in_ok-put-2.ensures.ok
          ∙ further_more c.loop-left.w (c.args.w.now ++ long_number_bits c.args.count n) left (left - 1) n (omega (arith, c.loop-left-test.true)) c.loop-left.invariant.0,
      omega (arith, c.loop-left.invariant.1),
    )
