use Rattle.std.proofs.Common.{◌-◌, ◌+◌, arith, sym, ◌∙◌}
use Rattle.flac_frame.proofs.FieldLaws.{more_next, more_wrong, six_more}
use Rattle.flac_frame.proofs.fields.further_bytes.Goals as goal

pub returns-then-b-ne2-clause-read : goal.returns-then-b-ne2-clause-read
returns-then-b-ne2-clause-read c =
    sym c.loop-i.invariant.read ∙ more_wrong c.args.start (c.args.count - c.loop-i._i) (c.args.count - (c.loop-i._i + 1)) c.loop-i.so_far c.in-Ok.b c.loop-i.r c.part.new.r (omega arith) c.in-Ok.ensures.read c.if-b-ne2.true

pub overflow_mul-so_far : goal.overflow_mul-so_far
overflow_mul-so_far c = omega (arith, (six_more c.loop-i.so_far c.loop-i._i c.in-Ok.b (omega (arith, c.loop-i.invariant.small)) (omega arith)).1)

pub overflow_add-so_far : goal.overflow_add-so_far
overflow_add-so_far c = omega (arith, (six_more c.loop-i.so_far c.loop-i._i c.in-Ok.b (omega (arith, c.loop-i.invariant.small)) (omega arith)).1)

pub loop-i-preserved : goal.loop-i-preserved
loop-i-preserved c = record {
  small = (six_more c.loop-i.so_far c.loop-i._i c.in-Ok.b (omega (arith, c.loop-i.invariant.small)) (omega arith)).0;
  onward = record { same = c.in-Ok.ensures.onward.same ∙ c.loop-i.invariant.onward.same; later = omega (arith, c.in-Ok.ensures.onward.later, c.loop-i.invariant.onward.later) };
  read = more_next c.args.start (c.args.count - c.loop-i._i) (c.args.count - (c.loop-i._i + 1)) c.loop-i.so_far c.in-Ok.b c.loop-i.r c.part.new.r (omega arith) c.in-Ok.ensures.read c.if-b-ne2.false ∙ c.loop-i.invariant.read;
}
