use Rattle.std.proofs.Common.{List, Bool, ◌++◌, ◌≡◌, ap, subst, arith}
use Rattle.std.specs.Result.{OnOk}
use Rattle.flac_definitions.specs.Bits.{bits_of}
use Rattle.flac_write.specs.WriterLaws.{bits_none}
use Rattle.flac_subframes.proofs.Numbers.{sample_more, samples_end}
use Rattle.flac_subframes.proofs.subframe.write_samples.Goals as goal

pub loop-i-init : goal.loop-i-init
loop-i-init c = record {
  short = omega arith;
  word = omega arith;
  bits = ap (λ (l : List Bool). c.args.w.now ++ l) (bits_none 0);
}

pub loop-i-preserved : goal.loop-i-preserved
loop-i-preserved c =
    let v = c.loop-i.invariant in
    let held = c.in_ok-held.held in
    record {
      short = c.in_ok-held.ensures.short;
      word = c.in_ok-held.ensures.word;
      bits = sample_more c.args.w.now (c.loop-i.w ++ bits_of c.loop-i.held.count c.loop-i.held.word) (c.with_sample.new.w ++ bits_of held.count held.word) c.args.depth c.loop-i.i c.args.samples.now (omega (arith, c.loop-i-test.true, c.requires.count)) v.bits c.in_ok-held.ensures.bits;
    }

pub returns : goal.returns
returns c =
    let a = c.args in
    let whole = samples_end a.w.now (c.loop-i.w ++ bits_of c.loop-i.held.count c.loop-i.held.word) a.depth c.loop-i.i a.count a.samples.now (omega arith) c.loop-i.invariant.bits in
    subst (λ (l : List Bool). OnOk c.put.result (c.put.new.self ≡ l)) whole c.put.ensures.ok
