use Rattle.std.proofs.Common.{◌≡◌, ◌-◌, ◌+◌, length, take, length-set, arith, rules, ◌∙◌}
use mir.Val.{to_z, of_z, SFits}
use mir.Syntax.{w64}
use Rattle.std.proofs.lemmas.Int.{to_z-of_z}
use Rattle.flac_decode.proofs.RestoreLaws.{samples_next, small_more}
use Rattle.flac_decode.proofs.ShortLaws.{missing_sample}
use Rattle.flac_decode.proofs.fields.read_samples.Goals as goal

pub loop-place-preserved : goal.loop-place-preserved
loop-place-preserved c =
    let out = c.loop-place.samples in let i = c.loop-place.place-index in let v = c.in-Ok.x in
    let fv : SFits w64 v = search rules in
    let back : to_z w64 (of_z w64 v) ≡ v = to_z-of_z w64 v fv in
    record {
      bytes = c.in-Ok.ensures.bytes ∙ c.loop-place.invariant.bytes;
      small = rw back (small_more (c.args.depth - 1) out i v (omega arith) c.loop-place.invariant.small c.in-Ok.ensures.small);
      read = rw (length-set, back) (samples_next c.args.depth out i c.loop-place.r c.read_signed.new.r v (omega arith) c.in-Ok.ensures.read ∙ c.loop-place.invariant.read);
    }

pub returns-in-Err-clause-short : goal.returns-in-Err-clause-short
returns-in-Err-clause-short c =
    let out = c.loop-place.samples in let i = c.loop-place.place-index in
    missing_sample c.in-Err.e c.args.depth (length out - i) (length out - (i + 1)) (take i out) c.loop-place.r c.read_signed.new.r _ (omega arith) c.loop-place.invariant.read c.in-Err.ensures.read c.in-Err.ensures.short
