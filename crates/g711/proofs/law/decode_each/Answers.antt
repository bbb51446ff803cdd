use Rattle.std.proofs.Common.{◌∙◌, length, ap, arith}
use mir.Syntax.{w16}
use mir.Val.{SFits}
use Rattle.std.proofs.lemmas.Int.{to_z-of_z}
use Rattle.codec_definitions.specs.{Pcm.spelled, SampleCodecs.decoded_at}
use Rattle.g711.specs.Slices.{codec_of}
use Rattle.g711.proofs.SliceLaws.{pair_next, all_written, decoded_here}
use Rattle.g711.proofs.law.decode_each.Goals as goal

pub loop-i-preserved : goal.loop-i-preserved
loop-i-preserved c =
    let codes = c.args.codes.now in
    let value = c.value_in.result in
    let fits : SFits w16 value = record { sfits = c.value_in.type_inv } in
    let here = c.put.ensures ∙ ap (spelled 2) (to_z-of_z w16 value fits ∙ c.value_in.ensures) ∙ decoded_here c.args.law codes c.loop-i.i in
    pair_next (decoded_at (codec_of c.args.law) codes) c.loop-i.out c.put.new.out c.loop-i.i (length codes) c.loop-i-test.true (c.loop-i.auto.out ∙ c.requires) here c.put.auto.out c.loop-i.invariant

pub returns : goal.returns
returns c = all_written (decoded_at (codec_of c.args.law) c.args.codes.now) c.loop-i.out c.loop-i.i (length c.args.codes.now) (omega (arith, c.loop-i-test.false, c.loop-i.auto.i-end)) (c.loop-i.auto.out ∙ c.requires) c.loop-i.invariant
