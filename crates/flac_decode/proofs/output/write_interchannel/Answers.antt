use Rattle.std.proofs.Common.{◌≡◌, ◌+◌, ◌*◌, ℤ, pos, ◌*ℤ◌, ◌^◌, get_or, rules, ap, ◌∙◌}
use mir.Val.{SFits}
use mir.Syntax.{w64}
use Rattle.std.proofs.lemmas.Int.{to_z-of_z}
use Rattle.codec_definitions.specs.Pcm.{spelled}
use Rattle.codec_definitions.specs.Flac.{sample_bytes}
use Rattle.flac_decode.proofs.FrameLaws.{part_next}
use Rattle.flac_decode.proofs.output.write_interchannel.Goals as goal

pub loop-channel-preserved : goal.loop-channel-preserved
loop-channel-preserved g c =
    let out = c.loop-channel.out in let channel = c.loop-channel.channel in let values = c.put_sample.new.out in let v = c.shift_up.result in
    let x = get_or c.args.samples.now (channel * c.args.block + c.args.i) (pos 0) in
    let fx : SFits w64 x = search rules in
    let fv : SFits w64 v = record { sfits = c.shift_up.type_inv } in
    let e : values ≡ sample_bytes g.row.SIZE c.args.up c.args.block c.args.samples.now c.args.i channel =
    c.put_sample.ensures ∙ ap (λ (z : ℤ). spelled g.row.SIZE z) (to_z-of_z w64 v fv ∙ c.shift_up.ensures ∙ ap (λ (z : ℤ). z *ℤ pos (2 ^ c.args.up)) (to_z-of_z w64 x fx)) in
    let n = part_next (sample_bytes g.row.SIZE c.args.up c.args.block c.args.samples.now c.args.i) out values channel g.row.N g.row.SIZE c.loop-channel-test.true (c.loop-channel.invariant.size ∙ c.requires.places) e c.put_sample.auto.out c.loop-channel.invariant.done in
    record { size = n.0 ∙ c.loop-channel.invariant.size; done = n.1 }
