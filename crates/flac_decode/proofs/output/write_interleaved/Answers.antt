use Rattle.std.proofs.Common.{◌*◌, ◌∙◌}
use Rattle.codec_definitions.specs.Flac.{interchannel_bytes}
use Rattle.flac_decode.proofs.FrameLaws.{part_next}
use Rattle.flac_decode.proofs.output.write_interleaved.Goals as goal

pub loop-i-preserved : goal.loop-i-preserved
loop-i-preserved g c =
    let n = part_next (interchannel_bytes g.row.SIZE c.args.up g.row.N c.args.block c.args.samples.now) c.loop-i.out c.write_interchannel.new.out c.loop-i.i c.args.block (g.row.N * g.row.SIZE) c.loop-i-test.true (c.loop-i.invariant.size ∙ c.requires.places) c.write_interchannel.ensures c.write_interchannel.auto.out c.loop-i.invariant.done in
    record { size = n.0 ∙ c.loop-i.invariant.size; done = n.1 }
