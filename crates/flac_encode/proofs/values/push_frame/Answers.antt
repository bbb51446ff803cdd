use Rattle.std.proofs.Common.{rules, ◌≡◌, ◌++◌, ◌∷◌, []}
use Rattle.codec_definitions.specs.FlacEncoder.{value_at}
use Rattle.flac_encode.proofs.Counts.{more_units}
use Rattle.flac_encode.proofs.Filled.{fits_more}
use Rattle.flac_encode.proofs.values.push_frame.Goals as goal

pub loop-channel-preserved : goal.loop-channel-preserved
loop-channel-preserved c =
    let added : c.push_value.new.out.items ≡ c.loop-channel.out.items ++ c.value_at-value.result ∷ [] = search rules in
    record {
      values = more_units (value_at c.args.config.now (record { shape = c.args.shape.now; bytes = c.args.bytes.now }) c.args.frame) c.args.out.now.items c.loop-channel.out.items c.push_value.new.out.items c.loop-channel.channel c.value_at-value.result c.loop-channel.invariant.values added c.value_at-value.ensures.value;
      fit = fits_more c.args.config.now.depth c.loop-channel.out.items c.push_value.new.out.items c.value_at-value.result c.loop-channel.invariant.fit c.value_at-value.ensures.fit added;
    }
