use Rattle.std.proofs.Common.{◌≡◌}
use Rattle.std.specs.List.{range_with_len, flat_map}
use Rattle.flac_definitions.specs.SubframeWriting.{HaveDepth}
use Rattle.codec_definitions.specs.FlacCode.{channel_apart}
use Rattle.flac_encode.proofs.block.apart.Given as goal

abbrev pub invariant-loop-channel : goal.invariant-loop-channel
invariant-loop-channel l = record {
  values : l.out.items ≡ flat_map (channel_apart l.channels l.values) (range_with_len 0 l.channel);
  fit : HaveDepth l.depth l.out.items;
}
