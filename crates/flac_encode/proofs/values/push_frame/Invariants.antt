use Rattle.std.proofs.Common.{◌≡◌, ◌++◌, map}
use Rattle.std.specs.List.{range_with_len}
use Rattle.flac_definitions.specs.SubframeWriting.{HaveDepth}
use Rattle.codec_definitions.specs.FlacEncoder.{value_at}
use Rattle.flac_encode.proofs.values.push_frame.Given as goal

abbrev pub invariant-loop-channel : goal.invariant-loop-channel
invariant-loop-channel l = record {
  values : l.out.items ≡ l.fn.out.items ++ map (value_at l.config (record { shape = l.shape; bytes = l.bytes }) l.fn.frame) (range_with_len 0 l.channel);
  fit : HaveDepth l.config.depth l.out.items;
}
