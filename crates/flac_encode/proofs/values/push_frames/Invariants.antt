use Rattle.std.proofs.Common.{◌≡◌, ◌++◌}
use Rattle.std.specs.List.{range_with_len, flat_map}
use Rattle.flac_definitions.specs.SubframeWriting.{HaveDepth}
use Rattle.codec_definitions.specs.FlacEncoder.{frame_values}
use Rattle.flac_encode.proofs.values.push_frames.Given as goal

abbrev pub invariant-loop-frame : goal.invariant-loop-frame
invariant-loop-frame l = record {
  values : l.out.items ≡ l.fn.out.items ++ flat_map (frame_values l.config (record { shape = l.shape; bytes = l.bytes })) (range_with_len 0 l.frame);
  fit : HaveDepth l.config.depth l.out.items;
}
