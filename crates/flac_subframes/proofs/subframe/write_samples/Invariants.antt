use Rattle.std.proofs.Common.{◌≡◌, ◌<◌, ◌≤◌, ◌^◌, ◌++◌, take}
use Rattle.std.specs.List.{flat_map}
use Rattle.flac_definitions.specs.Bits.{bits_of}
use Rattle.flac_definitions.specs.SubframeWriting.{sample_bits}
use Rattle.flac_subframes.proofs.subframe.write_samples.Given as goal

abbrev pub invariant-loop-i : goal.invariant-loop-i
invariant-loop-i l = record {
  short : l.held.count ≤ 64;
  word : l.held.word < 2 ^ l.held.count;
  bits : l.w ++ bits_of l.held.count l.held.word ≡ l.fn.w ++ flat_map (sample_bits l.depth) (take l.i l.samples);
}
