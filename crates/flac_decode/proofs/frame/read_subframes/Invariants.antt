use Rattle.std.proofs.Common.{◌≡◌, ◌-◌, ◌*◌, length, take}
use Rattle.flac_decode.specs.Bounds.{AreSmall}
use Rattle.flac_decode.specs.Shortness.{short_channels}
use Rattle.flac_definitions.specs.Subframe.{channels_at, in_front_of}
use Rattle.flac_decode.proofs.frame.read_subframes.Given as goal

abbrev pub invariant-loop-channel : goal.invariant-loop-channel
invariant-loop-channel l =
    record {
      bytes : l.r.bytes ≡ l.fn.r.bytes;
      small : AreSmall 32 (take (l.channel * l.block) l.samples);
      size : length l.samples ≡ l.channels * l.block;
      read : in_front_of (take (l.channel * l.block) l.samples) (channels_at l.header.assignment l.header.depth l.block l.channel (l.channels - l.channel) l.r) ≡ channels_at l.header.assignment l.header.depth l.block 0 l.channels l.fn.r;
      short : short_channels l.header.assignment l.header.depth l.block l.channel (l.channels - l.channel) l.r ≡ short_channels l.header.assignment l.header.depth l.block 0 l.channels l.fn.r;
    }
