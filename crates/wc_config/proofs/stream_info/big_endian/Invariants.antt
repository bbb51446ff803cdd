use Rattle.std.proofs.Common.{◌≡◌, ◌<◌, ◌^◌, drop}
use Rattle.wc_config.specs.Streams.{big_endian, big_endian_after}
use Rattle.wc_config.proofs.stream_info.big_endian.Given as goal

abbrev pub invariant-loop-byte : goal.invariant-loop-byte
invariant-loop-byte l =
    record {
      bound : l.number < 256 ^ l.byte-index;
      rest : big_endian_after l.number (drop l.byte-index l.bytes) ≡ big_endian l.bytes;
    }
