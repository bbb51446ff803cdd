use Rattle.std.proofs.Common.{◌≡◌, ◌-◌, length, take}
use Rattle.flac_decode.specs.Bounds.{AreSmall}
use Rattle.flac_definitions.specs.Subframe.{samples_at, in_front_of}
use Rattle.flac_decode.proofs.fields.read_samples.Given as goal

abbrev pub invariant-loop-place : goal.invariant-loop-place
invariant-loop-place l =
    record {
      bytes : l.r.bytes ≡ l.fn.r.bytes;
      small : AreSmall (l.depth - 1) (take l.place-index l.samples);
      read : in_front_of (take l.place-index l.samples) (samples_at l.depth (length l.samples - l.place-index) l.r) ≡ samples_at l.depth (length l.fn.samples) l.fn.r;
    }
