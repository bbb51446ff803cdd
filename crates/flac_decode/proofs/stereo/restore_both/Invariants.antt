use Rattle.std.proofs.Common.{◌≡◌, ◌^◌, ◌≤◌, None}
use Rattle.flac_definitions.specs.Stereo.{channel_by, channel_pair, left_of_mid, right_of_mid}
use Rattle.flac_decode.proofs.StereoLaws.{IsSoFar}
use Rattle.flac_decode.proofs.stereo.restore_both.Given as goal

abbrev pub invariant-loop-i : goal.invariant-loop-i
invariant-loop-i l =
    record {
      left : IsSoFar left_of_mid l.depth l.i l.fn.side l.fn.mid l.mid l.lifted;
      right : IsSoFar right_of_mid l.depth l.i l.fn.mid l.fn.side l.side l.lifted;
      bad : 2 ^ l.depth ≤ l.lifted → channel_pair (channel_by left_of_mid l.depth l.fn.side l.fn.mid) (channel_by right_of_mid l.depth l.fn.mid l.fn.side) ≡ None;
    }
