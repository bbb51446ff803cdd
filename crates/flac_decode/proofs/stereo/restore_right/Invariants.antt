use Rattle.std.proofs.Common.{◌≡◌, ◌^◌, ◌≤◌, None}
use Rattle.flac_definitions.specs.Stereo.{channel_by, right_of_side}
use Rattle.flac_decode.proofs.StereoLaws.{IsSoFar}
use Rattle.flac_decode.proofs.stereo.restore_right.Given as goal

abbrev pub invariant-loop-i : goal.invariant-loop-i
invariant-loop-i l =
    record {
      channel : IsSoFar right_of_side l.depth l.i l.left l.fn.side l.side l.lifted;
      bad : 2 ^ l.depth ≤ l.lifted → channel_by right_of_side l.depth l.left l.fn.side ≡ None;
    }
