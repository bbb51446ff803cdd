use Rattle.std.proofs.Common.{◌≡◌, ◌^◌, ◌≤◌, None}
use Rattle.flac_definitions.specs.Stereo.{channel_by, left_of_side}
use Rattle.flac_decode.proofs.StereoLaws.{IsSoFar}
use Rattle.flac_decode.proofs.stereo.restore_left.Given as goal

abbrev pub invariant-loop-i : goal.invariant-loop-i
invariant-loop-i l =
    record {
      channel : IsSoFar left_of_side l.depth l.i l.right l.fn.side l.side l.lifted;
      bad : 2 ^ l.depth ≤ l.lifted → channel_by left_of_side l.depth l.right l.fn.side ≡ None;
    }
