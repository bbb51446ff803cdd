-- The mouth of a line.
use Rattle.std.specs.Prelude.{◌≡◌, List, Option, Some}
use Rattle.atomic_blocks.specs.declared.web.Seat.{Seat}
use Rattle.crossbeam_queue.specs.declared.seg_queue.Going.{Going}
use Rattle.crossbeam_queue.specs.SegTies.{SegId, IsSegPassOf}
use Rattle.std.specs.declared.alloc.Global.{Global}
use Rattle.shared_port.specs.declared.mouth.Mouth.{Mouth}
use Rattle.shared_port.specs.declared.rule.PortView.{PortView}
use Rattle.shared_port.specs.Views.{Posted, mouth_view}

module _ {M : Type 0} where
  -- what a pass of a line knows
  abbrev pub view_of : Seat (Option (Posted M)) (Going (Posted M) (PortView M)) Global → PortView M
  view_of pass = pass.me.view.client

  -- the mouth of this line is there
  pub record IsMouth (line : SegId Global) (mouth : Mouth M) : Type 0 where
    pub pass : Seat (Option (Posted M)) (Going (Posted M) (PortView M)) Global
    pub got : List (Posted M)
    pub here : mouth.pass ≡ Some pass
    pub of : IsSegPassOf line pass
    pub view : view_of pass ≡ mouth_view got
