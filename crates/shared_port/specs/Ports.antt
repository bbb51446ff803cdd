-- Ports and their passes.
use Rattle.std.specs.Prelude.{◌≡◌, ◌<◌, Some}
use Rattle.atomic_table.specs.Seated.{TableId}
use Rattle.crossbeam_queue.specs.SegTies.{SegId, IsSegPassOf}
use Rattle.seat_lock.specs.Seats.{IsIdleAt}
use Rattle.std.specs.declared.alloc.Global.{Global}
use Rattle.shared_port.specs.declared.port.PortPass.{PortPass}
use Rattle.shared_port.specs.declared.rule.PortView.{PortView}
use Rattle.shared_port.specs.Mouths.{view_of}

-- a port: which queue its line is, which lock its mouth lies behind, and its pool
pub record PortId : Type 0 where
  pub line : SegId Global
  pub lock : TableId
  pub pool : TableId

module _ {M : Type 0} where
  -- what a pass knows
  abbrev pub seen : PortPass M → PortView M
  seen pass = view_of pass.line

  -- the pass is of this port
  pub record IsPassOf (port : PortId) (pass : PortPass M) : Type 0 where
    pub line : IsSegPassOf port.line pass.line
    pub pool : (seen pass).pool ≡ Some port.pool
    pub has_parts : 0 < (seen pass).parts
    pub no_mouth : (seen pass).mouths ≡ 0
    pub seat : IsIdleAt port.lock pass.seat
    pub parts : pass.seat.me.0.parts ≡ (seen pass).parts
