-- When a run of threads fits its script.
use Rattle.std.specs.Prelude.{List}
use Rattle.wc_chunk.specs.declared.chunk.Chunk.{Chunk}
use Rattle.wc_config.specs.declared.codec.CoderId.{CoderId}
use Rattle.script_types.specs.declared.script.ScriptData.{ScriptData}
use Rattle.run_laws.specs.Fits.{FitsAsTried}
use Rattle.work_moments.specs.Moments.{Telling}
use Rattle.run_laws.specs.Reclaims.{HasFewReclaims, IsTimely}
use Rattle.run_model.specs.Fits.{PortsDeliver}
use Rattle.port_laws.specs.Ranks.{IsRanked}
use Rattle.run_model.specs.declared.run.Run.{Run}
use Rattle.wc_run.specs.InTime.{some_may_give}
use Rattle.wc_run.specs.Made.{IsMade, recorded_by}

-- What a run of threads is of a script: what its threads made, and that it fits the script, but that a start may try twice to get its
-- box, or not at all for want of memory; what receives got is what was posted, and no medium goes round in a circle. It has at most as many reclaims as starts whose first acquire was refused. Each end and each
-- reclaim is at a moment that one of the clocks handed in may give, by what these told of themselves before the run.
pub record FitsByThreads (s : ScriptData) (media : List (List Chunk)) (made : List CoderId) (clocks : List Telling) (run : Run) : Type 0 where
  pub is_made : IsMade s media made run
  pub fits : FitsAsTried s media made (recorded_by is_made.deeds run)
  pub ports : PortsDeliver s media (recorded_by is_made.deeds run)
  pub ranked : IsRanked (recorded_by is_made.deeds run)
  pub few_reclaims : HasFewReclaims run.slots (recorded_by is_made.deeds run).codecs
  pub timely : IsTimely (some_may_give clocks) (recorded_by is_made.deeds run).codecs
