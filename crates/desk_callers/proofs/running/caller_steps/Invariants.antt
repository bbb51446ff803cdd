use Rattle.std.proofs.Common.{◌≡◌, ◌≤◌, length}
use Rattle.std.specs.Prelude.{vec_capacity}
use Rattle.shared_pool.specs.Refs.{IsPoolRef}
use Rattle.codec_desk.specs.Clocks.{Clocked}
use Rattle.codec_desk.specs.Desks.{SitAt}
use Rattle.codec_desk.specs.Runs.{EachRunsNone}
use Rattle.media_variables.specs.Held.{AreOf, seen_in}
use Rattle.desk_callers.specs.Acts.{StaySeats}
use Rattle.desk_callers.specs.Passes.{ArePasses, KeepParts}
use Rattle.desk_callers.proofs.Doing.{HasDoneUntil}
use Rattle.desk_callers.proofs.running.caller_steps.Given as goal

-- so many steps were made
abbrev pub invariant-loop-number : goal.invariant-loop-number
invariant-loop-number g l = record {
  sits : SitAt l.fn.desk l.seats;
  runs : EachRunsNone l.fn.desk.codecs.items l.fn.seats.codecs.items → EachRunsNone l.fn.desk.codecs.items l.seats.codecs.items;
  timed : Clocked l.fn.desk l.fn.seats l.seats (g.K.Clock.told l.fn.clock) (g.K.Clock.told l.clock);
  stay : StaySeats l.fn.desk l.fn.seats l.seats;
  passes : ArePasses l.fn.desk.pool l.fn.ports l.passes.items;
  parts : KeepParts l.fn.passes.items l.passes.items;
  held : AreOf (IsPoolRef l.fn.desk.pool) l.variables;
  done : HasDoneUntil l.fn.script l.fn.media l.fn.desk l.fn.caller l.results.items l.fn.seats l.seats (seen_in l.variables) l.passes.items l.time;
  many : l.number ≡ length l.results.items;
  below : l.number ≤ l.number-end;
  end : l.number-end ≡ length l.steps;
  room : length l.steps ≤ vec_capacity l.results;
}
