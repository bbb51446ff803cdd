use Rattle.std.proofs.Common.{◌≡◌, ◌≤◌, [], length, true, false}
use Rattle.codec_desk.specs.Clocks.{Clocked}
use Rattle.codec_desk.specs.Desks.{SitAt, SeesMore, Settled}
use Rattle.codec_desk.specs.Each.{First, AtSome}
use Rattle.codec_desk.specs.Named.{Calls}
use Rattle.codec_desk.specs.Rests.{Rested, Still, Stirred, NoItem}
use Rattle.codec_desk.specs.Runs.{EachRunsNone}
use Rattle.codec_desk.proofs.Going.{Serves}
use Rattle.codec_desk.proofs.rounds.item_round.Given as goal

-- nothing was found so far, or something was
abbrev pub invariant-loop-codec : goal.invariant-loop-codec
invariant-loop-codec g l = record {
  sits : SitAt l.fn.desk l.seats;
  settled : Settled l.fn.desk l.fn.seats l.seats;
  calls : Calls l.fn.desk [] l.fn.seats l.seats;
  runs : EachRunsNone l.fn.desk.codecs.items l.fn.seats.codecs.items → EachRunsNone l.fn.desk.codecs.items l.seats.codecs.items;
  end : l.codec-end ≡ length l.fn.desk.codecs.items;
  below : l.codec ≤ l.codec-end;
  rested : l.found ≡ false → First (Rested NoItem) Still l.codec l.fn.desk.codecs.items l.fn.seats.codecs.items l.seats.codecs.items;
  served : First (Serves NoItem) SeesMore l.codec l.fn.desk.codecs.items l.fn.seats.codecs.items l.seats.codecs.items;
  stirred : l.found ≡ true → AtSome Stirred l.fn.desk.codecs.items l.fn.seats.codecs.items l.seats.codecs.items;
  timed : Clocked l.fn.desk l.fn.seats l.seats (g.K.Clock.told l.fn.clock) (g.K.Clock.told l.clock);
}
