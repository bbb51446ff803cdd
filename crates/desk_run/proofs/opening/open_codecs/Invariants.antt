use Rattle.std.proofs.Common.{◌≡◌, ◌≤◌, length, vec_capacity}
use Rattle.codec_desk.specs.Each.{Pairs}
use Rattle.desk_run.specs.Opened.{IsOpenedAt}
use Rattle.desk_run.proofs.opening.open_codecs.Given as goal

-- the first codecs were opened
abbrev pub invariant-loop-place : goal.invariant-loop-place
invariant-loop-place g l = record {
  pool : (l.desk.pool ≡ l.fn.desk.pool) × (l.seats.pool ≡ l.fn.seats.pool);
  slots : (l.desk.slots ≡ l.fn.desk.slots) × (l.seats.slots ≡ l.fn.seats.slots);
  opened : Pairs (IsOpenedAt l.fn.openings l.fn.calls l.fn.desk.pool l.fn.desk.slots.id) 0 l.desk.codecs.items l.seats.codecs.items;
  many : length l.desk.codecs.items ≡ l.place;
  seats : length l.seats.codecs.items ≡ l.place;
  end : l.place-end ≡ length l.fn.openings;
  below : l.place ≤ l.place-end;
  room : vec_capacity l.desk.codecs ≡ vec_capacity l.fn.desk.codecs;
  places : vec_capacity l.seats.codecs ≡ vec_capacity l.fn.seats.codecs;
}
