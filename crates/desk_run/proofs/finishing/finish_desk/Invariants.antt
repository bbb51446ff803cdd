use Rattle.std.proofs.Common.{◌≡◌, ◌+◌, ◌++◌, ◌^◌, List, Option, length, reverse, vec_capacity}
use Rattle.atomic_table.specs.declared.shared.Seat.{Seat}
use Rattle.wc_base.specs.declared.seat.View.{View}
use Rattle.codec_logs.specs.declared.event.Event.{Event}
use Rattle.shared_codec.specs.declared.codec.Locked.{Locked}
use Rattle.shared_codec.specs.Shared.{Shared}
use Rattle.codec_desk.specs.Desks.{SitsAt}
use Rattle.codec_desk.specs.Each.{Pairs}
use Rattle.desk_threads.specs.Parts.{EachHas}
use Rattle.desk_run.specs.Finished.{AreFinished}
use Rattle.desk_run.proofs.finishing.finish_desk.Given as goal

-- the last codecs were finished
abbrev pub invariant-loop-codec : goal.invariant-loop-codec
invariant-loop-codec g l = record {
  sits : Pairs (SitsAt l.fn.desk.pool l.fn.desk.slots.id) 0 l.codecs.items l.codec_seats.items;
  parts : EachHas (2 ^ 32) l.codec_seats.items;
  done : (xs : List Shared) × (us : List (Seat (Option (Locked g.row.C.Denot)) (View Event))) × (l.codecs.items ++ xs ≡ l.fn.desk.codecs.items) × (l.codec_seats.items ++ us ≡ l.fn.seats.codecs.items) × AreFinished xs us (reverse l.cores.items);
  room : vec_capacity l.cores ≡ vec_capacity l.fn.cores;
  many : length l.cores.items + length l.codecs.items ≡ length l.fn.desk.codecs.items;
}

abbrev pub decreases-loop-codec : goal.decreases-loop-codec
decreases-loop-codec g l = length l.codecs.items
