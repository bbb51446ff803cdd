-- Half of the piece is a beginning of it.
use Rattle.std.proofs.Common.{◌/◌, length, take, drop, rules}
use Rattle.std.proofs.lemmas.List.{take-append-drop}
use Rattle.wc_base.proofs.sink.MemSinkSink.write_all.Goals as goal

pub returns-then-listed-clause-part : goal.returns-then-listed-clause-part
returns-then-listed-clause-part c = record {
  part = take (length c.args.piece.now / 2) c.args.piece.now;
  rest = drop (length c.args.piece.now / 2) c.args.piece.now;
  whole = take-append-drop _ _;
  told = search rules;
}
