use Rattle.codec_desk.specs.DeskLaws.{settled_then}
use Rattle.desk_tests.proofs.Keeping.{kept_none, kept_then}
use Rattle.desk_tests.proofs.reclaims.configure_at.Goals as goal

pub returns-in_err-call : goal.returns-in_err-call
returns-in_err-call g c = kept_none c.args.desk.now c.args.seats.now c.requires.sits

pub returns-in_err-work_at : goal.returns-in_err-work_at
returns-in_err-work_at g c =
    let e = c.call_once.ensures in
    kept_then c.args.desk.now c.args.seats.now c.call_once.new.seats c.work_at.new.seats (record { sits = e.sits; settled = e.settled; runs = λ none. e.runs none }) c.work_at.ensures

pub returns : goal.returns
returns g c =
    let desk = c.args.desk.now in
    let a = c.args.seats.now in
    let called = c.call_once.ensures in
    let worked = c.work_at.ensures in
    let one = c.turn_once.ensures in
    let two = c.turn_once-2.ensures in
    record {
      sits = two.sits;
      settled =
          settled_then desk a c.work_at.new.seats c.turn_once-2.new.seats
          (settled_then desk a c.call_once.new.seats c.work_at.new.seats called.settled worked.settled)
          (settled_then desk c.work_at.new.seats c.turn_once.new.seats c.turn_once-2.new.seats one.settled two.settled);
      runs = λ none. two.runs (one.runs (worked.runs (called.runs none)));
    }
