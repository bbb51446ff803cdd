use Rattle.std.proofs.Common.{arith}
use Rattle.desk_tests.proofs.Keeping.{kept_none, kept_then}
use Rattle.desk_tests.proofs.desks.call_each.Goals as goal

pub loop-codec-init : goal.loop-codec-init
loop-codec-init g c = record {
  kept = kept_none c.args.desk.now c.args.seats.now c.requires;
  end = omega (arith, c.args.desk.now.codecs.ok.0);
  below = omega arith;
}

pub loop-codec-preserved : goal.loop-codec-preserved
loop-codec-preserved g c =
    let i = c.loop-codec.invariant in
    record {
      kept = kept_then c.args.desk.now c.args.seats.now c.loop-codec.seats c.call_one.new.seats i.kept c.call_one.ensures;
      end = i.end;
      below = omega arith;
    }

pub returns-in_err-call_one : goal.returns-in_err-call_one
returns-in_err-call_one g c = kept_then c.args.desk.now c.args.seats.now c.loop-codec.seats c.call_one.new.seats c.loop-codec.invariant.kept c.call_one.ensures
