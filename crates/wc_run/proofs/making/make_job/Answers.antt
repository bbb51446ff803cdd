use Rattle.std.proofs.Common.{sym, ◌∙◌}
use Rattle.wc_run.proofs.JobLists.{stays_none}
use Rattle.wc_run.proofs.Owning.{owned_left, owned_new}
use Rattle.wc_run.proofs.Passes.{parts_left, parts_new, unused_left, unused_new}
use Rattle.wc_run.proofs.making.make_job.Goals as goal

pub returns-in_err-codecs-clause-stays : goal.returns-in_err-codecs-clause-stays
returns-in_err-codecs-clause-stays g c = stays_none c.args.desk.now c.args.seats.now c.requires.sits

pub returns-in_err-parts-clause-stays : goal.returns-in_err-parts-clause-stays
returns-in_err-parts-clause-stays g c = stays_none c.args.desk.now c.args.seats.now c.requires.sits

pub split_passes-requires-clause-passes : goal.split_passes-requires-clause-passes
split_passes-requires-clause-passes g c = (c.args.desk.now.pool, c.requires.passes)

pub split_passes-requires-clause-parts : goal.split_passes-requires-clause-parts
split_passes-requires-clause-parts g c = (c.args.seats.now.pool.me.0.parts, c.requires.parts.passes, c.requires.two)

pub returns-clause-passes : goal.returns-clause-passes
returns-clause-passes g c = c.split_passes.ensures.passes c.args.desk.now.pool c.requires.passes

pub returns-clause-unused : goal.returns-clause-unused
returns-clause-unused g c none =
    let split = c.split_passes.ensures in
    let now = split.passes c.args.desk.now.pool c.requires.passes in
    unused_left c.args.passes.now.items c.split_passes.new.passes.items c.split_passes.result.items (c.requires.passes.many ∙ sym now.many) split.split none

pub returns-clause-new : goal.returns-clause-new
returns-clause-new g c =
    let e = c.split_seats.ensures in
    let split = c.split_passes.ensures in
    let passes = split.result c.args.desk.now.pool c.requires.passes in
    let many = c.requires.passes.many ∙ sym passes.many in
    let was = c.args.passes.now.items in
    let left = c.split_passes.new.passes.items in
    let new = c.split_passes.result.items in
    record {
      ready = record { sits = e.sits.1; passes = passes; one = record { seats = e.parts.1; passes = parts_new was left new many split.split }; runs = e.new_runs };
      unused = unused_new was left new many split.split;
      paid = record { balanced = e.new; ordered = c.order_stands.ensures.new c.args.desk.now c.args.seats.now c.split_seats.new.seats c.split_seats.result e.split };
      called = e.new_calls;
      owned = owned_new c.args.desk.now c.args.seats.now c.split_seats.new.seats c.split_seats.result e.split;
      first = (c.new-results.ensures.items, c.new-variables.ensures);
      timed = λ fits. c.time_stands.ensures.new fits c.args.desk.now c.args.seats.now c.split_seats.new.seats c.split_seats.result e.split;
    }

pub returns-clause-stays : goal.returns-clause-stays
returns-clause-stays g c =
    let e = c.split_seats.ensures in
    record {
      sits = e.sits.0;
      runs = λ x. e.runs x;
      paid = λ x. record { balanced = e.balanced x.balanced; ordered = c.order_stands.ensures.left c.args.desk.now c.args.seats.now c.split_seats.new.seats c.split_seats.result e.split x.ordered };
      calls = λ calls x. e.calls calls x;
      owned = λ mine x. owned_left c.args.desk.now mine c.args.seats.now c.split_seats.new.seats c.split_seats.result e.split x;
      timed = λ fits x. c.time_stands.ensures.left fits c.args.desk.now c.args.seats.now c.split_seats.new.seats c.split_seats.result e.split x;
    }

pub returns-clause-parts : goal.returns-clause-parts
returns-clause-parts g c =
    let split = c.split_passes.ensures in
    let now = split.passes c.args.desk.now.pool c.requires.passes in
    record {
      seats = c.split_seats.ensures.parts.0;
      passes = parts_left c.args.seats.now.pool.me.0.parts c.args.passes.now.items c.split_passes.new.passes.items c.split_passes.result.items (c.requires.passes.many ∙ sym now.many) split.split c.requires.parts.passes;
    }
